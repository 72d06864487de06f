use Rattle.std.proofs.Common.{subst}
use Rattle.savi_kinds.specs.Ports.{number_of}
use Rattle.std.specs.Prelude.{reverse}
use Rattle.checkpoint.specs.Columns.{kept_base as base_kept}
use Rattle.savi_core.specs.Machines.{HasShortQueues}
use Rattle.savi_history.proofs.Depth.{queue_within}
use Rattle.savi_core.proofs.machine.Core.len.Goals as goal

pub returns-clause-within : goal.returns-clause-within
returns-clause-within c =
    let inside = c.self.inside in
    subst HasShortQueues c.self.view_is
    (λ port known. queue_within inside.ports (base_kept c.self.inside.checkpoint) (number_of port) (reverse inside.hist.rows))
