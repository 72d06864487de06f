use Rattle.std.proofs.Common.{◌+◌, ℕ, ap, ◌∙◌, arith}
use Rattle.savi_history.specs.Passes.{control_pass}
use Rattle.savi_core.specs.Counts.{open_below}
use Rattle.savi_core.specs.Machines.{Machine, base_of}
use Rattle.savi_core.specs.PassMarks.{open_among}
use Rattle.savi_core.proofs.Remembering.{open_is}
use Rattle.savi_core.proofs.machine.Core.inputs_left.Goals as goal

pub returns : goal.returns
returns c =
    let inside = c.self.inside in
    c.inputs_left.ensures
    ∙ ap (λ (n : ℕ). open_among inside.passes.ended n) c.self.invariant.3
    ∙ open_is c.self.invariant.0 (control_pass inside.ports + 1) (omega arith)
    ∙ ap (λ (m : Machine). open_below (base_of m) m.past (control_pass m.plan + 1)) c.self.view_is
