use Rattle.std.proofs.Common.{subst, take, IfSome}
use Rattle.savi_kinds.specs.Arrivals as arrivals
use Rattle.port_worker.specs.declared.port_ends.Ahead.{Ahead}
use Rattle.port_worker.specs.Inputs.{turn_ahead}
use Rattle.port_worker.specs.Steps.{HasRoomFor}
use Rattle.port_worker.proofs.Entering.{entered_arrival}
use Rattle.port_worker.proofs.port_ends.PortEnds.enter.Goals as goal

pub returns-in-Frame-clause-entered : goal.returns-in-Frame-clause-entered
returns-in-Frame-clause-entered g c =
    let ends = c.args.self.now in
    let old = c.args.core.now in
    rw c.in-Frame.is
    (entered_arrival old c.step-entry.new.self ends.port (arrivals.Frame c.in-Frame.stamp (take c.in-Frame.len ends.buf))
    (subst (λ (a : Ahead). IfSome (turn_ahead ends.port ends.buf a) (λ turn. HasRoomFor old.plan old.past turn)) c.in-Frame.is c.requires.room) c.step-entry.result c.step-entry.ensures)
