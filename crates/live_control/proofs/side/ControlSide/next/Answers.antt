use Rattle.std.proofs.Common.{sym, ◌∙◌}
use Rattle.intake_ring.specs.Sides.{taken_of}
use Rattle.live_control.proofs.Passing.{next_kept, next_taken}
use Rattle.live_control.proofs.side.ControlSide.next.Goals as goal

pub returns-in-Some-clause-next : goal.returns-in-Some-clause-next
returns-in-Some-clause-next g c = λ entered was.
    next_kept entered (taken_of c.args.self.now.taker) c.args.self.now.kept c.in-Some.came (sym c.take.ensures.value ∙ c.in-Some.is) was

pub returns-in-None-clause-next : goal.returns-in-None-clause-next
returns-in-None-clause-next g c = λ entered was.
    next_taken entered (taken_of c.args.self.now.taker) (taken_of c.take-in-None.new.self) c.args.self.now.kept c.take-in-None.result (sym c.take.ensures.value ∙ c.in-None.is) c.take-in-None.ensures.taken was
