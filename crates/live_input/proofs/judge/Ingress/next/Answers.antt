use Rattle.parcel_ring.specs.Sides.{was_taken}
use Rattle.live_input.proofs.Judging.{next_kept, next_taken}
use Rattle.std.proofs.Common.{sym, ◌∙◌}
use Rattle.live_input.proofs.judge.Ingress.next.Goals as goal

pub returns-in-Some-clause-next : goal.returns-in-Some-clause-next
returns-in-Some-clause-next g c = λ entered was.
    next_kept entered (was_taken c.args.self.now.taker) c.args.self.now.kept c.in-Some.parcel (sym c.take.ensures.value ∙ c.in-Some.is) was

pub returns-in-None-clause-next : goal.returns-in-None-clause-next
returns-in-None-clause-next g c = λ entered was.
    next_taken entered (was_taken c.args.self.now.taker) (was_taken c.take-in-None.new.self) c.args.self.now.kept c.take-in-None.result (sym c.take.ensures.value ∙ c.in-None.is) c.take-in-None.ensures.taken was
