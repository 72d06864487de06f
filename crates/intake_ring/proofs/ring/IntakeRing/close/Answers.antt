use Rattle.std.proofs.Common.{ap}
use Rattle.intake_ring.proofs.Rules.{merges, totals}
use Rattle.intake_ring.proofs.ring.IntakeRing.close.Goals as goal

pub absorb-requires-clause-rule : goal.absorb-requires-clause-rule
absorb-requires-clause-rule g c = merges _ _ _ _ (ap (λ v. v.puts) c.args.filler.puts) (ap (λ v. v.takes) c.args.taker.takes)

pub learn_as-requires-clause-rule : goal.learn_as-requires-clause-rule
learn_as-requires-clause-rule g c = totals _ _ (ap (λ v. v.puts) c.absorb.ensures.rule) (ap (λ v. v.takes) c.absorb.ensures.rule)
