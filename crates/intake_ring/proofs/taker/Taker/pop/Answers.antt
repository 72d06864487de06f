use Rattle.std.proofs.Common.{ap}
use Rattle.intake_ring.proofs.Rules.{pops}
use Rattle.intake_ring.proofs.taker.Taker.pop.Goals as goal

pub pop_as-requires-clause-rule : goal.pop_as-requires-clause-rule
pop_as-requires-clause-rule g c = (pops _ _ (ap (λ v. v.takes) c.args.self.now.takes), c.requires.learns)
