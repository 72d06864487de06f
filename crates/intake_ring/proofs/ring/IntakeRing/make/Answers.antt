use Rattle.std.proofs.Common.{rules}
use Rattle.intake_ring.proofs.Rules.{begins, forks}
use Rattle.intake_ring.proofs.ring.IntakeRing.make.Goals as goal

pub ruled-requires-clause-rule : goal.ruled-requires-clause-rule
ruled-requires-clause-rule g c = begins

pub another-other-requires-clause-rule : goal.another-other-requires-clause-rule
another-other-requires-clause-rule g c = forks _ _ (search rules) (search rules)
