use Rattle.std.proofs.Common.{rules}
use Rattle.ra_learn.proofs.learner.Learner.hear.Goals as goal

pub returns-then-passes-clause-after : goal.returns-then-passes-clause-after
returns-then-passes-clause-after c = search rules
