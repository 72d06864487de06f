use Rattle.ra_learn.proofs.Limits.{tables_within}
use Rattle.ra_learn.proofs.laws.tables_stay_within_limits.Goals as goal

pub returns : goal.returns
returns c = tables_within
