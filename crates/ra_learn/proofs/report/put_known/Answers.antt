use Rattle.std.proofs.Common.{rules}
use Rattle.ra_learn.proofs.report.put_known.Goals as goal

pub returns-clause-items : goal.returns-clause-items
returns-clause-items c = search rules
