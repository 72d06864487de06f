use Rattle.std.proofs.Common.{◌<◌, ℕ, IfSome, subst}
use Rattle.savi_access.specs.Ages.{AllStill}
use Rattle.access_table.specs.Kept.{Kept}
use Rattle.access_table.proofs.table.AccessTable.first_due.Goals as goal

pub returns-clause-later : goal.returns-clause-later
returns-clause-later c = subst (λ (k : Kept). IfSome c.first_due.result (λ due. (u : ℕ) → AllStill k.addresses.times u k.addresses.rows → u < due)) c.self.view_is c.first_due.ensures.later
