use Rattle.savi_access.proofs.Pointwise.{changed_at}
use Rattle.savi_access.proofs.row_laws.one_address_changes.Goals as goal

pub returns : goal.returns
returns c = changed_at
