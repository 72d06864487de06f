use Rattle.savi_access.proofs.TablesOf.{changes}
use Rattle.savi_access.proofs.address_laws.a_change_is_one_of_the_rows.Goals as goal

pub returns : goal.returns
returns c = λ r base past from t vlan times tables after. changes r base tables times past from t vlan after
