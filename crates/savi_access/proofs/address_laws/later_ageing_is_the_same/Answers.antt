use Rattle.savi_access.proofs.TablesOf.{states_later, rows-later}
use Rattle.savi_access.proofs.address_laws.later_ageing_is_the_same.Goals as goal

pub returns : goal.returns
returns c = record {
  state = λ r base past t u vlan a times after. states_later r base times past t u vlan a after;
  rows = λ r base past t u vlan times tables after. rows-later r base tables times past t u vlan after;
}
