use Rattle.savi_access.proofs.TablesOf.{table_at, states_at}
use Rattle.savi_access.proofs.address_laws.rows_are_the_states.Goals as goal

pub returns : goal.returns
returns c = record {
  table = λ r base past t vlan tables. table_at r base tables past t vlan;
  states = λ r base past t vlan a times tables. states_at r base tables times past t vlan a;
}
