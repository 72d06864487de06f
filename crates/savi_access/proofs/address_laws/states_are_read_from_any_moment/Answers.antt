use Rattle.savi_access.proofs.TablesOf.{cut_at}
use Rattle.savi_access.proofs.Cuts.{in_turn, cut_rows, cut_legal, joined_legal}
use Rattle.savi_access.proofs.address_laws.states_are_read_from_any_moment.Goals as goal

pub returns : goal.returns
returns c = record {
  legal = λ r base early late t0 t times tables turn before. (λ whole. cut_legal r base tables times early t0 late t turn whole, λ parts. joined_legal r base tables times early t0 before late t turn parts.0 parts.1);
  turn = λ r base past t right after. in_turn r base past t right after;
  rows = λ r base early late t0 t vlan times tables turn. cut_rows r base tables times early t0 late t vlan turn;
  states = λ r base early late t0 t vlan a times tables turn. cut_at r base tables times early late t0 t vlan a turn;
}
