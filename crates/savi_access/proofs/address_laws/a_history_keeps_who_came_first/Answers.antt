use Rattle.savi_access.specs.NamedMarks.{mark_of}
use Rattle.savi_access.proofs.AddrFirstCome.{keeps, keeps_from}
use Rattle.savi_access.proofs.address_laws.a_history_keeps_who_came_first.Goals as goal

pub returns : goal.returns
returns c = record {
  kept = λ r base from t0 t early late vlan a m port times is sound before run live over. keeps r base times vlan a m is sound from t0 early late before port live t run over;
  packets = λ r base from t0 early late named m p q times is sound before run sent differ live passing. keeps_from r base times named.vlan named.address m is sound from t0 early late before p live (mark_of named) q run sent differ passing;
}
