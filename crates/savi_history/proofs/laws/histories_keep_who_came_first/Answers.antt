use Rattle.savi_history.proofs.CameFirst.{kept_since, all_keep}
use Rattle.savi_history.proofs.laws.histories_keep_who_came_first.Goals as goal

pub returns : goal.returns
returns c = record {
  all = λ plan base past valid within on legal bytes. all_keep plan valid base within on past legal bytes;
  next = λ plan base early late p q stamp octets vlan eth ip read valid within on legal bytes may vlan_is class_is host live apart passed.
      kept_since plan valid base within early late legal bytes on p q stamp octets vlan eth ip read may vlan_is class_is host live apart passed;
}
