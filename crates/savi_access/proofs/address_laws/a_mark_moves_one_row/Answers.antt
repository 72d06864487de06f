use Rattle.std.proofs.lemmas.Bool.{ne_eqb}
use Rattle.savi_access.proofs.TablesOf.{at_mark, answer_by_rows, at_other}
use Rattle.savi_access.proofs.address_laws.a_mark_moves_one_row.Goals as goal

pub returns : goal.returns
returns c = record {
  own = λ r base past named m times tables is. at_mark r base tables times named past m is;
  answer = λ r base past named m times tables is. answer_by_rows r base tables times named past m is;
  others = λ r base past named t vlan apart. at_other r base named past t vlan (ne_eqb named.vlan vlan apart);
}
