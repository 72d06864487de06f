use Rattle.savi_laws.proofs.OwnMarks.{address_same, verdict_same, probe_same, frame_step}
use Rattle.savi_laws.proofs.laws.an_address_follows_from_its_own_marks.Goals as goal

pub returns : goal.returns
returns c = record {
  state = λ plan base other_base past other t vlan a start same. address_same plan base other_base past other vlan a start same t;
  verdict = λ plan base other_base past other t vlan port a start same room. verdict_same plan base other_base past other vlan a start same t port room;
  probe = λ plan base other_base past other t vlan port a start same room. probe_same plan base other_base past other vlan a start same t port room;
  step = λ plan base past port stamp vlan octets ip read comes. frame_step plan base past port stamp vlan octets ip read comes;
}
