use Rattle.savi_laws.proofs.Raising.{frame_raises, frame_gives}
use Rattle.savi_laws.proofs.laws.a_frame_fills_no_other_port.Goals as goal

pub returns : goal.returns
returns c = record {
  address = λ plan base past port q stamp octets vlan a within apart free held. frame_gives plan base past port q stamp octets within apart vlan a free held;
  count = λ plan base past port q stamp octets within apart more. frame_raises plan base past port q stamp octets within apart more;
}
