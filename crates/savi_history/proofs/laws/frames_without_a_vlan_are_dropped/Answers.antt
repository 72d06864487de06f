use Rattle.savi_history.proofs.FrameVlans.{without_vlan, no_outs}
use Rattle.savi_history.proofs.laws.frames_without_a_vlan_are_dropped.Goals as goal

pub returns : goal.returns
returns c = record {
  dropped = λ plan base past port stamp octets none. (without_vlan plan base past port stamp octets none).0;
  told = λ plan base past port stamp octets none. (without_vlan plan base past port stamp octets none).1;
  outs = λ plan base past port stamp octets none. no_outs plan base past port stamp octets none;
}
