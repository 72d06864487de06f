use Rattle.savi_history.proofs.InVlan.{same_in_vlan}
use Rattle.savi_history.proofs.laws.a_vlan_follows_from_what_happens_in_it.Goals as goal

pub returns : goal.returns
returns c vlan plan base past other legal other_legal same = same_in_vlan vlan plan base past other legal other_legal same
