use Rattle.savi_access.proofs.OwnVlan.{same_judged}
use Rattle.savi_access.proofs.laws.a_frame_reads_its_own_vlan.Goals as goal

pub returns : goal.returns
returns c r base vlan port t past other class same = same_judged r base vlan port t past other class same
