use Rattle.std.proofs.lemmas.Bool.{ne_eqb}
use Rattle.savi_access.proofs.OtherVlans.{leaves_judged}
use Rattle.savi_access.proofs.laws.a_frame_leaves_other_vlans.Goals as goal

pub returns : goal.returns
returns c r base vlan other port t past class apart = leaves_judged r base vlan other (ne_eqb vlan other apart) port t past class
