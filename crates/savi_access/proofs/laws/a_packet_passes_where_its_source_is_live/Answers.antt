use Rattle.savi_access.proofs.Passing.{accessed}
use Rattle.savi_access.proofs.laws.a_packet_passes_where_its_source_is_live.Goals as goal

pub returns : goal.returns
returns c = λ r base vlan port t past class is right after early on host own off ipv6. accessed r base is vlan port t early past right after own on off class host ipv6
