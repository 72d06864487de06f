use Rattle.std.proofs.Common.{◌∙◌}
use Rattle.std.specs.Net.Addr.{IsIpv6OfBits}
use Rattle.savi_kinds.proofs.AddrSpelling.{groups-octets}
use Rattle.savi_kinds.proofs.addr_text.groups_of.Goals as goal

pub returns : goal.returns
unfolding IsIpv6OfBits
returns c = c.segments.ensures ∙ c.from_bits.ensures ∙ groups-octets c.args.a.0
