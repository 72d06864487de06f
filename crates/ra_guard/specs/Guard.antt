-- The rules on messages, each with the frames to which it applies, and which of them is given.
use Rattle.std.specs.Prelude.{◌≡◌, ◌≢◌, ℕ, ◌*◌, ◌^◌, ◌<◌, ◌≤◌, ◌==◌, ◌&&◌, ◌⊎◌, nat_lt, Bool, true, false, IsTrue, slice_index, Option, Some, None}
use Rattle.savi_kinds.specs.declared.plan.Role.{Role}
use Rattle.savi_kinds.specs.declared.plan.Role.TheVariants as roles
use Rattle.savi_kinds.specs.declared.verdict.Rule.{Rule}
use Rattle.savi_kinds.specs.declared.verdict.Rule.TheVariants as rules
use Rattle.savi_kinds.specs.declared.address.Mac.{Mac}
use Rattle.savi_kinds.specs.declared.address.Prefix.{Prefix}
use Rattle.savi_kinds.specs.Prefixes.{LiesIn}
use Rattle.savi_kinds.specs.Rules.{rule_number}
use Rattle.savi_kinds.specs.Macs.{is_group}
use Rattle.eth_frame.specs.declared.header.Eth.{Eth}
use Rattle.v6_chain.specs.declared.packet.Ip.{Ip}
use Rattle.nd_read.specs.declared.message.Nd.{Nd}
use Rattle.frame_class.specs.declared.classes.Class.{Class}
use Rattle.frame_class.specs.declared.classes.Class.TheVariants.{Runt, Tagged, Other, BadIp, Ip6}
use Rattle.frame_class.specs.declared.classes.Read.TheVariants.{Bad, Hidden, Unknown, Icmp, Udp}

-- 01-80-C2-00-00-00 to 01-80-C2-00-00-0F, which no bridge forwards (IEEE 802.1Q table 8-1)
abbrev pub is_reserved : Mac → Bool
is_reserved mac = (slice_index mac.0 0 == 0x01) && (slice_index mac.0 1 == 0x80) && (slice_index mac.0 2 == 0xc2)
    && (slice_index mac.0 3 == 0) && (slice_index mac.0 4 == 0) && nat_lt (slice_index mac.0 5) 16

-- fe80::/10, the link-local unicast addresses (RFC 4291 section 2.5.6)
abbrev pub link_local_unicast : Prefix
link_local_unicast = record { net = record { 0 = 0xfe80 * 2 ^ 112 }; len = 10 }

-- the frame has an Ethernet header with this property
abbrev pub HasEth : (Eth → Type 0) → Class → Type 0
HasEth Is Runt = ⊥
HasEth Is (Tagged eth) = Is eth
HasEth Is (Other eth) = Is eth
HasEth Is (BadIp eth) = Is eth
HasEth Is (Ip6 eth ip read) = Is eth

abbrev pub IsTagged : Class → Type 0
IsTagged (Tagged eth) = Unit {0}
IsTagged _ = ⊥

-- the fixed header of the packet or its header chain is at fault
abbrev pub IsBad : Class → Type 0
IsBad (BadIp eth) = Unit {0}
IsBad (Ip6 eth ip Bad) = Unit {0}
IsBad _ = ⊥

-- a first fragment whose header chain isn't whole
abbrev pub IsHidden : Class → Type 0
IsHidden (Ip6 eth ip Hidden) = Unit {0}
IsHidden _ = ⊥

-- the header chain ends at a next header that isn't known
abbrev pub IsUnknown : Class → Type 0
IsUnknown (Ip6 eth ip Unknown) = Unit {0}
IsUnknown _ = ⊥

-- an ICMPv6 message with this property, by its packet, its type, whether a fragment header stands before it, and what it
-- says for neighbor discovery
abbrev pub HasIcmp : (Ip → ℕ → Bool → Option Nd → Type 0) → Class → Type 0
HasIcmp Is (Ip6 eth ip (Icmp kind fragmented nd)) = Is ip kind fragmented nd
HasIcmp Is _ = ⊥

-- a UDP datagram with this property, by its destination port and the first octet of its payload
abbrev pub HasUdp : (ℕ → Option ℕ → Type 0) → Class → Type 0
HasUdp Is (Ip6 eth ip (Udp to first fragmented dhcp)) = Is to first
HasUdp Is _ = ⊥

-- a router advertisement (type 134) with a source and a hop limit that hosts take: link-local, and 255 (RFC 4861 section
-- 6.1.2)
abbrev pub IsRouterAdvert : Ip → ℕ → Type 0
IsRouterAdvert ip kind = (kind ≡ 134) × LiesIn ip.src.0 link_local_unicast × (ip.hop ≡ 255)

-- the types of neighbor discovery: 133 to 137 (RFC 4861 section 4)
abbrev pub IsDiscovery : ℕ → Type 0
IsDiscovery kind = (133 ≤ kind) × (kind ≤ 137)

-- router solicitation, neighbor solicitation and neighbor advertisement
abbrev pub IsValidatedType : ℕ → Type 0
IsValidatedType kind = (kind ≡ 133) ⊎ ((kind ≡ 135) ⊎ (kind ≡ 136))

-- A datagram to a DHCPv6 client (port 546), or one to a server or relay (port 547) with a message that relays and servers
-- send one another: Relay-forw (12) or Relay-repl (13).
abbrev pub IsFromServer : ℕ → Option ℕ → Type 0
IsFromServer to first = (to ≡ 546) ⊎ ((to ≡ 547) × ((first ≡ Some 12) ⊎ (first ≡ Some 13)))

-- The rule applies to a frame of this class at a port of this role; packets with a next header that isn't known are
-- dropped where the plan says so.
abbrev pub Applies : Role → Bool → Class → Rule → Type 0
-- fewer than 14 octets (IEEE 802.3 section 3.1.1)
Applies role drop_unknown class rules.Malformed = class ≡ Runt
-- the destination is one that no bridge forwards (IEEE 802.1Q table 8-1)
Applies role drop_unknown class rules.ReservedGroup = HasEth (λ eth. IsTrue (is_reserved eth.dst)) class
-- the source has the group bit (IEEE 802.3 section 3.2.3)
Applies role drop_unknown class rules.SourceMac = HasEth (λ eth. IsTrue (is_group eth.src)) class
-- a VLAN tag (IEEE 802.1Q clause 9)
Applies role drop_unknown class rules.Tagged = (role ≢ roles.Trusted) × IsTagged class
-- a fault in the header or in the header chain (RFC 8200 sections 3 and 4)
Applies role drop_unknown class rules.BadIpv6 = (role ≢ roles.Trusted) × IsBad class
-- a first fragment without its whole header chain (RFC 7112 section 5)
Applies role drop_unknown class rules.HiddenUpper = (role ≢ roles.Trusted) × IsHidden class
-- a next header that isn't known (RFC 7113 section 3)
Applies role drop_unknown class rules.UnknownNextHeader = (role ≢ roles.Trusted) × IsTrue drop_unknown × IsUnknown class
-- a router advertisement (RFC 6105, RFC 7113 section 3), fragmented or not
Applies role drop_unknown class rules.RouterAdvert =
    (role ≢ roles.Trusted) × HasIcmp (λ ip kind fragmented nd. IsRouterAdvert ip kind) class
-- fragmented neighbor discovery (RFC 6980 section 5)
Applies role drop_unknown class rules.FragmentedNd =
    (role ≢ roles.Trusted) × HasIcmp (λ ip kind fragmented nd. IsDiscovery kind × (fragmented ≡ true)) class
-- a message of neighbor discovery that fails its validation (RFC 4861 sections 6.1.1, 7.1.1 and 7.1.2)
Applies role drop_unknown class rules.BadNd =
    (role ≢ roles.Trusted) × HasIcmp (λ ip kind fragmented nd. IsValidatedType kind × (fragmented ≡ false) × (nd ≡ None)) class
-- a redirect (type 137, RFC 4861 section 8), which only routers send
Applies role drop_unknown class rules.Redirect =
    (role ≢ roles.Trusted) × HasIcmp (λ ip kind fragmented nd. kind ≡ 137) class
-- at the port of a host, a DHCPv6 message that only a server or a relay sends (RFC 8415 section 7, RFC 7610 section 5)
Applies role drop_unknown class rules.DhcpServer = (role ≡ roles.Host) × HasUdp IsFromServer class
-- the other rules aren't on messages
Applies role drop_unknown class _ = ⊥

-- no rule with a lesser number than this has the property
abbrev pub NoneBefore : (Rule → Type 0) → ℕ → Type 0
NoneBefore Has number = (rule : Rule) → rule_number rule < number → ¬ Has rule

-- the rule with the least number of those that have the property, or None where none has it
abbrev pub IsFirst : (Rule → Type 0) → Option Rule → Type 0
IsFirst Has (Some rule) = Has rule × NoneBefore Has (rule_number rule)
IsFirst Has None = (rule : Rule) → ¬ Has rule
