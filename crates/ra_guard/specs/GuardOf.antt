-- The rule of the guard as a function: the first of the rules on messages, in the order of their numbers, whose condition
-- holds, each condition as a test that computes. That it is the one rule which `IsFirst` allows is a law,
-- `a_class_has_its_rule`.
use Rattle.std.specs.Prelude.{ℕ, ◌==◌, ◌&&◌, ◌||◌, nat_le, not, Bool, true, false, List, [], ◌∷◌, find, Option, Some, None, is_none}
use Rattle.savi_kinds.specs.declared.plan.Role.{Role}
use Rattle.savi_kinds.specs.declared.plan.Role.TheVariants as roles
use Rattle.savi_kinds.specs.declared.verdict.Rule.{Rule}
use Rattle.savi_kinds.specs.declared.verdict.Rule.TheVariants as rules
use Rattle.savi_kinds.specs.Macs.{is_group}
use Rattle.eth_frame.specs.declared.header.Eth.{Eth}
use Rattle.v6_chain.specs.declared.packet.Ip.{Ip}
use Rattle.nd_read.specs.declared.message.Nd.{Nd}
use Rattle.nd_read.specs.InPrefix.{lies_in}
use Rattle.frame_class.specs.declared.classes.Class.{Class}
use Rattle.frame_class.specs.declared.classes.Class.TheVariants.{Runt, Tagged, Other, BadIp, Ip6}
use Rattle.frame_class.specs.declared.classes.Read.TheVariants.{Bad, Hidden, Unknown, Icmp, Udp}
use Rattle.ra_guard.specs.Guard.{is_reserved, link_local_unicast}

-- a port whose sources are validated
abbrev pub is_validating : Role → Bool
is_validating roles.Host = true
is_validating roles.Server = true
is_validating roles.Trusted = false

abbrev pub is_host : Role → Bool
is_host roles.Host = true
is_host roles.Server = false
is_host roles.Trusted = false

abbrev pub is_runt : Class → Bool
is_runt Runt = true
is_runt _ = false

-- the frame has an Ethernet header with this property
abbrev pub has_eth : (Eth → Bool) → Class → Bool
has_eth is Runt = false
has_eth is (Tagged eth) = is eth
has_eth is (Other eth) = is eth
has_eth is (BadIp eth) = is eth
has_eth is (Ip6 eth ip read) = is eth

abbrev pub is_tagged : Class → Bool
is_tagged (Tagged eth) = true
is_tagged _ = false

-- the fixed header of the packet or its header chain is at fault
abbrev pub is_bad : Class → Bool
is_bad (BadIp eth) = true
is_bad (Ip6 eth ip Bad) = true
is_bad _ = false

-- a first fragment whose header chain isn't whole
abbrev pub is_hidden : Class → Bool
is_hidden (Ip6 eth ip Hidden) = true
is_hidden _ = false

-- the header chain ends at a next header that isn't known
abbrev pub is_unknown : Class → Bool
is_unknown (Ip6 eth ip Unknown) = true
is_unknown _ = false

-- an ICMPv6 message with this property, by its packet, its type, whether a fragment header stands before it, and what it
-- says for neighbor discovery
abbrev pub has_icmp : (Ip → ℕ → Bool → Option Nd → Bool) → Class → Bool
has_icmp is (Ip6 eth ip (Icmp kind fragmented nd)) = is ip kind fragmented nd
has_icmp is _ = false

-- a UDP datagram with this property, by its destination port and the first octet of its payload
abbrev pub has_udp : (ℕ → Option ℕ → Bool) → Class → Bool
has_udp is (Ip6 eth ip (Udp to first fragmented dhcp)) = is to first
has_udp is _ = false

-- a router advertisement (type 134) that hosts take: from a link-local address, with hop limit 255 (RFC 4861 section 6.1.2)
abbrev pub is_router_advert : Ip → ℕ → Bool
is_router_advert ip kind = (kind == 134) && (lies_in ip.src.0 link_local_unicast && (ip.hop == 255))

-- the types of neighbor discovery: 133 to 137 (RFC 4861 section 4)
abbrev pub is_discovery : ℕ → Bool
is_discovery kind = nat_le 133 kind && nat_le kind 137

-- router solicitation, neighbor solicitation and neighbor advertisement
abbrev pub is_validated : ℕ → Bool
is_validated kind = (kind == 133) || ((kind == 135) || (kind == 136))

-- there is an octet, and it is this one
abbrev pub is_octet : ℕ → Option ℕ → Bool
is_octet octet None = false
is_octet octet (Some first) = first == octet

-- A datagram to a DHCPv6 client (port 546), or one to a server or relay (port 547) with a message that relays and servers
-- send one another: Relay-forw (12) or Relay-repl (13).
abbrev pub is_from_server : ℕ → Option ℕ → Bool
is_from_server to first = (to == 546) || ((to == 547) && (is_octet 12 first || is_octet 13 first))

-- the rule applies to a frame of this class at a port of this role
abbrev pub applies : Role → Bool → Class → Rule → Bool
applies role drop_unknown class rules.Malformed = is_runt class
applies role drop_unknown class rules.ReservedGroup = has_eth (λ eth. is_reserved eth.dst) class
applies role drop_unknown class rules.SourceMac = has_eth (λ eth. is_group eth.src) class
applies role drop_unknown class rules.Tagged = is_validating role && is_tagged class
applies role drop_unknown class rules.BadIpv6 = is_validating role && is_bad class
applies role drop_unknown class rules.HiddenUpper = is_validating role && is_hidden class
applies role drop_unknown class rules.UnknownNextHeader = is_validating role && (drop_unknown && is_unknown class)
applies role drop_unknown class rules.RouterAdvert =
    is_validating role && has_icmp (λ ip kind fragmented nd. is_router_advert ip kind) class
applies role drop_unknown class rules.FragmentedNd =
    is_validating role && has_icmp (λ ip kind fragmented nd. is_discovery kind && fragmented) class
applies role drop_unknown class rules.BadNd =
    is_validating role && has_icmp (λ ip kind fragmented nd. is_validated kind && (not fragmented && is_none nd)) class
applies role drop_unknown class rules.Redirect = is_validating role && has_icmp (λ ip kind fragmented nd. kind == 137) class
applies role drop_unknown class rules.DhcpServer = is_host role && has_udp is_from_server class
applies role drop_unknown class _ = false

-- the rules on messages, in the order of their numbers
abbrev pub message_rules : List Rule
message_rules =
    rules.Malformed
    ∷ rules.ReservedGroup
    ∷ rules.SourceMac
    ∷ rules.Tagged
    ∷ rules.BadIpv6
    ∷ rules.HiddenUpper
    ∷ rules.UnknownNextHeader
    ∷ rules.RouterAdvert
    ∷ rules.FragmentedNd
    ∷ rules.BadNd
    ∷ rules.Redirect
    ∷ rules.DhcpServer
    ∷ []

-- the rule that stops a frame of this class at a port of this role, if one does
unfoldable pub guard_of : Role → Bool → Class → Option Rule
guard_of role drop_unknown class = find (applies role drop_unknown class) message_rules
