-- What a frame is, as a function of its octets: each layer is read in turn, by tests that compute. That it is the one class
-- which `IsClassOf` allows is a law, `a_frame_has_its_class`.
use Rattle.std.specs.Prelude.{ℕ, ◌+◌, ◌==◌, ◌&&◌, ◌||◌, nat_lt, nat_le, not, Bool, if◌then◌else◌, List, length, Option, None}
use Rattle.std.specs.Result.{result_ok}
use Rattle.savi_kinds.specs.Prefixes.{multicast}
use Rattle.eth_frame.specs.declared.header.Eth.{Eth}
use Rattle.eth_frame.specs.Frame.{header_of as ethernet_of, payload_of}
use Rattle.eth_frame.specs.Tags.{is_tag}
use Rattle.v6_chain.specs.declared.packet.Ip.{Ip}
use Rattle.v6_chain.specs.declared.outcome.Chain.{Chain}
use Rattle.v6_chain.specs.declared.outcome.Chain.TheVariants as chains
use Rattle.v6_chain.specs.Packet.{header_fields, version_of}
use Rattle.v6_chain.specs.Outcome.{message_of}
use Rattle.v6_chain.specs.ChainOf.{chain_of}
use Rattle.nd_read.specs.declared.message.Nd.{Nd}
use Rattle.nd_read.specs.Messages.{kind_of}
use Rattle.nd_read.specs.InPrefix.{lies_in}
use Rattle.nd_read.specs.NdOf.{nd_of}
use Rattle.dhcp6_read.specs.declared.message.Dhcp.{Dhcp}
use Rattle.dhcp6_read.specs.DhcpOf.{dhcp_of}
use Rattle.frame_class.specs.declared.classes.Class.{Class}
use Rattle.frame_class.specs.declared.classes.Class.TheVariants.{Runt, Tagged, Other, BadIp, Ip6}
use Rattle.frame_class.specs.declared.classes.Read.{Read}
use Rattle.frame_class.specs.declared.classes.Read.TheVariants.{Bad, Hidden, Unknown, Later, Icmp, Udp, Plain}
use Rattle.frame_class.specs.Reading.{ipv6_type, destination_port, first_of_payload, udp_length, udp_payload}

-- the octets begin with a whole packet of version 6 whose source is one host's (RFC 8200 section 3)
abbrev pub is_packet : List ℕ → Bool
is_packet payload =
    (version_of payload == 6) && (nat_le (40 + (header_fields payload).len) (length payload) && not (lies_in (header_fields payload).src.0 multicast))

-- what an ICMPv6 message says for neighbor discovery: nothing behind a fragment header, nor where it is refused
abbrev pub discovery_of : Ip → List ℕ → Bool → Option Nd
discovery_of ip message fragmented = if fragmented then None else result_ok (nd_of ip message)

-- a whole datagram for DHCPv6, at the port of clients (546) or at that of servers and relays (547)
abbrev pub is_for_dhcp : List ℕ → Bool → Bool
is_for_dhcp message fragmented =
    not fragmented && (((destination_port message == 546) || (destination_port message == 547)) && (udp_length message == length message))

-- what a datagram says for DHCPv6: nothing where it isn't a whole one for it, nor where it is refused
abbrev pub dhcp_message_of : List ℕ → Bool → Option Dhcp
dhcp_message_of message fragmented = if is_for_dhcp message fragmented then result_ok (dhcp_of (udp_payload message)) else None

-- what a message of this protocol shows: ICMPv6 is 58 and UDP is 17
abbrev pub message_read_of : Ip → ℕ → List ℕ → Bool → Read
message_read_of ip proto message fragmented =
    if proto == 58 then Icmp (kind_of message) fragmented (discovery_of ip message fragmented) else (if proto == 17 then Udp (destination_port message) (first_of_payload message) fragmented (dhcp_message_of message fragmented) else Plain)

-- what is read of a packet whose header chain comes to this outcome
abbrev pub read_by : Ip → List ℕ → Chain → Read
read_by ip payload (chains.Bad fault) = Bad
read_by ip payload chains.Hidden = Hidden
read_by ip payload (chains.Unknown value) = Unknown
read_by ip payload chains.Later = Later
read_by ip payload (chains.Upper proto at fragmented) = message_read_of ip proto (message_of ip payload at) fragmented

-- what a packet shows behind its fixed header
abbrev pub read_of : Ip → List ℕ → Read
read_of ip payload = read_by ip payload (chain_of ip payload)

-- what a frame with this header is, by the IPv6 packet that it should carry
abbrev pub packet_class_of : Eth → List ℕ → Class
packet_class_of eth payload = if is_packet payload then Ip6 eth (header_fields payload) (read_of (header_fields payload) payload) else BadIp eth

-- what a frame with this header is, by its EtherType
abbrev pub typed_class_of : Eth → List ℕ → Class
typed_class_of eth payload =
    if is_tag eth.kind then Tagged eth else (if eth.kind == ipv6_type then packet_class_of eth payload else Other eth)

-- what a frame is
unfoldable pub class_of : List ℕ → Class
class_of frame = if nat_lt (length frame) 14 then Runt else typed_class_of (ethernet_of frame) (payload_of frame)
