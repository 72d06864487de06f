-- What a frame is, in the terms of each layer: Ethernet (RFC 2464), the IPv6 header and the header chain (RFC 8200, RFC
-- 7112), ICMPv6 with neighbor discovery (RFC 4443, RFC 4861), and UDP with DHCPv6 (RFC 768, RFC 8415).
use Rattle.std.specs.Prelude.{◌≡◌, ◌≢◌, ℕ, ◌<◌, ◌≤◌, ◌⊎◌, Bool, true, false, List, length, drop, Option, Some, None, Ok, Err, slice_get}
use Rattle.byteorder.specs.Endian.{big_number}
use Rattle.eth_frame.specs.declared.header.Eth.{Eth}
use Rattle.eth_frame.specs.Frame.{header_of, payload_of}
use Rattle.v6_chain.specs.declared.packet.Ip.{Ip}
use Rattle.v6_chain.specs.declared.packet.IpFault.{IpFault}
use Rattle.v6_chain.specs.declared.outcome.Chain.{Chain}
use Rattle.v6_chain.specs.declared.outcome.Chain.TheVariants as chains
use Rattle.v6_chain.specs.Packet.{IsPacket, IsRefused}
use Rattle.v6_chain.specs.Outcome.{IsOutcome, message_of}
use Rattle.nd_read.specs.declared.message.Nd.{Nd}
use Rattle.nd_read.specs.declared.message.NdFault.{NdFault}
use Rattle.nd_read.specs.Messages.{kind_of}
use Rattle.nd_read.specs.Tests.{Reads}
use Rattle.dhcp6_read.specs.declared.message.Dhcp.{Dhcp}
use Rattle.dhcp6_read.specs.declared.message.DhcpFault.{DhcpFault}
use Rattle.dhcp6_read.specs.Message.{Reads as ReadsDhcp}
use Rattle.frame_class.specs.declared.classes.Class.{Class}
use Rattle.frame_class.specs.declared.classes.Class.TheVariants.{Runt, Tagged, Other, BadIp, Ip6}
use Rattle.frame_class.specs.declared.classes.Read.{Read}
use Rattle.frame_class.specs.declared.classes.Read.TheVariants.{Bad, Hidden, Unknown, Later, Icmp, Udp, Plain}

-- the EtherType of IPv6 (RFC 2464 section 3)
abbrev pub ipv6_type : ℕ
ipv6_type = 0x86dd

-- the EtherType of a customer tag or of a service tag (IEEE 802.1Q)
abbrev pub IsTag : ℕ → Type 0
IsTag kind = (kind ≡ 0x8100) ⊎ (kind ≡ 0x88a8)

-- the octets begin with this Ethernet header
pub record HasHeader (frame : List ℕ) (eth : Eth) : Type 0 where
  pub long : 14 ≤ length frame
  pub header : eth ≡ header_of frame

-- the destination port of a UDP header (RFC 768)
abbrev pub destination_port : List ℕ → ℕ
destination_port message = big_number 2 (drop 2 message)

-- the first octet behind a UDP header, if there is one
abbrev pub first_of_payload : List ℕ → Option ℕ
first_of_payload message = slice_get message 8

-- what an ICMPv6 message says for neighbor discovery: nothing behind a fragment header, nor where it is refused
abbrev pub IsNdOf : Ip → List ℕ → Bool → Option Nd → Type 0
IsNdOf ip message fragmented (Some nd) = (fragmented ≡ false) × Reads ip message (Ok nd)
IsNdOf ip message fragmented None = (fragmented ≡ true) ⊎ ((fault : NdFault) × Reads ip message (Err fault))

-- the length of header and payload that a UDP header says (RFC 768)
abbrev pub udp_length : List ℕ → ℕ
udp_length message = big_number 2 (drop 4 message)

-- what stands behind a UDP header of 8 octets
abbrev pub udp_payload : List ℕ → List ℕ
udp_payload message = drop 8 message

-- A whole datagram for DHCPv6: no fragment header stands before it, it goes to the port of clients (546) or to that of
-- servers and relays (547) (RFC 8415 section 7.2), and it is as long as its header says.
pub record IsForDhcp (message : List ℕ) (fragmented : Bool) : Type 0 where
  pub whole : fragmented ≡ false
  pub port : (destination_port message ≡ 546) ⊎ (destination_port message ≡ 547)
  pub len : udp_length message ≡ length message

-- what a datagram says for DHCPv6: nothing where it isn't a whole one for it, nor where it is refused
abbrev pub IsDhcpOf : List ℕ → Bool → Option Dhcp → Type 0
IsDhcpOf message fragmented (Some dhcp) = IsForDhcp message fragmented × ReadsDhcp (udp_payload message) (Ok dhcp)
IsDhcpOf message fragmented None =
    (¬ IsForDhcp message fragmented) ⊎ ((fault : DhcpFault) × ReadsDhcp (udp_payload message) (Err fault))

-- what a message of this protocol shows: ICMPv6 is 58 and UDP is 17
abbrev pub IsMessageRead : Ip → ℕ → List ℕ → Bool → Read → Type 0
IsMessageRead ip proto message behind_fragment (Icmp kind fragmented nd) =
    (proto ≡ 58) × (kind ≡ kind_of message) × (fragmented ≡ behind_fragment) × IsNdOf ip message fragmented nd
IsMessageRead ip proto message behind_fragment (Udp to first fragmented dhcp) =
    (proto ≡ 17) × (to ≡ destination_port message) × (first ≡ first_of_payload message)
    × (fragmented ≡ behind_fragment) × IsDhcpOf message fragmented dhcp
IsMessageRead ip proto message behind_fragment Plain = (proto ≢ 58) × (proto ≢ 17)
IsMessageRead ip proto message behind_fragment _ = ⊥

-- what is read of a packet whose header chain comes to this outcome
abbrev pub IsReadBy : Ip → List ℕ → Chain → Read → Type 0
IsReadBy ip payload (chains.Bad fault) read = read ≡ Bad
IsReadBy ip payload chains.Hidden read = read ≡ Hidden
IsReadBy ip payload (chains.Unknown value) read = read ≡ Unknown
IsReadBy ip payload chains.Later read = read ≡ Later
IsReadBy ip payload (chains.Upper proto at fragmented) read = IsMessageRead ip proto (message_of ip payload at) fragmented read

-- what a packet shows behind its fixed header
abbrev pub IsReadOf : Ip → List ℕ → Read → Type 0
IsReadOf ip payload read = (outcome : Chain) × IsOutcome ip payload outcome × IsReadBy ip payload outcome read

-- what a frame with this header is, by the IPv6 packet that it should carry
abbrev pub IsPacketClass : Eth → List ℕ → Class → Type 0
IsPacketClass eth payload (BadIp header) = (header ≡ eth) × ((fault : IpFault) × IsRefused payload fault)
IsPacketClass eth payload (Ip6 header ip read) = (header ≡ eth) × IsPacket payload ip × IsReadOf ip payload read
IsPacketClass eth payload _ = ⊥

-- what a frame with this header is, by its EtherType and what stands behind the header
abbrev pub IsTypedClass : Eth → List ℕ → Class → Type 0
IsTypedClass eth payload Runt = ⊥
IsTypedClass eth payload (Tagged header) = (header ≡ eth) × IsTag eth.kind
IsTypedClass eth payload (Other header) = (header ≡ eth) × (eth.kind ≢ ipv6_type) × ¬ IsTag eth.kind
IsTypedClass eth payload (BadIp header) = (eth.kind ≡ ipv6_type) × IsPacketClass eth payload (BadIp header)
IsTypedClass eth payload (Ip6 header ip read) = (eth.kind ≡ ipv6_type) × IsPacketClass eth payload (Ip6 header ip read)

-- what a frame with these headers is, by the message of its upper header
abbrev pub IsUpperClass : Eth → Ip → ℕ → List ℕ → Bool → Class → Type 0
IsUpperClass eth ip proto message fragmented (Ip6 header packet read) =
    (header ≡ eth) × (packet ≡ ip) × IsMessageRead ip proto message fragmented read
IsUpperClass eth ip proto message fragmented _ = ⊥

-- what a frame is
abbrev pub IsClassOf : List ℕ → Class → Type 0
IsClassOf frame Runt = length frame < 14
IsClassOf frame (Tagged eth) = HasHeader frame eth × IsTag eth.kind
IsClassOf frame (Other eth) = HasHeader frame eth × (eth.kind ≢ ipv6_type) × ¬ IsTag eth.kind
IsClassOf frame (BadIp eth) = HasHeader frame eth × (eth.kind ≡ ipv6_type) × ((fault : IpFault) × IsRefused (payload_of frame) fault)
IsClassOf frame (Ip6 eth ip read) = HasHeader frame eth × (eth.kind ≡ ipv6_type) × IsPacket (payload_of frame) ip × IsReadOf ip (payload_of frame) read
