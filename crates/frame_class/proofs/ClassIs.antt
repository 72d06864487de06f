-- Each frame has a class, the one that `class_of` gives.
use Rattle.std.proofs.Common.{◌≡◌, ℕ, ◌+◌, ◌≤◌, ◌==◌, ◌||◌, nat_le, nat_lt, not, Bool, true, false, List, length, Option, None, Result, Ok, Err, refl, ◌⊎◌, inl, inr, cond}
use Rattle.std.specs.Bool.{Decides}
use Rattle.std.specs.Result.{result_ok}
use Rattle.std.proofs.lemmas.Bool.{not-true, not_from_false, cond_both, cases_lt, cases_eq, eqb-true, eqb-false, ltb-true, ltb-false, cases_Bool}
use Rattle.std.proofs.lemmas.Bool.Decides.{Decides-eqb, Decides-and, Decides-or, Decides-not, not_from_Decides}
use Rattle.savi_kinds.specs.Prefixes.{LiesIn, multicast}
use Rattle.eth_frame.specs.declared.header.Eth.{Eth}
use Rattle.eth_frame.specs.Frame.{header_of as ethernet_of, payload_of}
use Rattle.eth_frame.specs.Tags.{is_tag}
use Rattle.v6_chain.specs.declared.packet.Ip.{Ip}
use Rattle.v6_chain.specs.declared.packet.IpFault.{IpFault}
use Rattle.v6_chain.specs.declared.packet.IpFault.TheVariants.{Short, Version, Truncated, Multicast}
use Rattle.v6_chain.specs.declared.outcome.Chain.{Chain}
use Rattle.v6_chain.specs.declared.outcome.Chain.TheVariants as chains
use Rattle.v6_chain.specs.Packet.{IsPacket, IsRefused, header_fields, version_of}
use Rattle.v6_chain.specs.Outcome.{message_of}
use Rattle.v6_chain.specs.ChainOf.{chain_of}
use Rattle.v6_chain.proofs.Whole.{chain_of-outcome}
use Rattle.nd_read.specs.declared.message.Nd.{Nd}
use Rattle.nd_read.specs.declared.message.NdFault.{NdFault}
use Rattle.nd_read.specs.Messages.{kind_of}
use Rattle.nd_read.specs.Tests.{Reads}
use Rattle.nd_read.specs.InPrefix.{lies_in}
use Rattle.nd_read.specs.NdOf.{nd_of}
use Rattle.nd_read.proofs.InPrefix.{Decides-leb, Decides-lies_in}
use Rattle.nd_read.proofs.ReadingOf.{nd_is}
use Rattle.dhcp6_read.specs.declared.message.Dhcp.{Dhcp}
use Rattle.dhcp6_read.specs.DhcpOf.{dhcp_of}
use Rattle.dhcp6_read.proofs.Readings.{dhcp_is}
use Rattle.frame_class.specs.declared.classes.Class.{Class}
use Rattle.frame_class.specs.declared.classes.Class.TheVariants.{Runt, Tagged, Other, BadIp, Ip6}
use Rattle.frame_class.specs.declared.classes.Read.{Read}
use Rattle.frame_class.specs.declared.classes.Read.TheVariants.{Icmp, Udp, Plain}
use Rattle.frame_class.specs.Reading.{ipv6_type, IsTag, HasHeader, destination_port, first_of_payload, IsNdOf, udp_length, udp_payload, IsForDhcp, IsDhcpOf, IsMessageRead, IsReadBy, IsReadOf, IsPacketClass, IsClassOf}
use Rattle.frame_class.specs.ClassOf.{is_packet, discovery_of, is_for_dhcp, dhcp_message_of, message_read_of, read_by, read_of, packet_class_of, typed_class_of, class_of}
use Rattle.frame_class.proofs.OneClass.{one_class}
use Rattle.frame_class.proofs.Layers.{packet_class_is, whole_dhcp}

-- a message that no fragment header stands before
whole_nd : (ip : Ip) (message : List ℕ) (reading : Result Nd NdFault) → Reads ip message reading → IsNdOf ip message false (result_ok reading)
whole_nd ip message (Ok nd) reads = (refl, reads)
whole_nd ip message (Err fault) reads = inr (fault, reads)

nd_of_is : (ip : Ip) (message : List ℕ) (fragmented : Bool) → IsNdOf ip message fragmented (discovery_of ip message fragmented)
nd_of_is ip message true = inl refl
nd_of_is ip message false = whole_nd ip message (nd_of ip message) (nd_is ip message)

for_dhcp_decided : (message : List ℕ) (fragmented : Bool) → Decides (is_for_dhcp message fragmented) (IsForDhcp message fragmented)
for_dhcp_decided message fragmented =
    let parts : Decides (is_for_dhcp message fragmented) ((fragmented ≡ false) × (((destination_port message ≡ 546) ⊎ (destination_port message ≡ 547)) × (udp_length message ≡ length message))) =
    Decides-and (not fragmented) _ (not-true fragmented, not_from_false fragmented)
    (Decides-and ((destination_port message == 546) || (destination_port message == 547)) _ (Decides-or (destination_port message == 546) _ (Decides-eqb (destination_port message) 546) (Decides-eqb (destination_port message) 547)) (Decides-eqb (udp_length message) (length message))) in (
      (λ t. let p = parts.0 t in record { whole = p.0; port = p.1.0; len = p.1.1 }),
      (λ is. parts.1 (is.whole, (is.port, is.len))),
    )

dhcp_message_is : (message : List ℕ) (fragmented : Bool) → IsDhcpOf message fragmented (dhcp_message_of message fragmented)
dhcp_message_is message fragmented =
    let decided : Decides (is_for_dhcp message fragmented) (IsForDhcp message fragmented) = for_dhcp_decided message fragmented in
    let none : Option Dhcp = None in
    cond_both (is_for_dhcp message fragmented) (result_ok (dhcp_of (udp_payload message))) none (IsDhcpOf message fragmented)
    (λ is. whole_dhcp message fragmented (dhcp_of (udp_payload message)) (decided.0 is) (dhcp_is (udp_payload message)))
    (λ other. inl (not_from_Decides (is_for_dhcp message fragmented) decided other))

message_read_is : (ip : Ip) (proto : ℕ) (message : List ℕ) (fragmented : Bool) → IsMessageRead ip proto message fragmented (message_read_of ip proto message fragmented)
message_read_is ip proto message fragmented =
    let icmp : Read = Icmp (kind_of message) fragmented (discovery_of ip message fragmented) in
    let udp : Read = Udp (destination_port message) (first_of_payload message) fragmented (dhcp_message_of message fragmented) in
    cond_both (proto == 58) icmp (cond (proto == 17) udp Plain) (IsMessageRead ip proto message fragmented)
    (λ is. (eqb-true proto 58 is, refl, refl, nd_of_is ip message fragmented))
    (λ not_icmp.
    cond_both (proto == 17) udp Plain (IsMessageRead ip proto message fragmented)
    (λ is. (eqb-true proto 17 is, refl, refl, refl, dhcp_message_is message fragmented))
    (λ not_udp. (eqb-false proto 58 not_icmp, eqb-false proto 17 not_udp)))

read_by_is : (ip : Ip) (payload : List ℕ) (outcome : Chain) → IsReadBy ip payload outcome (read_by ip payload outcome)
read_by_is ip payload (chains.Bad fault) = refl
read_by_is ip payload chains.Hidden = refl
read_by_is ip payload (chains.Unknown value) = refl
read_by_is ip payload chains.Later = refl
read_by_is ip payload (chains.Upper proto at fragmented) = message_read_is ip proto (message_of ip payload at) fragmented

read_is : (ip : Ip) (payload : List ℕ) → IsReadOf ip payload (read_of ip payload)
read_is ip payload = (chain_of ip payload, chain_of-outcome ip payload, read_by_is ip payload (chain_of ip payload))

pub packet_decided : (payload : List ℕ) → Decides (is_packet payload) (IsPacket payload (header_fields payload))
packet_decided payload =
    let ip : Ip = header_fields payload in
    let parts : Decides (is_packet payload) ((version_of payload ≡ 6) × ((40 + ip.len ≤ length payload) × (LiesIn ip.src.0 multicast → ⊥))) =
    Decides-and (version_of payload == 6) _ (Decides-eqb (version_of payload) 6)
    (Decides-and (nat_le (40 + ip.len) (length payload)) _ (Decides-leb (40 + ip.len) (length payload)) (Decides-not _ (Decides-lies_in ip.src.0 multicast))) in (
      (λ t. let p = parts.0 t in record { header = refl; version = p.0; whole = p.1.0; source = p.1.1 }),
      (λ packet. parts.1 (packet.version, (packet.whole, packet.source))),
    )

-- what isn't a packet has one of the four faults
refused : (payload : List ℕ) → (IsPacket payload (header_fields payload) → ⊥) → (fault : IpFault) × IsRefused payload fault
refused payload not_packet =
    let ip : Ip = header_fields payload in
    elim (cases_lt (length payload) 40) [
      | inl short ↦ (Short, short)
      | inr long ↦
          elim (cases_eq (version_of payload) 6) [
            | inr version ↦ (Version, (long, version))
            | inl version ↦
                elim (cases_lt (length payload) (40 + ip.len)) [
                  | inl cut ↦ (Truncated, (long, version, cut))
                  | inr whole ↦
                      elim (cases_Bool (lies_in ip.src.0 multicast)) [
                        | inl group ↦ (Multicast, (version, whole, (Decides-lies_in ip.src.0 multicast).0 group))
                        | inr single ↦ absurd (not_packet (record { header = refl; version = version; whole = whole; source = not_from_Decides _ (Decides-lies_in ip.src.0 multicast) single }))
                      ]
                ]
          ]
    ]

packet_is : (eth : Eth) (payload : List ℕ) → IsPacketClass eth payload (packet_class_of eth payload)
packet_is eth payload =
    let ip : Ip = header_fields payload in
    let decided : Decides (is_packet payload) (IsPacket payload ip) = packet_decided payload in
    cond_both (is_packet payload) (Ip6 eth ip (read_of ip payload)) (BadIp eth) (IsPacketClass eth payload)
    (λ packet. (refl, decided.0 packet, read_is ip payload))
    (λ none. (refl, refused payload (not_from_Decides (is_packet payload) decided none)))

-- the test of a tag's EtherType
pub tag_decided : (kind : ℕ) → Decides (is_tag kind) (IsTag kind)
tag_decided kind = Decides-or (kind == 0x8100) _ (Decides-eqb kind 0x8100) (Decides-eqb kind 0x88a8)

typed_is : (frame : List ℕ) (eth : Eth) → HasHeader frame eth → IsClassOf frame (typed_class_of eth (payload_of frame))
typed_is frame eth has =
    let packet : Class = packet_class_of eth (payload_of frame) in
    cond_both (is_tag eth.kind) (Tagged eth) (cond (eth.kind == ipv6_type) packet (Other eth)) (IsClassOf frame)
    (λ tag. (has, (tag_decided eth.kind).0 tag))
    (λ plain.
    cond_both (eth.kind == ipv6_type) packet (Other eth) (IsClassOf frame)
    (λ ipv6. packet_class_is frame eth packet has (eqb-true eth.kind ipv6_type ipv6) (packet_is eth (payload_of frame)))
    (λ other. (has, eqb-false eth.kind ipv6_type other, not_from_Decides (is_tag eth.kind) (tag_decided eth.kind) plain)))

-- `class_of` is a class of each frame
pub class_is : (frame : List ℕ) → IsClassOf frame (class_of frame)
unfolding class_of
class_is frame =
    cond_both (nat_lt (length frame) 14) Runt (typed_class_of (ethernet_of frame) (payload_of frame)) (IsClassOf frame)
    (λ short. ltb-true (length frame) 14 short)
    (λ long. typed_is frame (ethernet_of frame) (record { long = ltb-false (length frame) 14 long; header = refl }))

-- and the only one
pub class_only : (frame : List ℕ) (class : Class) → IsClassOf frame class → class ≡ class_of frame
class_only frame class is = one_class frame class (class_of frame) is (class_is frame)
