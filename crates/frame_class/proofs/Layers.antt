-- What each layer adds to the reading of a frame.
use Rattle.std.proofs.Common.{◌≡◌, ◌≢◌, ℕ, ◌+◌, ◌-◌, Bool, List, length, take, drop, Result, Ok, Err, sym, ap, ◌∙◌, subst, inr, arith}
use Rattle.std.specs.Result.{result_ok}
use Rattle.std.proofs.lemmas.List.{take_rest}
use Rattle.eth_frame.specs.declared.header.Eth.{Eth}
use Rattle.eth_frame.specs.Frame.{payload_of}
use Rattle.v6_chain.specs.declared.packet.Ip.{Ip}
use Rattle.v6_chain.specs.declared.packet.IpFault.{IpFault}
use Rattle.v6_chain.specs.Packet.{IsPacket, IsRefused, body_of}
use Rattle.v6_chain.specs.declared.outcome.Chain.TheVariants.{Upper}
use Rattle.v6_chain.specs.Outcome.{IsOutcome, message_of}
use Rattle.dhcp6_read.specs.declared.message.Dhcp.{Dhcp}
use Rattle.dhcp6_read.specs.declared.message.DhcpFault.{DhcpFault}
use Rattle.dhcp6_read.specs.Message.{Reads as ReadsDhcp}
use Rattle.frame_class.specs.declared.classes.Class.{Class}
use Rattle.frame_class.specs.declared.classes.Class.TheVariants.{Runt, Tagged, Other, BadIp, Ip6}
use Rattle.frame_class.specs.Reading.{ipv6_type, IsTag, HasHeader, udp_payload, IsForDhcp, IsDhcpOf, IsReadOf, IsTypedClass, IsPacketClass, IsUpperClass, IsClassOf}

-- the octets from a place of the body on are the message there
pub message_is : (ip : Ip) (payload : List ℕ) (len place at : ℕ) → len ≡ ip.len → place ≡ at
    → take (length (take (40 + len - 40) (drop 40 payload)) - place) (drop place (take (40 + len - 40) (drop 40 payload))) ≡ message_of ip payload at
message_is ip payload len place at len_is place_is =
    let counted : 40 + len - 40 ≡ ip.len = omega arith in
    let body : take (40 + len - 40) (drop 40 payload) ≡ body_of ip payload = ap (λ (n : ℕ). take n (drop 40 payload)) counted in
    take_rest (take (40 + len - 40) (drop 40 payload)) place
    ∙ ap (λ (l : List ℕ). drop place l) body
    ∙ ap (λ (n : ℕ). drop n (body_of ip payload)) place_is

-- a whole datagram for DHCPv6 says what is read of its payload
pub whole_dhcp : (message : List ℕ) (fragmented : Bool) (reading : Result Dhcp DhcpFault) → IsForDhcp message fragmented → ReadsDhcp (udp_payload message) reading → IsDhcpOf message fragmented (result_ok reading)
whole_dhcp message fragmented (Ok dhcp) is reads = (is, reads)
whole_dhcp message fragmented (Err fault) is reads = inr (fault, reads)

-- a packet with an upper header is what its message is
pub upper_class_is : (eth : Eth) (ip : Ip) (payload : List ℕ) (proto at : ℕ) (fragmented : Bool) (class : Class) → IsPacket payload ip → IsOutcome ip payload (Upper proto at fragmented) → IsUpperClass eth ip proto (message_of ip payload at) fragmented class → IsPacketClass eth payload class
upper_class_is eth ip payload proto at fragmented (Ip6 header packet read) has outcome is =
    let P : Ip → Type 0 = λ i. IsPacket payload i × IsReadOf i payload read in
    let both = subst P (sym is.1) (has, (Upper proto at fragmented, outcome, is.2)) in
    (is.0, both.0, both.1)
upper_class_is eth ip payload proto at fragmented Runt has outcome is = absurd is
upper_class_is eth ip payload proto at fragmented (Tagged header) has outcome is = absurd is
upper_class_is eth ip payload proto at fragmented (Other header) has outcome is = absurd is
upper_class_is eth ip payload proto at fragmented (BadIp header) has outcome is = absurd is

-- a frame with the EtherType of IPv6 is what its packet is
pub packet_class_is : (frame : List ℕ) (eth : Eth) (class : Class) → HasHeader frame eth → eth.kind ≡ ipv6_type → IsPacketClass eth (payload_of frame) class → IsClassOf frame class
packet_class_is frame eth (BadIp header) has kind is =
    let P : Eth → Type 0 = λ e. HasHeader frame e × (e.kind ≡ ipv6_type) × ((fault : IpFault) × IsRefused (payload_of frame) fault) in
    subst P (sym is.0) (has, kind, is.1)
packet_class_is frame eth (Ip6 header ip read) has kind is =
    let P : Eth → Type 0 = λ e. HasHeader frame e × (e.kind ≡ ipv6_type) × IsPacket (payload_of frame) ip × IsReadOf ip (payload_of frame) read in
    subst P (sym is.0) (has, kind, is.1, is.2)
packet_class_is frame eth Runt has kind is = absurd is
packet_class_is frame eth (Tagged header) has kind is = absurd is
packet_class_is frame eth (Other header) has kind is = absurd is

-- what stands behind a header with the EtherType of IPv6 is what its packet is
pub typed_packet : (eth : Eth) (payload : List ℕ) (class : Class) → eth.kind ≡ ipv6_type → IsPacketClass eth payload class → IsTypedClass eth payload class
typed_packet eth payload (BadIp header) kind is = (kind, is)
typed_packet eth payload (Ip6 header ip read) kind is = (kind, is)
typed_packet eth payload Runt kind is = absurd is
typed_packet eth payload (Tagged header) kind is = absurd is
typed_packet eth payload (Other header) kind is = absurd is

-- a frame is what its header and what stands behind it are
pub typed_class_is : (frame : List ℕ) (eth : Eth) (class : Class) → HasHeader frame eth → IsTypedClass eth (payload_of frame) class → IsClassOf frame class
typed_class_is frame eth Runt has is = absurd is
typed_class_is frame eth (Tagged header) has is =
    let P : Eth → Type 0 = λ e. HasHeader frame e × IsTag e.kind in
    subst P (sym is.0) (has, is.1)
typed_class_is frame eth (Other header) has is =
    let P : Eth → Type 0 = λ e. HasHeader frame e × (e.kind ≢ ipv6_type) × ¬ IsTag e.kind in
    subst P (sym is.0) (has, is.1, is.2)
typed_class_is frame eth (BadIp header) has is = packet_class_is frame eth (BadIp header) has is.0 is.1
typed_class_is frame eth (Ip6 header ip read) has is = packet_class_is frame eth (Ip6 header ip read) has is.0 is.1
