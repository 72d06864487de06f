-- A frame has one class.
use Rattle.std.proofs.Common.{◌≡◌, ℕ, Bool, List, Option, Some, None, Ok, Err, refl, sym, ap, ◌∙◌, subst, inl, inr, arith}
use Rattle.savi_kinds.specs.Prefixes.{LiesIn, multicast}
use Rattle.eth_frame.specs.declared.header.Eth.{Eth}
use Rattle.eth_frame.specs.declared.vlan_tag.Tag.{Tag}
use Rattle.eth_frame.specs.Frame.{payload_of}
use Rattle.eth_frame.specs.Tags.{inner}
use Rattle.v6_chain.specs.declared.packet.Ip.{Ip}
use Rattle.v6_chain.specs.declared.packet.IpFault.{IpFault}
use Rattle.v6_chain.specs.declared.packet.IpFault.TheVariants.{Short, Version, Truncated, Multicast}
use Rattle.v6_chain.specs.declared.outcome.Chain.{Chain}
use Rattle.v6_chain.specs.declared.outcome.Chain.TheVariants as chains
use Rattle.v6_chain.specs.Packet.{IsPacket, IsRefused, header_fields}
use Rattle.v6_chain.specs.Outcome.{message_of}
use Rattle.v6_chain.proofs.Unique.{one_outcome}
use Rattle.nd_read.specs.declared.message.Nd.{Nd}
use Rattle.nd_read.proofs.TestOrder.{same_reading}
use Rattle.dhcp6_read.specs.declared.message.Dhcp.{Dhcp}
use Rattle.dhcp6_read.proofs.Readings.{same_dhcp_reading}
use Rattle.frame_class.specs.declared.classes.Class.{Class}
use Rattle.frame_class.specs.declared.classes.Class.TheVariants.{Runt, Tagged, Other, BadIp, Ip6}
use Rattle.frame_class.specs.declared.classes.Seen.{Seen}
use Rattle.frame_class.specs.declared.classes.Read.{Read}
use Rattle.frame_class.specs.declared.classes.Read.TheVariants.{Icmp, Udp, Plain}
use Rattle.frame_class.specs.Reading.{ipv6_type, IsTag, HasHeader, IsNdOf, udp_payload, IsDhcpOf, IsMessageRead, IsReadBy, IsReadOf, IsClassOf}
use Rattle.frame_class.specs.Seen.{IsSeen}

one_nd : (ip : Ip) (message : List ℕ) (fragmented : Bool) (a b : Option Nd) → IsNdOf ip message fragmented a → IsNdOf ip message fragmented b → a ≡ b
one_nd ip message fragmented None None p q = refl
one_nd ip message fragmented None (Some y) (inl behind) q = cc (behind, q.0)
one_nd ip message fragmented None (Some y) (inr refused) q = cc (same_reading ip message (Err refused.0) (Ok y) refused.1 q.1)
one_nd ip message fragmented (Some x) None p (inl behind) = cc (behind, p.0)
one_nd ip message fragmented (Some x) None p (inr refused) = cc (same_reading ip message (Err refused.0) (Ok x) refused.1 p.1)
one_nd ip message fragmented (Some x) (Some y) p q = cc (p.1.0, q.1.0)

one_dhcp : (message : List ℕ) (fragmented : Bool) (a b : Option Dhcp) → IsDhcpOf message fragmented a → IsDhcpOf message fragmented b → a ≡ b
one_dhcp message fragmented None None p q = refl
one_dhcp message fragmented None (Some y) (inl not_for) q = absurd (not_for q.0)
one_dhcp message fragmented None (Some y) (inr refused) q = cc (same_dhcp_reading (udp_payload message) (Err refused.0) (Ok y) refused.1 q.1)
one_dhcp message fragmented (Some x) None p (inl not_for) = absurd (not_for p.0)
one_dhcp message fragmented (Some x) None p (inr refused) = cc (same_dhcp_reading (udp_payload message) (Err refused.0) (Ok x) refused.1 p.1)
one_dhcp message fragmented (Some x) (Some y) p q = cc (same_dhcp_reading (udp_payload message) (Ok x) (Ok y) p.1 q.1)

one_message_read : (ip : Ip) (proto : ℕ) (message : List ℕ) (behind : Bool) (a b : Read) → IsMessageRead ip proto message behind a → IsMessageRead ip proto message behind b → a ≡ b
one_message_read ip proto message behind (Icmp k f n) (Icmp l g o) p q =
    let same : g ≡ f = q.2 ∙ sym p.2 in
    let P : Bool → Type 0 = λ b. IsNdOf ip message b o in
    let nd : n ≡ o = one_nd ip message f n o p.3 (subst P same q.3) in
    cc (p.1, p.2, q.1, q.2)
one_message_read ip proto message behind (Icmp k f n) (Udp to first g d) p q = absurd (omega (arith, p.0, q.0))
one_message_read ip proto message behind (Icmp k f n) Plain p q = absurd (q.0 p.0)
one_message_read ip proto message behind (Icmp k f n) _ p q = absurd q
one_message_read ip proto message behind (Udp to first f d) (Icmp l g o) p q = absurd (omega (arith, p.0, q.0))
one_message_read ip proto message behind (Udp to first f d) (Udp port second g e) p q =
    let same : g ≡ f = q.3 ∙ sym p.3 in
    let P : Bool → Type 0 = λ b. IsDhcpOf message b e in
    let dhcp : d ≡ e = one_dhcp message f d e p.4 (subst P same q.4) in
    cc (p.1, p.2, p.3, q.1, q.2, q.3)
one_message_read ip proto message behind (Udp to first f d) Plain p q = absurd (q.1 p.0)
one_message_read ip proto message behind (Udp to first f d) _ p q = absurd q
one_message_read ip proto message behind Plain (Icmp l g o) p q = absurd (p.0 q.0)
one_message_read ip proto message behind Plain (Udp to first g d) p q = absurd (p.1 q.0)
one_message_read ip proto message behind Plain Plain p q = refl
one_message_read ip proto message behind Plain _ p q = absurd q
one_message_read ip proto message behind _ b p q = absurd p

one_read_by : (ip : Ip) (payload : List ℕ) (outcome : Chain) (a b : Read) → IsReadBy ip payload outcome a → IsReadBy ip payload outcome b → a ≡ b
one_read_by ip payload (chains.Bad fault) a b p q = p ∙ sym q
one_read_by ip payload chains.Hidden a b p q = p ∙ sym q
one_read_by ip payload (chains.Unknown value) a b p q = p ∙ sym q
one_read_by ip payload chains.Later a b p q = p ∙ sym q
one_read_by ip payload (chains.Upper proto at fragmented) a b p q = one_message_read ip proto (message_of ip payload at) fragmented a b p q

-- a packet is read in one way
pub one_read : (ip : Ip) (payload : List ℕ) (a b : Read) → IsReadOf ip payload a → IsReadOf ip payload b → a ≡ b
one_read ip payload a b p q =
    let same : q.0 ≡ p.0 = one_outcome ip payload q.0 p.0 q.1 p.1 in
    let P : Chain → Type 0 = λ outcome. IsReadBy ip payload outcome b in
    one_read_by ip payload p.0 a b p.2 (subst P same q.2)

-- a header that is refused isn't that of a packet
pub refused_not_packet : (payload : List ℕ) (ip : Ip) (fault : IpFault) → IsRefused payload fault → IsPacket payload ip → ⊥
refused_not_packet payload ip Short refused packet = omega (arith, packet.whole, refused)
refused_not_packet payload ip Version refused packet = refused.1 packet.version
refused_not_packet payload ip Truncated refused packet =
    let len : ip.len ≡ (header_fields payload).len = ap (λ (i : Ip). i.len) packet.header in
    omega (arith, packet.whole, refused.2, len)
refused_not_packet payload ip Multicast refused packet =
    let P : Ip → Type 0 = λ i. LiesIn i.src.0 multicast in
    packet.source (subst P (sym packet.header) refused.2)

-- a tag isn't the EtherType of IPv6
pub tag_not_ipv6 : (kind : ℕ) → IsTag kind → kind ≡ ipv6_type → ⊥
tag_not_ipv6 kind (inl customer) is = omega (arith, customer, is)
tag_not_ipv6 kind (inr service) is = omega (arith, service, is)

-- one frame has one header
pub one_header : (frame : List ℕ) (a b : Eth) → HasHeader frame a → HasHeader frame b → a ≡ b
one_header frame a b p q = p.header ∙ sym q.header

pub one_class : (frame : List ℕ) (a b : Class) → IsClassOf frame a → IsClassOf frame b → a ≡ b
one_class frame Runt Runt p q = refl
one_class frame Runt (Tagged eth) p q = absurd (omega (arith, p, q.0.long))
one_class frame Runt (Other eth) p q = absurd (omega (arith, p, q.0.long))
one_class frame Runt (BadIp eth) p q = absurd (omega (arith, p, q.0.long))
one_class frame Runt (Ip6 eth ip read) p q = absurd (omega (arith, p, q.0.long))
one_class frame (Tagged eth) Runt p q = absurd (omega (arith, q, p.0.long))
one_class frame (Tagged eth) (Tagged header) p q = cc (one_header frame eth header p.0 q.0)
one_class frame (Tagged eth) (Other header) p q =
    let P : Eth → Type 0 = λ e. IsTag e.kind in
    absurd (q.2 (subst P (one_header frame eth header p.0 q.0) p.1))
one_class frame (Tagged eth) (BadIp header) p q =
    absurd (tag_not_ipv6 eth.kind p.1 (ap (λ (e : Eth). e.kind) (one_header frame eth header p.0 q.0) ∙ q.1))
one_class frame (Tagged eth) (Ip6 header ip read) p q =
    absurd (tag_not_ipv6 eth.kind p.1 (ap (λ (e : Eth). e.kind) (one_header frame eth header p.0 q.0) ∙ q.1))
one_class frame (Other eth) Runt p q = absurd (omega (arith, q, p.0.long))
one_class frame (Other eth) (Tagged header) p q =
    let P : Eth → Type 0 = λ e. IsTag e.kind in
    absurd (p.2 (subst P (one_header frame header eth q.0 p.0) q.1))
one_class frame (Other eth) (Other header) p q = cc (one_header frame eth header p.0 q.0)
one_class frame (Other eth) (BadIp header) p q =
    absurd (p.1 (ap (λ (e : Eth). e.kind) (one_header frame eth header p.0 q.0) ∙ q.1))
one_class frame (Other eth) (Ip6 header ip read) p q =
    absurd (p.1 (ap (λ (e : Eth). e.kind) (one_header frame eth header p.0 q.0) ∙ q.1))
one_class frame (BadIp eth) Runt p q = absurd (omega (arith, q, p.0.long))
one_class frame (BadIp eth) (Tagged header) p q =
    absurd (tag_not_ipv6 header.kind q.1 (ap (λ (e : Eth). e.kind) (one_header frame header eth q.0 p.0) ∙ p.1))
one_class frame (BadIp eth) (Other header) p q =
    absurd (q.1 (ap (λ (e : Eth). e.kind) (one_header frame header eth q.0 p.0) ∙ p.1))
one_class frame (BadIp eth) (BadIp header) p q = cc (one_header frame eth header p.0 q.0)
one_class frame (BadIp eth) (Ip6 header ip read) p q = absurd (refused_not_packet (payload_of frame) ip p.2.0 p.2.1 q.2)
one_class frame (Ip6 eth ip read) Runt p q = absurd (omega (arith, q, p.0.long))
one_class frame (Ip6 eth ip read) (Tagged header) p q =
    absurd (tag_not_ipv6 header.kind q.1 (ap (λ (e : Eth). e.kind) (one_header frame header eth q.0 p.0) ∙ p.1))
one_class frame (Ip6 eth ip read) (Other header) p q =
    absurd (q.1 (ap (λ (e : Eth). e.kind) (one_header frame header eth q.0 p.0) ∙ p.1))
one_class frame (Ip6 eth ip read) (BadIp header) p q = absurd (refused_not_packet (payload_of frame) ip q.2.0 q.2.1 p.2)
one_class frame (Ip6 eth ip read) (Ip6 header packet other) p q =
    let eths : eth ≡ header = one_header frame eth header p.0 q.0 in
    let same : packet ≡ ip = q.2.header ∙ sym p.2.header in
    let P : Ip → Type 0 = λ i. IsReadOf i (payload_of frame) other in
    let reads : read ≡ other = one_read ip (payload_of frame) read other p.3 (subst P same q.3) in
    cc

-- a frame is seen in one way
pub one_seen : (frame : List ℕ) (a b : Seen) → IsSeen frame a → IsSeen frame b → a ≡ b
one_seen frame a b p q =
    let with : Tag → Class → Seen = λ tag class. record { tag = tag; class = class } in
    let tags : with a.tag a.class ≡ with b.tag a.class = ap (λ (tag : Tag). with tag a.class) (p.tag ∙ sym q.tag) in
    let classes : with b.tag a.class ≡ with b.tag b.class = ap (λ (class : Class). with b.tag class) (one_class (inner frame) a.class b.class p.class q.class) in
    tags ∙ classes
