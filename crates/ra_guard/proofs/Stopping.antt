-- The guard stops what the header chain shows of a router advertisement, or hides.
use Rattle.std.proofs.Common.{◌≡◌, ◌≢◌, ℕ, ◌≤◌, Bool, List, slice_index, Option, Some, None, refl, sym, ap, ◌∙◌, subst, inl, inr, arith, length-drop}
use Rattle.std.proofs.lemmas.Bool.{cases_lt}
use Rattle.std.specs.Prelude.{IsSomeAnd}
use Rattle.savi_kinds.specs.declared.plan.Role.{Role}
use Rattle.savi_kinds.specs.declared.plan.Role.TheVariants.{Trusted}
use Rattle.savi_kinds.specs.declared.verdict.Rule.{Rule}
use Rattle.savi_kinds.specs.declared.verdict.Rule.TheVariants.{HiddenUpper, RouterAdvert}
use Rattle.savi_kinds.specs.Prefixes.{LiesIn}
use Rattle.savi_kinds.specs.Rules.{rule_number}
use Rattle.eth_frame.specs.declared.header.Eth.{Eth}
use Rattle.eth_frame.specs.Frame.{header_of, payload_of}
use Rattle.v6_chain.specs.declared.packet.Ip.{Ip}
use Rattle.v6_chain.specs.declared.outcome.Chain.{Chain}
use Rattle.v6_chain.specs.declared.outcome.Chain.TheVariants as chains
use Rattle.v6_chain.specs.Packet.{IsPacket}
use Rattle.v6_chain.specs.Outcome.{IsOutcome, message_of}
use Rattle.v6_chain.proofs.Unique.{one_outcome}
use Rattle.frame_class.specs.declared.classes.Class.{Class}
use Rattle.frame_class.specs.declared.classes.Class.TheVariants.{Runt, Tagged, Other, BadIp, Ip6}
use Rattle.frame_class.specs.declared.classes.Read.{Read}
use Rattle.frame_class.specs.declared.classes.Read.TheVariants.{Hidden, Icmp, Udp, Plain}
use Rattle.frame_class.specs.Reading.{ipv6_type, IsMessageRead, IsReadBy, IsReadOf, IsClassOf}
use Rattle.frame_class.proofs.OneClass.{refused_not_packet, tag_not_ipv6}
use Rattle.ra_guard.specs.Guard.{Applies, IsFirst, link_local_unicast}
use Rattle.ra_guard.specs.Refused.{GuardStops, IsAdvertFrame, IsHiddenFrame}

-- a frame that carries a packet has the class of one
pub record IsPacketOf (frame : List ℕ) (ip : Ip) (class : Class) : Type 0 where
  pub eth : Eth
  pub read : Read
  pub is : class ≡ Ip6 eth ip read
  pub reads : IsReadOf ip (payload_of frame) read

packet_class : (frame : List ℕ) (class : Class) (ip : Ip) → (header_of frame).kind ≡ ipv6_type → IsPacket (payload_of frame) ip → IsClassOf frame class → IsPacketOf frame ip class
packet_class frame Runt ip ipv6 packet is = absurd (omega (arith, length-drop 14 frame, packet.whole, is))
packet_class frame (Tagged eth) ip ipv6 packet is =
    absurd (tag_not_ipv6 eth.kind is.1 (ap (λ (e : Eth). e.kind) is.0.header ∙ ipv6))
packet_class frame (Other eth) ip ipv6 packet is = absurd (is.1 (ap (λ (e : Eth). e.kind) is.0.header ∙ ipv6))
packet_class frame (BadIp eth) ip ipv6 packet is = absurd (refused_not_packet (payload_of frame) ip is.2.0 is.2.1 packet)
packet_class frame (Ip6 eth other read) ip ipv6 packet is =
    let same : other ≡ ip = is.2.header ∙ sym packet.header in
    let Reads : Ip → Type 0 = λ i. IsReadOf i (payload_of frame) read in
    record { eth = eth; read = read; is = ap (λ (i : Ip). Ip6 eth i read) same; reads = subst Reads same is.3 }

-- what a packet shows goes by the one outcome of its header chain
read_by : (ip : Ip) (payload : List ℕ) (outcome : Chain) (read : Read) → IsOutcome ip payload outcome → IsReadOf ip payload read → IsReadBy ip payload outcome read
read_by ip payload outcome read reached reads =
    let By : Chain → Type 0 = λ o. IsReadBy ip payload o read in
    subst By (one_outcome ip payload reads.0 outcome reads.1 reached) reads.2

-- a rule that applies: one up to its number is given
given_up_to : (Has : Rule → Type 0) (rule : Rule) (given : Option Rule) → Has rule → IsFirst Has given → IsSomeAnd given (λ g. rule_number g ≤ rule_number rule)
given_up_to Has rule None has first = absurd (first rule has)
given_up_to Has rule (Some g) has first =
    elim (cases_lt (rule_number rule) (rule_number g)) [
      | inl less ↦ absurd (first.1 rule less has)
      | inr most ↦ most
    ]

hidden_applies : (role : Role) (drop_unknown : Bool) (class : Class) (eth : Eth) (ip : Ip) (read : Read) → role ≢ Trusted → class ≡ Ip6 eth ip read → read ≡ Hidden → Applies role drop_unknown class HiddenUpper
hidden_applies role drop_unknown class eth ip read validating is hidden =
    let P : Class → Type 0 = λ k. Applies role drop_unknown k HiddenUpper in
    subst P (sym (is ∙ ap (λ (r : Read). Ip6 eth ip r) hidden)) (validating, tt)

-- the message that is read is a router advertisement
advert_read : (role : Role) (drop_unknown : Bool) (eth : Eth) (ip : Ip) (read : Read) (message : List ℕ) (fragmented : Bool) → role ≢ Trusted → IsMessageRead ip 58 message fragmented read → slice_index message 0 ≡ 134 → LiesIn ip.src.0 link_local_unicast → ip.hop ≡ 255 → Applies role drop_unknown (Ip6 eth ip read) RouterAdvert
advert_read role drop_unknown eth ip (Icmp kind behind nd) message fragmented validating is advert source hop = (validating, (is.1 ∙ advert, source, hop))
advert_read role drop_unknown eth ip (Udp to first behind dhcp) message fragmented validating is advert source hop = absurd (omega (arith, is.0))
advert_read role drop_unknown eth ip Plain message fragmented validating is advert source hop = absurd (is.0 refl)
advert_read role drop_unknown eth ip _ message fragmented validating is advert source hop = absurd is

pub hidden_frames : GuardStops IsHiddenFrame 7
hidden_frames frame class role drop_unknown rule has is validating first =
    let packet : IsPacketOf frame has.ip class = packet_class frame class has.ip has.ipv6 has.packet is in
    let hidden : packet.read ≡ Hidden = read_by has.ip (payload_of frame) chains.Hidden packet.read has.hidden packet.reads in
    given_up_to (Applies role drop_unknown class) HiddenUpper rule (hidden_applies role drop_unknown class packet.eth has.ip packet.read validating packet.is hidden) first

pub advert_frames : GuardStops IsAdvertFrame 9
advert_frames frame class role drop_unknown rule has is validating first =
    let payload : List ℕ = payload_of frame in
    let packet : IsPacketOf frame has.ip class = packet_class frame class has.ip has.ipv6 has.packet is in
    let read : IsMessageRead has.ip 58 (message_of has.ip payload has.shows.0) has.fragmented packet.read =
    read_by has.ip payload (chains.Upper 58 has.shows.0 has.fragmented) packet.read has.shows.1 packet.reads in
    let advert : slice_index (message_of has.ip payload has.shows.0) 0 ≡ 134 = ap (λ (m : List ℕ). slice_index m 0) (sym has.shows.2) ∙ has.advert in
    let P : Class → Type 0 = λ k. Applies role drop_unknown k RouterAdvert in
    let applies : Applies role drop_unknown class RouterAdvert =
    subst P (sym packet.is) (advert_read role drop_unknown packet.eth has.ip packet.read (message_of has.ip payload has.shows.0) has.fragmented validating read advert has.source has.hop) in
    given_up_to (Applies role drop_unknown class) RouterAdvert rule applies first
