-- What stands behind the type and total length of a block.
use Rattle.std.proofs.Common.{◌≡◌, ◌≢◌, ℕ, ◌+◌, ◌-◌, ◌≤◌, Bool, List, ◌++◌, length, take, drop, Option, Some, refl, sym, ap, subst, ◌∙◌, arith, length-append}
use Rattle.std.proofs.lemmas.List.{take-append-drop}
use Rattle.pcap_io.specs.declared.kind.ByteOrder.{ByteOrder}
use Rattle.pcap_io.specs.declared.kind.ByteOrder.TheVariants.{Little, Big}
use Rattle.pcap_io.specs.Numbers.{number_at}
use Rattle.pcap_io.proofs.Fronts.{drop_front, number_at-append}
use Rattle.pcapng_io.specs.Options.{HaveOptions}
use Rattle.pcapng_io.specs.Blocks.{Block, Section, Interface, Packet, Other, Standing, IsTotal, IsFramed, part_from, section_type, IsSection, IsInterface, IsPacket, IsOther, IsBlock}
use Rattle.pcapng_io.specs.Pieces.{IsRest}
use Rattle.pcapng_io.proofs.Fronts.{number_behind}

-- the type of a section header is no small number
section_number : (order : ByteOrder) (octets : List ℕ) → take 4 octets ≡ section_type → number_at order 0 octets ≡ 0x0a0d0d0a
section_number order octets is =
    let joined : octets ≡ section_type ++ drop 4 octets = sym (take-append-drop 4 octets) ∙ ap (λ (l : List ℕ). l ++ drop 4 octets) is in
    ap (number_at order 0) joined ∙ of_type order (drop 4 octets)
  where
    of_type : (order : ByteOrder) (rest : List ℕ) → number_at order 0 (section_type ++ rest) ≡ 0x0a0d0d0a
    of_type Little rest = refl
    of_type Big rest = refl

one_order : (o p : ByteOrder) (of : Option ByteOrder) → of ≡ Some o → of ≡ Some p → o ≡ p
one_order o p of one other = cc

pub section_of : (s : Standing) (octets : List ℕ) (b : Block) → take 4 octets ≡ section_type → IsBlock s b octets → (order : ByteOrder) × IsFramed s.place 28 order octets × IsSection order octets × (b ≡ Section order)
section_of s octets (Section order) type is = (order, is.0, is.1, refl)
section_of s octets (Interface link units) type is = absurd (omega (arith, section_number is.0 octets type, is.3.kind))
section_of s octets (Packet interface stamp captured) type is = absurd (omega (arith, section_number is.0 octets type, is.3.kind))
section_of s octets Other type is = absurd (is.3.no_section type)

pub interface_of : (s : Standing) (order : ByteOrder) (octets : List ℕ) (b : Block) → s.order ≡ Some order → number_at order 0 octets ≡ 1 → IsBlock s b octets → (link : ℕ) × (units : ℕ) × IsFramed s.place 20 order octets × IsInterface s order octets link units × (b ≡ Interface link units)
interface_of s order octets (Section o) here type is = absurd (omega (arith, section_number order octets is.1.kind, type))
interface_of s order octets (Interface link units) here type is =
    subst (λ (o : ByteOrder). (link' : ℕ) × (units' : ℕ) × IsFramed s.place 20 o octets × IsInterface s o octets link' units' × (Interface link units ≡ Interface link' units')) (one_order is.0 order s.order is.1 here) (link, units, is.2, is.3, refl)
interface_of s order octets (Packet interface stamp captured) here type is =
    let kind : number_at order 0 octets ≡ 6 = subst (λ (o : ByteOrder). number_at o 0 octets ≡ 6) (one_order is.0 order s.order is.1 here) is.3.kind in
    absurd (omega (arith, kind, type))
interface_of s order octets Other here type is =
    absurd (is.3.no_interface (subst (λ (o : ByteOrder). number_at o 0 octets ≡ 1) (one_order order is.0 s.order here is.1) type))

pub packet_of : (s : Standing) (order : ByteOrder) (octets : List ℕ) (b : Block) → s.order ≡ Some order → number_at order 0 octets ≡ 6 → IsBlock s b octets
    → (interface : ℕ) × (stamp : ℕ) × (captured : List ℕ) × IsFramed s.place 32 order octets × IsPacket s order octets interface stamp captured × (b ≡ Packet interface stamp captured)
packet_of s order octets (Section o) here type is = absurd (omega (arith, section_number order octets is.1.kind, type))
packet_of s order octets (Interface link units) here type is =
    let kind : number_at order 0 octets ≡ 1 = subst (λ (o : ByteOrder). number_at o 0 octets ≡ 1) (one_order is.0 order s.order is.1 here) is.3.kind in
    absurd (omega (arith, kind, type))
packet_of s order octets (Packet interface stamp captured) here type is =
    subst (λ (o : ByteOrder). (interface' : ℕ) × (stamp' : ℕ) × (captured' : List ℕ) × IsFramed s.place 32 o octets × IsPacket s o octets interface' stamp' captured' × (Packet interface stamp captured ≡ Packet interface' stamp' captured'))
    (one_order is.0 order s.order is.1 here) (interface, stamp, captured, is.2, is.3, refl)
packet_of s order octets Other here type is =
    absurd (is.3.no_packet (subst (λ (o : ByteOrder). number_at o 0 octets ≡ 6) (one_order order is.0 s.order here is.1) type))

pub other_is : (s : Standing) (order : ByteOrder) (octets : List ℕ) (b : Block) → s.order ≡ Some order → IsOther order octets → IsBlock s b octets → b ≡ Other
other_is s order octets (Section o) here other is = absurd (other.no_section is.1.kind)
other_is s order octets (Interface link units) here other is =
    absurd (other.no_interface (subst (λ (o : ByteOrder). number_at o 0 octets ≡ 1) (one_order is.0 order s.order is.1 here) is.3.kind))
other_is s order octets (Packet interface stamp captured) here other is =
    absurd (other.no_packet (subst (λ (o : ByteOrder). number_at o 0 octets ≡ 6) (one_order is.0 order s.order is.1 here) is.3.kind))
other_is s order octets Other here other is = refl

pub other_of : (s : Standing) (order : ByteOrder) (octets : List ℕ) (b : Block) → s.order ≡ Some order → take 4 octets ≢ section_type → number_at order 0 octets ≢ 1 → number_at order 0 octets ≢ 6 → IsBlock s b octets → IsFramed s.place 12 order octets
other_of s order octets (Section o) here no_section no_interface no_packet is = absurd (no_section is.1.kind)
other_of s order octets (Interface link units) here no_section no_interface no_packet is =
    absurd (no_interface (subst (λ (o : ByteOrder). number_at o 0 octets ≡ 1) (one_order is.0 order s.order is.1 here) is.3.kind))
other_of s order octets (Packet interface stamp captured) here no_section no_interface no_packet is =
    absurd (no_packet (subst (λ (o : ByteOrder). number_at o 0 octets ≡ 6) (one_order is.0 order s.order is.1 here) is.3.kind))
other_of s order octets Other here no_section no_interface no_packet is =
    subst (λ (o : ByteOrder). IsFramed s.place 12 o octets) (one_order is.0 order s.order is.1 here) is.2

-- a total length that is named in front holds of the whole
pub named_in_front : (order : ByteOrder) (place least : ℕ) (front x : List ℕ) → 8 ≤ length front → IsFramed place least order (front ++ x) → (length front + length x ≡ number_at order 4 front) × IsTotal place least (number_at order 4 front)
named_in_front order place least front x size framed =
    let named : number_at order 4 front ≡ length (front ++ x) = sym (number_at-append order 4 front x (omega (arith, size))) ∙ framed.named in
    (omega (arith, named, length-append front x), subst (λ (n : ℕ). IsTotal place least n) (sym named) framed.total)

-- what stands behind the front of a block: its options and the total length again
pub rest_of : (order : ByteOrder) (is_interface : Bool) (place least n len total units : ℕ) (front x : List ℕ) → length front ≡ n → number_at order 4 front ≡ total → n + len + 4 ≡ total → 8 ≤ n → IsFramed place least order (front ++ x) → HaveOptions order is_interface units (part_from n (front ++ x))
    → IsRest order is_interface len total units x
rest_of order is_interface place least n len total units front x size named whole enough framed options =
    let long : length front + length x ≡ number_at order 4 front = (named_in_front order place least front x (omega (arith, size, enough)) framed).0 in
    let all : length (front ++ x) ≡ total = omega (arith, long, named, length-append front x) in
    let part : part_from n (front ++ x) ≡ take len x =
    ap (λ (k : ℕ). take k (drop n (front ++ x))) (omega (arith, all, whole)) ∙ ap (take len) (drop_front front x n size) in
    let last : number_at order (length (front ++ x) - 4) (front ++ x) ≡ number_at order len x = number_behind order front x n len (length (front ++ x) - 4) size (omega (arith, all, whole)) in
    record {
      size = omega (arith, long, named, whole, size);
      options = subst (λ (l : List ℕ). HaveOptions order is_interface units l) part options;
      again = sym last ∙ framed.again ∙ all;
    }

-- a front with options and the total length behind it is framed, and has those options
pub framed_by : (order : ByteOrder) (is_interface : Bool) (place least n len total units : ℕ) (front x : List ℕ) → length front ≡ n → number_at order 4 front ≡ total → n + len + 4 ≡ total → 8 ≤ n → IsTotal place least total → IsRest order is_interface len total units x
    → (length (front ++ x) ≡ total) × IsFramed place least order (front ++ x) × HaveOptions order is_interface units (part_from n (front ++ x))
framed_by order is_interface place least n len total units front x size named whole enough is rest =
    let all : length (front ++ x) ≡ total = omega (arith, size, rest.size, whole, length-append front x) in
    let part : part_from n (front ++ x) ≡ take len x =
    ap (λ (k : ℕ). take k (drop n (front ++ x))) (omega (arith, all, whole)) ∙ ap (take len) (drop_front front x n size) in
    let last : number_at order (length (front ++ x) - 4) (front ++ x) ≡ number_at order len x = number_behind order front x n len (length (front ++ x) - 4) size (omega (arith, all, whole)) in (
      all,
      record {
        total = subst (λ (k : ℕ). IsTotal place least k) (sym all) is;
        named = number_at-append order 4 front x (omega (arith, size, enough)) ∙ named ∙ sym all;
        again = last ∙ rest.again ∙ sym all;
      },
      subst (λ (l : List ℕ). HaveOptions order is_interface units l) (sym part) rest.options,
    )
