-- Packets, as far as they were read.
use Rattle.std.proofs.Common.{◌≡◌, ℕ, ◌+◌, ◌-◌, ◌*◌, ◌^◌, ◌<◌, ◌≤◌, false, List, [], ◌++◌, length, take, drop, get_or, Option, Some, inl, inr, lit≤, refl, sym, ap, subst, ◌∙◌, arith, append_assoc, append-nil, length-append}
use Rattle.std.proofs.lemmas.List.{take-append-le, take-append-drop, length-take-le}
use Rattle.std.proofs.lemmas.Bool.{cases_lt}
use Rattle.pcap_io.specs.declared.kind.ByteOrder.{ByteOrder}
use Rattle.pcap_io.specs.Numbers.{number_at}
use Rattle.pcap_io.proofs.Fronts.{drop_front, number_at-append}
use Rattle.pcapng_io.specs.declared.stop.Stop.{Stop}
use Rattle.pcapng_io.specs.declared.stop.Stop.TheVariants as stop
use Rattle.pcapng_io.specs.declared.block.BlockRead.{BlockRead}
use Rattle.pcapng_io.specs.declared.block.BlockRead.TheVariants as read
use Rattle.pcapng_io.specs.Options.{padded, HaveOptions}
use Rattle.pcapng_io.specs.Blocks.{Packet, Standing, IsTotal, IsFramed, part_from, stamp_of, IsPacket, IsBlock}
use Rattle.pcapng_io.specs.Pieces.{Stops, FallsShort, IsRest, IsCaptured, IsRead, IsSomeBlock}
use Rattle.pcapng_io.proofs.Fronts.{number_behind}
use Rattle.pcapng_io.proofs.Parts.{same_fronts, short_stops, wrong_stops, stops_behind}
use Rattle.pcapng_io.proofs.BlockParts.{packet_of, named_in_front, rest_of, framed_by}

-- a head of a packet's block
pub record PacketHead (s : Standing) (order : ByteOrder) (head : List ℕ) : Type 0 where
  pub size : length head ≡ 8
  pub here : s.order ≡ Some order
  pub kind : number_at order 0 head ≡ 6

packet_in : (s : Standing) (order : ByteOrder) (head x : List ℕ) → PacketHead s order head → (is : IsSomeBlock s head x)
    → (interface : ℕ) × (stamp : ℕ) × (captured : List ℕ) × IsFramed s.place 32 order (head ++ x) × IsPacket s order (head ++ x) interface stamp captured × (is.0 ≡ Packet interface stamp captured)
packet_in s order head x h is = packet_of s order (head ++ x) is.0 h.here (number_at-append order 0 head x (omega (arith, h.size)) ∙ h.kind) is.1

packet_long : (s : Standing) (order : ByteOrder) (head x : List ℕ) → PacketHead s order head → IsSomeBlock s head x → (8 + length x ≡ number_at order 4 head) × IsTotal s.place 32 (number_at order 4 head)
packet_long s order head x h is =
    let named = named_in_front order s.place 32 head x (omega (arith, h.size)) (packet_in s order head x h is).3 in
    (omega (arith, named.0, h.size), named.1)

pub packet_wrong : (s : Standing) (order : ByteOrder) (head : List ℕ) (left : Option (List ℕ)) → PacketHead s order head → (IsTotal s.place 32 (number_at order 4 head) → ⊥) → Stops (IsSomeBlock s head) stop.Malformed [] left
packet_wrong s order head left h wrong =
    wrong_stops (IsSomeBlock s head) [] left (λ first is. omega arith) (λ x is. wrong (packet_long s order head x h is).1)

pub packet_short : (s : Standing) (order : ByteOrder) (head g : List ℕ) (why : Stop) (left : Option (List ℕ)) → PacketHead s order head → FallsShort 20 why g left → Stops (IsSomeBlock s head) why g left
packet_short s order head g why left h short =
    short_stops (IsSomeBlock s head) 20 g why left (λ first is. let long = packet_long s order head first h is in omega (arith, long.0, long.1.fits)) short

-- what the fields of a packet say
pub record PacketFields (s : Standing) (order : ByteOrder) (head fields : List ℕ) : Type 0 where
  pub declared : number_at order 0 fields < length s.units
  pub bounded : number_at order 12 fields ≤ 262144
  pub fits : 28 + padded (number_at order 12 fields) + 4 ≤ number_at order 4 head

field : (order : ByteOrder) (head fields x : List ℕ) (at k : ℕ) → length head ≡ 8 → at + 4 ≤ length fields → k ≡ 8 + at → number_at order k (head ++ (fields ++ x)) ≡ number_at order at fields
field order head fields x at k size within is = number_behind order head (fields ++ x) 8 at k size is ∙ number_at-append order at fields x within

pub packet_fields : (s : Standing) (order : ByteOrder) (head fields x : List ℕ) → PacketHead s order head → length fields ≡ 20 → IsSomeBlock s head (fields ++ x) → PacketFields s order head fields
packet_fields s order head fields x h fields_size is =
    let whole = packet_in s order head (fields ++ x) h is in
    let long = packet_long s order head (fields ++ x) h is in
    let interface = field order head fields x 0 8 h.size (omega (arith, fields_size)) refl in
    let size = field order head fields x 12 20 h.size (omega (arith, fields_size)) refl in
    let same : number_at order 12 fields ≡ length whole.2 = sym size ∙ whole.4.size in
    record {
      declared = omega (arith, interface, whole.4.declared);
      bounded = omega (arith, same, whole.4.bounded);
      fits = omega (arith, ap padded same, whole.4.fits, long.0, h.size, length-append head (fields ++ x));
    }

pub packet_fields_wrong : (s : Standing) (order : ByteOrder) (head fields : List ℕ) (left : Option (List ℕ)) → PacketHead s order head → length fields ≡ 20 → (PacketFields s order head fields → ⊥) → Stops (IsSomeBlock s head) stop.Malformed fields left
packet_fields_wrong s order head fields left h fields_size wrong =
    wrong_stops (IsSomeBlock s head) fields left
    (λ first is. let long = packet_long s order head first h is in omega (arith, fields_size, long.0, long.1.fits))
    (λ x is. wrong (packet_fields s order head fields x h fields_size is))

joined : (head fields body x : List ℕ) → (head ++ (fields ++ body)) ++ x ≡ head ++ ((fields ++ body) ++ x)
joined head fields body x = append_assoc head (fields ++ body) x

-- what stands behind the captured octets of a packet
packet_rest : (s : Standing) (order : ByteOrder) (head fields body x : List ℕ) (len total : ℕ) → PacketHead s order head → length fields ≡ 20 → PacketFields s order head fields → len ≡ number_at order 12 fields → total ≡ number_at order 4 head → length body ≡ padded len
    → IsSomeBlock s head ((fields ++ body) ++ x) → (units : ℕ) × IsRest order false (total - 28 - 4 - padded len) total units x
packet_rest s order head fields body x len total h fields_size f len_is total_is size is =
    let n = 28 + padded len in
    let fits : n + 4 ≤ total = omega (arith, f.fits, total_is, ap padded len_is) in
    let front_size : length (head ++ (fields ++ body)) ≡ n = omega (arith, h.size, fields_size, size, length-append head (fields ++ body), length-append fields body) in
    let whole = packet_in s order head ((fields ++ body) ++ x) h is in
    let flat : (fields ++ body) ++ x ≡ fields ++ (body ++ x) = append_assoc fields body x in
    let size_is : length whole.2 ≡ len =
    sym whole.4.size ∙ ap (λ (l : List ℕ). number_at order 20 (head ++ l)) flat ∙ field order head fields (body ++ x) 12 20 h.size (omega (arith, fields_size)) refl ∙ sym len_is in
    let at = sym (joined head fields body x) in
    let options : HaveOptions order false whole.4.options.0 (part_from n (head ++ ((fields ++ body) ++ x))) =
    subst (λ (k : ℕ). HaveOptions order false whole.4.options.0 (part_from (28 + padded k) (head ++ ((fields ++ body) ++ x)))) size_is whole.4.options.1 in (
      whole.4.options.0,
      rest_of order false s.place 32 n (total - 28 - 4 - padded len) total whole.4.options.0 (head ++ (fields ++ body)) x front_size (number_at-append order 4 head (fields ++ body) (omega (arith, h.size)) ∙ sym total_is) (omega (arith, fits)) (omega arith)
          (subst (λ (l : List ℕ). IsFramed s.place 32 order l) at whole.3)
          (subst (λ (l : List ℕ). HaveOptions order false whole.4.options.0 (part_from n l)) at options),
    )

pub packet_stops : (s : Standing) (order : ByteOrder) (head fields g : List ℕ) (why : Stop) (left : Option (List ℕ)) (len total : ℕ) → PacketHead s order head → length fields ≡ 20 → PacketFields s order head fields → len ≡ number_at order 12 fields → total ≡ number_at order 4 head
    → Stops (IsCaptured order len total) why g left → Stops (IsSomeBlock s head) why (fields ++ g) left
packet_stops s order head fields g why left len total h fields_size f len_is total_is stops =
    stops_behind (IsSomeBlock s head) (IsCaptured order len total) fields g why left
    (λ first is. let long = packet_long s order head first h is in omega (arith, fields_size, f.fits, long.0))
    (λ x is.
    let long = packet_long s order head (fields ++ x) h is in
    let body = take (padded len) x in
    let rest = drop (padded len) x in
    let split : body ++ rest ≡ x = take-append-drop (padded len) x in
    let size : length body ≡ padded len = length-take-le (padded len) x (omega (arith, fields_size, f.fits, long.0, ap padded len_is, length-append fields x)) in
    let at : fields ++ x ≡ (fields ++ body) ++ rest = ap (λ (l : List ℕ). fields ++ l) (sym split) ∙ sym (append_assoc fields body rest) in
    let behind = packet_rest s order head fields body rest len total h fields_size f len_is total_is size (subst (IsSomeBlock s head) at is) in
    (x, [], sym (append-nil x), (body, rest, behind.0, sym split, size, behind.1)))
    stops

-- where the captured octets of a packet, or what stands behind them, are cut short or wrong
pub captured_least : (order : ByteOrder) (len total : ℕ) (octets : List ℕ) → IsCaptured order len total octets → padded len ≤ length octets
captured_least order len total octets is = omega (arith, ap length is.3, is.4, length-append is.0 is.1)

pub captured_stops : (order : ByteOrder) (len total : ℕ) (body g : List ℕ) (why : Stop) (left : Option (List ℕ)) → length body ≡ padded len
    → Stops (λ x. (units : ℕ) × IsRest order false (total - 28 - 4 - padded len) total units x) why g left → Stops (IsCaptured order len total) why (body ++ g) left
captured_stops order len total body g why left size stops =
    stops_behind (IsCaptured order len total) (λ x. (units : ℕ) × IsRest order false (total - 28 - 4 - padded len) total units x) body g why left
    (λ first is. omega (arith, size, captured_least order len total first is))
    (λ x is.
    let same = same_fronts body x is.0 is.1 is.3 (size ∙ sym is.4) in
    (x, [], sym (append-nil x), (is.2, subst (λ (l : List ℕ). IsRest order false (total - 28 - 4 - padded len) total is.2 l) (sym same.1) is.5)))
    stops

pub packet_read : (s : Standing) (order : ByteOrder) (head fields body x captured : List ℕ) (interface stamp units len total : ℕ) → PacketHead s order head → IsTotal s.place 32 total → length fields ≡ 20 → PacketFields s order head fields
    → len ≡ number_at order 12 fields → total ≡ number_at order 4 head → length body ≡ padded len → captured ≡ take len body
    → interface ≡ s.earlier + number_at order 0 fields
    → stamp ≡ stamp_of (get_or s.units (number_at order 0 fields) 0) (2 ^ 32 * number_at order 4 fields + number_at order 8 fields)
    → IsRest order false (total - 28 - 4 - padded len) total units x
    → IsBlock s (Packet interface stamp captured) (head ++ ((fields ++ body) ++ x)) × (length (head ++ ((fields ++ body) ++ x)) ≡ total) × (length captured ≡ len)
packet_read s order head fields body x captured interface stamp units len total h is fields_size f len_is total_is size captured_is interface_is stamp_is rest =
    let n = 28 + padded len in
    let octets = head ++ ((fields ++ body) ++ x) in
    let fits : n + 4 ≤ total = omega (arith, f.fits, total_is, ap padded len_is) in
    let front_size : length (head ++ (fields ++ body)) ≡ n = omega (arith, h.size, fields_size, size, length-append head (fields ++ body), length-append fields body) in
    let by = framed_by order false s.place 32 n (total - 28 - 4 - padded len) total units (head ++ (fields ++ body)) x front_size (number_at-append order 4 head (fields ++ body) (omega (arith, h.size)) ∙ sym total_is) (omega (arith, fits)) (omega arith) is rest in
    let at = joined head fields body x in
    let flat : octets ≡ head ++ (fields ++ (body ++ x)) = ap (λ (l : List ℕ). head ++ l) (append_assoc fields body x) in
    let captured_size : length captured ≡ len = ap length captured_is ∙ length-take-le len body (omega (arith, size)) in
    let at_field : (at k : ℕ) → at + 4 ≤ 20 → k ≡ 8 + at → number_at order k octets ≡ number_at order at fields =
    λ at k within place. ap (number_at order k) flat ∙ field order head fields (body ++ x) at k h.size (omega (arith, within, fields_size)) place in
    let interface_field : number_at order 8 octets ≡ number_at order 0 fields = at_field 0 8 (lit≤ tt) refl in
    let high : number_at order 12 octets ≡ number_at order 4 fields = at_field 4 12 (lit≤ tt) refl in
    let low : number_at order 16 octets ≡ number_at order 8 fields = at_field 8 16 (lit≤ tt) refl in
    let size_field : number_at order 20 octets ≡ number_at order 12 fields = at_field 12 20 (lit≤ tt) refl in
    let behind_fields : drop 28 octets ≡ body ++ x =
    ap (drop 28) (flat ∙ sym (append_assoc head fields (body ++ x))) ∙ drop_front (head ++ fields) (body ++ x) 28 (omega (arith, h.size, fields_size, length-append head fields)) in (
      (
        order,
        h.here,
        subst (λ (l : List ℕ). IsFramed s.place 32 order l) at by.1,
        record {
          kind = number_at-append order 0 head ((fields ++ body) ++ x) (omega (arith, h.size)) ∙ h.kind;
          declared = omega (arith, interface_field, f.declared);
          interface_is = omega (arith, interface_is, interface_field);
          stamp_is = stamp_is ∙ ap (λ (k : ℕ). stamp_of (get_or s.units k 0) (2 ^ 32 * number_at order 4 fields + number_at order 8 fields)) (sym interface_field)
              ∙ ap (λ (k : ℕ). stamp_of (get_or s.units (number_at order 8 octets) 0) (2 ^ 32 * k + number_at order 8 fields)) (sym high)
              ∙ ap (λ (k : ℕ). stamp_of (get_or s.units (number_at order 8 octets) 0) (2 ^ 32 * number_at order 12 octets + k)) (sym low);
          size = size_field ∙ sym len_is ∙ sym captured_size;
          bounded = omega (arith, captured_size, len_is, f.bounded);
          fits = omega (arith, ap padded captured_size, fits, by.0, ap (λ (l : List ℕ). length l) at);
          captured_is = captured_is ∙ sym (take-append-le len body x (omega (arith, size))) ∙ ap (take len) (sym behind_fields) ∙ ap (λ (k : ℕ). take k (drop 28 octets)) (sym captured_size);
          options = (
            units,
            subst (λ (k : ℕ). HaveOptions order false units (part_from (28 + padded k) octets)) (sym captured_size) (subst (λ (l : List ℕ). HaveOptions order false units (part_from n l)) at by.2),
          );
        },
      ),
      sym (ap (λ (l : List ℕ). length l) at) ∙ by.0,
      captured_size,
    )

-- what is told of a packet whose captured octets the buffer holds where they are at most 1,518
pub packet_told : (s : Standing) (block : BlockRead) (interface stamp len : ℕ) (buf held octets : List ℕ) → (1518 < len → block ≡ read.Long interface) → (len ≤ 1518 → block ≡ read.Frame interface stamp len) → (len ≤ 1518 → held ≡ take len buf) → length held ≡ len
    → IsBlock s (Packet interface stamp held) octets → IsRead s block buf octets
packet_told s block interface stamp len buf held octets long frame same size is =
    elim (cases_lt 1518 len) [
      | inl more ↦ subst (λ (b : BlockRead). IsRead s b buf octets) (sym (long more)) (stamp, held, omega (arith, more, size), is)
      | inr few ↦ subst (λ (b : BlockRead). IsRead s b buf octets) (sym (frame few)) (few, subst (λ (l : List ℕ). IsBlock s (Packet interface stamp l) octets) (same few) is)
    ]
