-- Every list of octets tells something.
use Rattle.std.proofs.Common.{◌≡◌, ◌≢◌, ℕ, zero, suc, ◌+◌, ◌-◌, ◌%◌, ◌^◌, ◌<◌, ◌≤◌, Bool, true, false, List, [], ◌∷◌, ◌++◌, length, take, drop, slice_index, Option, Some, None, ◌⊎◌, inl, inr, lit≤, refl, sym, ap, subst, ◌∙◌, arith, length-append, All}
use Rattle.std.proofs.lemmas.List.{length-take-le, length-drop, take-append-drop}
use Rattle.std.proofs.lemmas.List.Elements.{All-nil, All-cons, All-head, All-tail}
use Rattle.std.proofs.lemmas.Bool.{cases_eq, cases_lt}
use Rattle.std.proofs.lemmas.Slice.Eq.{bytes_eq-Decides}
use Rattle.std.specs.Str.{bytes_eq}
use Rattle.std.specs.Int.{w32}
use Rattle.savi_kinds.specs.declared.entry.How.{How}
use Rattle.pcap_io.specs.declared.kind.ByteOrder.{ByteOrder}
use Rattle.pcap_io.specs.declared.kind.ByteOrder.TheVariants.{Little, Big}
use Rattle.pcap_io.specs.Numbers.{octets_of, number_at}
use Rattle.pcap_io.proofs.Fronts.{take_front, number_at-append}
use Rattle.pcapng_io.specs.Numbers.{half_at}
use Rattle.pcapng_io.specs.Options.{padded, BlockOption, IsOption, AreOptions, IsSettled, resolved, HaveOptions}
use Rattle.pcapng_io.specs.Blocks.{Block, Section, Interface, Packet, Other, Standing, IsFramed, section_type, part_from, stamp_of, ticks_of, IsSection, IsInterface, IsPacket, IsOther, IsBlock, behind}
use Rattle.pcapng_io.specs.Runs.{Input, all_events, BeginsNone, AreBlocks, Tell, Arrive, at_start, ended}
use Rattle.pcapng_io.specs.Readers.{State, Reading, Ended, Comes}
use Rattle.pcapng_io.proofs.Fronts.{half_front}
use Rattle.pcapng_io.proofs.Walks.{first_option}
use Rattle.pcapng_io.proofs.Once.{options_once}
use Rattle.pcapng_io.proofs.Readings.{block_total, some_end}

-- it holds or it doesn't
abbrev Either : Type 0 → Type 0
Either P = P ⊎ (P → ⊥)

both : (P Q : Type 0) → Either P → Either Q → Either (P × Q)
both P Q (inl p) (inl q) = inl (p, q)
both P Q (inr never) q = inr (λ pq. never pq.0)
both P Q (inl p) (inr never) = inr (λ pq. never pq.1)

equal : (m n : ℕ) → Either (m ≡ n)
equal m n = elim (cases_eq m n) [ inl same ↦ inl same | inr other ↦ inr other ]

at_most : (m n : ℕ) → Either (m ≤ n)
at_most m n = elim (cases_lt n m) [ inl more ↦ inr (λ within. absurd (omega (arith, more, within))) | inr within ↦ inl within ]

below : (m n : ℕ) → Either (m < n)
below m n = elim (cases_lt m n) [ inl less ↦ inl less | inr not_less ↦ inr (λ less. absurd (omega (arith, less, not_less))) ]

not_so : (P : Type 0) → Either P → Either (P → ⊥)
not_so P (inl p) = inr (λ never. never p)
not_so P (inr never) = inl never

same_or_not : (xs ys : List ℕ) → Either (xs ≡ ys)
same_or_not xs ys = by_test (bytes_eq xs ys) refl
  where
    by_test : (b : Bool) → bytes_eq xs ys ≡ b → Either (xs ≡ ys)
    by_test true test = inl ((bytes_eq-Decides xs ys).0 test)
    by_test false test = inr (λ same. let set : bytes_eq xs ys ≡ true = (bytes_eq-Decides xs ys).1 same in cc)

one_of : (P Q : Type 0) → Either P → Either Q → Either (P ⊎ Q)
one_of P Q (inl p) q = inl (inl p)
one_of P Q (inr never) (inl q) = inl (inr q)
one_of P Q (inr never) (inr nor) = inr (λ pq. elim pq [ inl p ↦ never p | inr q ↦ nor q ])

settled_or_not : (o : BlockOption) → Either (IsSettled o)
settled_or_not o =
    elim (equal o.code 9) [
      | inr other ↦ inl (λ nine. absurd (other nine))
      | inl nine ↦
          let v = slice_index o.value 0 in
          elim (both (length o.value ≡ 1) ((v ≤ 38) ⊎ ((128 ≤ v) × (v ≤ 228))) (equal (length o.value) 1) (one_of (v ≤ 38) ((128 ≤ v) × (v ≤ 228)) (at_most v 38) (both (128 ≤ v) (v ≤ 228) (at_most 128 v) (at_most v 228)))) [
            | inl is ↦ inl (λ any. is)
            | inr never ↦ inr (λ settled. never (settled nine))
          ]
    ]

all_settled : (options : List BlockOption) → Either (All IsSettled options)
all_settled [] = inl (All-nil IsSettled)
all_settled (o ∷ options) =
    elim (settled_or_not o) [
      | inr never ↦ inr (λ all. never (All-head IsSettled o options all))
      | inl one ↦ elim (all_settled options) [
        | inr never ↦ inr (λ all. never (All-tail IsSettled o options all))
        | inl others ↦ inl (All-cons IsSettled o options one others)
      ]
    ]

no_options : (order : ByteOrder) (octets : List ℕ) → octets ≢ [] → (4 ≤ length octets → half_at order 0 octets ≡ 0 → ⊥) → length octets < 4 + padded (half_at order 2 octets) ⊎ (length octets < 4) → (options : List BlockOption) → AreOptions order options octets → ⊥
no_options order octets some more short [] (inl none) = some none
no_options order octets some more short [] (inr code) = more code.0 code.1
no_options order octets some more short (o ∷ options) are =
    let first = are.0 in
    let size : length octets ≡ length first + length are.1 = ap length are.2 ∙ length-append first are.1 in
    let named : half_at order 2 octets ≡ half_at order 2 first = ap (half_at order 2) are.2 ∙ half_front order 2 first are.1 (omega (arith, are.3.size)) in
    elim short [
      | inl long ↦ absurd (omega (arith, long, size, are.3.size, ap padded named))
      | inr cut ↦ absurd (omega (arith, cut, size, are.3.size))
    ]

-- octets are options or not; there are at most so many octets
options_or_not : (most : ℕ) (order : ByteOrder) (octets : List ℕ) → length octets ≤ most → Either ((options : List BlockOption) × AreOptions order options octets)
options_or_not most order [] within = inl ([], inl refl)
options_or_not zero order (x ∷ octets) within = absurd (omega arith)
options_or_not (suc most) order (x ∷ octets) within =
    let all = x ∷ octets in
    let size = 4 + padded (half_at order 2 all) in
    elim (cases_lt (length all) 4) [
      | inl cut ↦ inr (λ is. no_options order all (λ none. absurd (omega (arith, ap length none))) (λ four code. absurd (omega (arith, cut, four))) (inr cut) is.0 is.1)
      | inr four ↦ elim (equal (half_at order 0 all) 0) [
        | inl code ↦ inl ([], inr (four, code))
        | inr some ↦ elim (cases_lt (length all) size) [
          | inl long ↦ inr (λ is. no_options order all (λ none. absurd (omega (arith, ap length none))) (λ four code. some code) (inl long) is.0 is.1)
          | inr fits ↦
              let first = take size all in
              let rest = drop size all in
              let split : first ++ rest ≡ all = take-append-drop size all in
              let long : length first ≡ size = length-take-le size all fits in
              let code : half_at order 0 first ≡ half_at order 0 all = sym (half_front order 0 first rest (omega (arith, long))) ∙ ap (half_at order 0) split in
              let named : half_at order 2 first ≡ half_at order 2 all = sym (half_front order 2 first rest (omega (arith, long))) ∙ ap (half_at order 2) split in
              let o : BlockOption = record { code = half_at order 0 first; value = take (half_at order 2 first) (drop 4 first) } in
              let is : IsOption order first o = record { size = long ∙ ap (λ (n : ℕ). 4 + padded n) (sym named); code_is = refl; some = λ none. some (sym code ∙ none); value_is = refl } in
              elim (options_or_not most order rest (omega (arith, within, length-drop size all))) [
                | inl later ↦ inl (o ∷ later.0, (first, rest, sym split, is, later.1))
                | inr none ↦ inr (λ any.
                    let later = first_option order first rest o any.0 is (subst (λ (l : List ℕ). AreOptions order any.0 l) (sym split) any.1) in
                    none (later.0, later.2))
              ]
        ]
      ]
    ]

have_or_not : (order : ByteOrder) (b : Bool) (octets : List ℕ) → Either ((units : ℕ) × HaveOptions order b units octets)
have_or_not order b octets =
    elim (options_or_not (length octets) order octets (omega arith)) [
      | inr none ↦ inr (λ is. none (is.1.0, is.1.1))
      | inl found ↦ settle b found.0 found.1
    ]
  where
    settle : (b : Bool) (options : List BlockOption) → AreOptions order options octets → Either ((units : ℕ) × HaveOptions order b units octets)
    settle false options are = inl (0, (options, are, tt))
    settle true options are = elim (all_settled options) [
      | inl all ↦ inl (resolved 1000000 options, (options, are, (all, refl)))
      | inr never ↦ inr (λ is. never (subst (All IsSettled) (options_once order is.1.0 options octets is.1.1 are) is.1.2.0))
    ]

framed_or_not : (place least : ℕ) (order : ByteOrder) (octets : List ℕ) → Either (IsFramed place least order octets)
framed_or_not place least order octets =
    let size = length octets in
    let at = number_at order 4 octets in
    let last = number_at order (size - 4) octets in
    elim (both (size % 4 ≡ 0) ((least ≤ size) × (size ≤ 1048576) × (place + size ≤ 2 ^ 62) × (at ≡ size) × (last ≡ size)) (equal (size % 4) 0) (five (least ≤ size) (size ≤ 1048576) (place + size ≤ 2 ^ 62) (at ≡ size) (last ≡ size) (at_most least size) (at_most size 1048576) (at_most (place + size) (2 ^ 62)) (equal at size) (equal last size))) [
      | inl is ↦ inl (record { total = record { words = is.0; fits = is.1.0; bounded = is.1.1; placed = is.1.2 }; named = is.1.3; again = is.1.4 })
      | inr never ↦ inr (λ f. never (f.total.words, (f.total.fits, f.total.bounded, f.total.placed, f.named, f.again)))
    ]
  where
    five : (A B C D E : Type 0) → Either A → Either B → Either C → Either D → Either E → Either (A × B × C × D × E)
    five A B C D E (inl a) (inl b) (inl c) (inl d) (inl e) = inl (a, b, c, d, e)
    five A B C D E (inr never) b c d e = inr (λ all. never all.0)
    five A B C D E (inl a) (inr never) c d e = inr (λ all. never all.1)
    five A B C D E (inl a) (inl b) (inr never) d e = inr (λ all. never all.2)
    five A B C D E (inl a) (inl b) (inl c) (inr never) e = inr (λ all. never all.3)
    five A B C D E (inl a) (inl b) (inl c) (inl d) (inr never) = inr (λ all. never all.4)

three : (A B C : Type 0) → Either A → Either B → Either C → Either (A × B × C)
three A B C (inl a) (inl b) (inl c) = inl (a, b, c)
three A B C (inr never) b c = inr (λ all. never all.0)
three A B C (inl a) (inr never) c = inr (λ all. never all.1)
three A B C (inl a) (inl b) (inr never) = inr (λ all. never all.2)

section_or_not : (order : ByteOrder) (octets : List ℕ) → Either (IsSection order octets)
section_or_not order octets =
    let A = take 4 octets ≡ section_type in
    let B = take 4 (drop 8 octets) ≡ octets_of order w32 0x1a2b3c4d in
    let C = half_at order 12 octets ≡ 1 in
    let D = (units : ℕ) × HaveOptions order false units (part_from 24 octets) in
    elim (both (A × B × C) D (three A B C (same_or_not (take 4 octets) section_type) (same_or_not (take 4 (drop 8 octets)) (octets_of order w32 0x1a2b3c4d)) (equal (half_at order 12 octets) 1)) (have_or_not order false (part_from 24 octets))) [
      | inl is ↦ inl (record { kind = is.0.0; magic = is.0.1; major = is.0.2; options = is.1 })
      | inr never ↦ inr (λ s. never ((s.kind, s.magic, s.major), s.options))
    ]

interface_or_not : (s : Standing) (order : ByteOrder) (octets : List ℕ) → Either ((link : ℕ) × (units : ℕ) × IsInterface s order octets link units)
interface_or_not s order octets =
    let A = number_at order 0 octets ≡ 1 in
    let B = length s.units < 256 in
    let C = s.earlier + length s.units < 65536 in
    let D = (units : ℕ) × HaveOptions order true units (part_from 16 octets) in
    elim (both (A × B × C) D (three A B C (equal (number_at order 0 octets) 1) (below (length s.units) 256) (below (s.earlier + length s.units) 65536)) (have_or_not order true (part_from 16 octets))) [
      | inl is ↦ inl (half_at order 8 octets, is.1.0, record { kind = is.0.0; link_is = refl; options = is.1.1; few = is.0.1; few_in_file = is.0.2 })
      | inr never ↦ inr (λ i. never ((i.2.kind, i.2.few, i.2.few_in_file), (i.1, i.2.options)))
    ]

packet_or_not : (s : Standing) (order : ByteOrder) (octets : List ℕ) → Either ((interface : ℕ) × (stamp : ℕ) × (captured : List ℕ) × IsPacket s order octets interface stamp captured)
packet_or_not s order octets =
    let n = number_at order 20 octets in
    let A = number_at order 0 octets ≡ 6 in
    let B = number_at order 8 octets < length s.units in
    let C = n ≤ 262144 in
    let D = 28 + padded n + 4 ≤ length octets in
    let E = (units : ℕ) × HaveOptions order false units (part_from (28 + padded n) octets) in
    elim (both (A × B × C) (D × E) (three A B C (equal (number_at order 0 octets) 6) (below (number_at order 8 octets) (length s.units)) (at_most n 262144)) (both D E (at_most (28 + padded n + 4) (length octets)) (have_or_not order false (part_from (28 + padded n) octets)))) [
      | inl is ↦
          let captured = take n (drop 28 octets) in
          let size : length captured ≡ n = length-take-le n (drop 28 octets) (omega (arith, is.1.0, length-drop 28 octets)) in
          inl (
            s.earlier + number_at order 8 octets,
            stamp_of (slice_index s.units (number_at order 8 octets)) (ticks_of order octets),
            captured,
            record {
              kind = is.0.0;
              declared = is.0.1;
              interface_is = refl;
              stamp_is = refl;
              size = sym size;
              bounded = omega (arith, size, is.0.2);
              fits = subst (λ (k : ℕ). 28 + padded k + 4 ≤ length octets) (sym size) is.1.0;
              captured_is = ap (λ (k : ℕ). take k (drop 28 octets)) (sym size);
              options = subst (λ (k : ℕ). (units : ℕ) × HaveOptions order false units (part_from (28 + padded k) octets)) (sym size) is.1.1;
            },
          )
      | inr never ↦ inr (λ p.
          let size = p.3.size in
          never (
            (p.3.kind, p.3.declared, omega (arith, size, p.3.bounded)),
            (
              subst (λ (k : ℕ). 28 + padded k + 4 ≤ length octets) (sym size) p.3.fits,
              subst (λ (k : ℕ). (units : ℕ) × HaveOptions order false units (part_from (28 + padded k) octets)) (sym size) p.3.options,
            ),
          ))
    ]

other_or_not : (order : ByteOrder) (octets : List ℕ) → Either (IsOther order octets)
other_or_not order octets =
    let A = take 4 octets ≢ section_type in
    let B = number_at order 0 octets ≢ 1 in
    let C = number_at order 0 octets ≢ 6 in
    elim (three A B C (not_so (take 4 octets ≡ section_type) (same_or_not (take 4 octets) section_type)) (not_so (number_at order 0 octets ≡ 1) (equal (number_at order 0 octets) 1)) (not_so (number_at order 0 octets ≡ 6) (equal (number_at order 0 octets) 6))) [
      | inl is ↦ inl (record { no_section = is.0; no_interface = is.1; no_packet = is.2 })
      | inr never ↦ inr (λ o. never (o.no_section, o.no_interface, o.no_packet))
    ]

-- octets are a section header in this order or not
section_in : (s : Standing) (order : ByteOrder) (octets : List ℕ) → Either (IsBlock s (Section order) octets)
section_in s order octets = both (IsFramed s.place 28 order octets) (IsSection order octets) (framed_or_not s.place 28 order octets) (section_or_not order octets)

-- a block of a section in this order
abbrev InSection : Standing → ByteOrder → List ℕ → Type 0
InSection s order octets =
    (IsFramed s.place 20 order octets × ((link : ℕ) × (units : ℕ) × IsInterface s order octets link units))
    ⊎ ((IsFramed s.place 32 order octets × ((interface : ℕ) × (stamp : ℕ) × (captured : List ℕ) × IsPacket s order octets interface stamp captured))
    ⊎ (IsFramed s.place 12 order octets × IsOther order octets))

-- some front of the octets is so or none is, where its size is known
front_of : (P : List ℕ → Type 0) (total : ℕ) (octets : List ℕ) → ((l : List ℕ) → Either (P l)) → ((first rest : List ℕ) → octets ≡ first ++ rest → P first → length first ≡ total) → Either ((first : List ℕ) × (rest : List ℕ) × (octets ≡ first ++ rest) × P first)
front_of P total octets decide size =
    elim (cases_lt (length octets) total) [
      | inl cut ↦ inr (λ is. absurd (omega (arith, cut, size is.0 is.1 is.2 is.3, ap length is.2, length-append is.0 is.1)))
      | inr fits ↦ elim (decide (take total octets)) [
        | inl is ↦ inl (take total octets, drop total octets, sym (take-append-drop total octets), is)
        | inr never ↦ inr (λ is. never (subst P (sym (ap (take total) is.2 ∙ take_front is.0 is.1 total (size is.0 is.1 is.2 is.3))) is.3))
      ]
    ]

named_total : (place least : ℕ) (order : ByteOrder) (octets first rest : List ℕ) → 8 ≤ least → octets ≡ first ++ rest → IsFramed place least order first → length first ≡ number_at order 4 octets
named_total place least order octets first rest enough same framed =
    sym framed.named ∙ sym (number_at-append order 4 first rest (omega (arith, framed.total.fits, enough))) ∙ sym (ap (number_at order 4) same)

section_at : (s : Standing) (order : ByteOrder) (octets : List ℕ) → Either ((first : List ℕ) × (rest : List ℕ) × (octets ≡ first ++ rest) × IsBlock s (Section order) first)
section_at s order octets =
    front_of (IsBlock s (Section order)) (number_at order 4 octets) octets (section_in s order)
    (λ first rest same is. named_total s.place 28 order octets first rest (lit≤ tt) same is.0)

in_section_or_not : (s : Standing) (order : ByteOrder) (octets : List ℕ) → Either (InSection s order octets)
in_section_or_not s order octets =
    one_of (IsFramed s.place 20 order octets × ((link : ℕ) × (units : ℕ) × IsInterface s order octets link units))
    ((IsFramed s.place 32 order octets × ((interface : ℕ) × (stamp : ℕ) × (captured : List ℕ) × IsPacket s order octets interface stamp captured)) ⊎ (IsFramed s.place 12 order octets × IsOther order octets))
    (both (IsFramed s.place 20 order octets) ((link : ℕ) × (units : ℕ) × IsInterface s order octets link units) (framed_or_not s.place 20 order octets) (interface_or_not s order octets))
    (one_of (IsFramed s.place 32 order octets × ((interface : ℕ) × (stamp : ℕ) × (captured : List ℕ) × IsPacket s order octets interface stamp captured)) (IsFramed s.place 12 order octets × IsOther order octets)
    (both (IsFramed s.place 32 order octets) ((interface : ℕ) × (stamp : ℕ) × (captured : List ℕ) × IsPacket s order octets interface stamp captured) (framed_or_not s.place 32 order octets) (packet_or_not s order octets))
    (both (IsFramed s.place 12 order octets) (IsOther order octets) (framed_or_not s.place 12 order octets) (other_or_not order octets)))

in_section_total : (s : Standing) (order : ByteOrder) (octets first rest : List ℕ) → octets ≡ first ++ rest → InSection s order first → length first ≡ number_at order 4 octets
in_section_total s order octets first rest same (inl is) = named_total s.place 20 order octets first rest (lit≤ tt) same is.0
in_section_total s order octets first rest same (inr (inl is)) = named_total s.place 32 order octets first rest (lit≤ tt) same is.0
in_section_total s order octets first rest same (inr (inr is)) = named_total s.place 12 order octets first rest (lit≤ tt) same is.0

in_section_at : (s : Standing) (order : ByteOrder) (octets : List ℕ) → Either ((first : List ℕ) × (rest : List ℕ) × (octets ≡ first ++ rest) × InSection s order first)
in_section_at s order octets =
    front_of (InSection s order) (number_at order 4 octets) octets (in_section_or_not s order) (λ first rest same is. in_section_total s order octets first rest same is)

abbrev Found : Standing → List ℕ → Type 0
Found s octets = (b : Block) × (first : List ℕ) × (rest : List ℕ) × (octets ≡ first ++ rest) × IsBlock s b first

found_in : (s : Standing) (order : ByteOrder) (octets first rest : List ℕ) → s.order ≡ Some order → octets ≡ first ++ rest → InSection s order first → Found s octets
found_in s order octets first rest here same (inl is) = (Interface is.1.0 is.1.1, first, rest, same, (order, here, is.0, is.1.2))
found_in s order octets first rest here same (inr (inl is)) = (Packet is.1.0 is.1.1 is.1.2, first, rest, same, (order, here, is.0, is.1.3))
found_in s order octets first rest here same (inr (inr is)) = (Other, first, rest, same, (order, here, is.0, is.1))

one_order : (o p : ByteOrder) (of : Option ByteOrder) → of ≡ Some o → of ≡ Some p → o ≡ p
one_order o p of one other = cc

no_order : (o : ByteOrder) (of : Option ByteOrder) → of ≡ None → of ≡ Some o → ⊥
no_order o of one other = absurd (cc)

abbrev NoSection : Standing → List ℕ → Type 0
NoSection s octets = (order : ByteOrder) → (first : List ℕ) × (rest : List ℕ) × (octets ≡ first ++ rest) × IsBlock s (Section order) first → ⊥

none_outside : (s : Standing) (octets : List ℕ) → s.order ≡ None → NoSection s octets → BeginsNone s octets
none_outside s octets outside none (Section order) first rest same is = none order (first, rest, same, is)
none_outside s octets outside none (Interface link units) first rest same is = no_order is.0 s.order outside is.1
none_outside s octets outside none (Packet interface stamp captured) first rest same is = no_order is.0 s.order outside is.1
none_outside s octets outside none Other first rest same is = no_order is.0 s.order outside is.1

none_inside : (s : Standing) (here : ByteOrder) (octets : List ℕ) → s.order ≡ Some here → NoSection s octets → ((first : List ℕ) × (rest : List ℕ) × (octets ≡ first ++ rest) × InSection s here first → ⊥) → BeginsNone s octets
none_inside s here octets inside none never (Section order) first rest same is = none order (first, rest, same, is)
none_inside s here octets inside none never (Interface link units) first rest same is =
    never (first, rest, same, subst (λ (o : ByteOrder). InSection s o first) (one_order is.0 here s.order is.1 inside) (inl (is.2, (link, units, is.3))))
none_inside s here octets inside none never (Packet interface stamp captured) first rest same is =
    never (first, rest, same, subst (λ (o : ByteOrder). InSection s o first) (one_order is.0 here s.order is.1 inside) (inr (inl (is.2, (interface, stamp, captured, is.3)))))
none_inside s here octets inside none never Other first rest same is =
    never (first, rest, same, subst (λ (o : ByteOrder). InSection s o first) (one_order is.0 here s.order is.1 inside) (inr (inr (is.2, is.3))))

no_section : (s : Standing) (octets : List ℕ) → ((first : List ℕ) × (rest : List ℕ) × (octets ≡ first ++ rest) × IsBlock s (Section Little) first → ⊥) → ((first : List ℕ) × (rest : List ℕ) × (octets ≡ first ++ rest) × IsBlock s (Section Big) first → ⊥) → NoSection s octets
no_section s octets little big Little = little
no_section s octets little big Big = big

in_or_none : (s : Standing) (octets : List ℕ) (of : Option ByteOrder) → s.order ≡ of → NoSection s octets → Found s octets ⊎ BeginsNone s octets
in_or_none s octets None outside none = inr (none_outside s octets outside none)
in_or_none s octets (Some here) inside none =
    elim (in_section_at s here octets) [
      | inl found ↦ inl (found_in s here octets found.0 found.1 inside found.2 found.3)
      | inr never ↦ inr (none_inside s here octets inside none never)
    ]

-- a block begins these octets or none does
block_or_none : (s : Standing) (octets : List ℕ) → Found s octets ⊎ BeginsNone s octets
block_or_none s octets =
    elim (section_at s Little octets) [
      | inl is ↦ inl (Section Little, is.0, is.1, is.2, is.3)
      | inr little ↦ elim (section_at s Big octets) [
        | inl is ↦ inl (Section Big, is.0, is.1, is.2, is.3)
        | inr big ↦ in_or_none s octets s.order refl (no_section s octets little big)
      ]
    ]

some_blocks : (most : ℕ) (s : Standing) (octets : List ℕ) → length octets ≤ most → (blocks : List Block) × (ending : How) × AreBlocks s blocks ending octets
some_blocks zero s octets within =
    let none : BeginsNone s octets = λ b first rest same is. omega (arith, within, (block_total s b first is).fits, ap length same, length-append first rest) in
    let end = some_end s octets none in
    ([], end.0, end.1)
some_blocks (suc most) s octets within =
    elim (block_or_none s octets) [
      | inr none ↦ let end = some_end s octets none in ([], end.0, end.1)
      | inl found ↦
          let later = some_blocks most (behind s found.0 (length found.1)) found.2 (omega (arith, within, (block_total s found.0 found.1 found.4).fits, ap length found.3, length-append found.1 found.2)) in
          (found.0 ∷ later.0, later.1, (found.1, found.2, found.3, found.4, later.2))
    ]

pub some_tell : (s : Standing) (octets : List ℕ) → (input : Input) × Tell s octets input
some_tell s octets =
    let blocks = some_blocks (length octets) s octets (omega arith) in
    (record { events = all_events blocks.0; ending = blocks.1 }, (blocks.0, blocks.2, refl))

pub some_input : (octets : List ℕ) → (input : Input) × Arrive octets input
some_input octets = some_tell at_start octets

-- what a reader in any state will tell of any octets
pub some_later : (state : State) (octets : List ℕ) → (input : Input) × Comes state octets input
some_later (Reading s) octets = some_tell s octets
some_later (Ended ending) octets = (ended ending, refl)
