-- Section headers, as far as they were read.
use Rattle.std.proofs.Common.{◌≡◌, ℕ, ◌+◌, ◌-◌, ◌≤◌, false, List, [], ◌++◌, length, take, Option, lit≤, refl, sym, ap, subst, ◌∙◌, arith, append_assoc, append-nil, length-append, get_or}
use Rattle.std.proofs.lemmas.List.{take-append-le}
use Rattle.std.specs.Int.{w32}
use Rattle.pcap_io.specs.declared.kind.ByteOrder.{ByteOrder}
use Rattle.pcap_io.specs.declared.kind.ByteOrder.TheVariants.{Little, Big}
use Rattle.pcap_io.specs.Numbers.{octets_of, number_at}
use Rattle.pcap_io.proofs.Fronts.{drop_front, number_at-append}
use Rattle.pcapng_io.specs.declared.stop.Stop.{Stop}
use Rattle.pcapng_io.specs.declared.stop.Stop.TheVariants as stop
use Rattle.pcapng_io.specs.Numbers.{half_at}
use Rattle.pcapng_io.specs.Options.{HaveOptions}
use Rattle.pcapng_io.specs.Blocks.{Section, Standing, IsTotal, IsFramed, part_from, section_type, IsBlock}
use Rattle.pcapng_io.specs.Pieces.{Stops, FallsShort, IsRest, IsSomeBlock}
use Rattle.pcapng_io.proofs.Fronts.{half_front, half_behind}
use Rattle.pcapng_io.proofs.Parts.{short_stops, wrong_stops, stops_behind}
use Rattle.pcapng_io.proofs.BlockParts.{section_of, named_in_front, rest_of, framed_by}

abbrev pub magic_text : ByteOrder → List ℕ
magic_text order = octets_of order w32 0x1a2b3c4d

-- the magics of the two orders differ
pub magic_once : (o p : ByteOrder) → magic_text o ≡ magic_text p → o ≡ p
magic_once Little Little same = refl
magic_once Little Big same = absurd (omega (arith, ap (λ (l : List ℕ). get_or l 0 0) same))
magic_once Big Little same = absurd (omega (arith, ap (λ (l : List ℕ). get_or l 0 0) same))
magic_once Big Big same = refl

pub type_in_front : (head x : List ℕ) → length head ≡ 8 → take 4 (head ++ x) ≡ take 4 head
type_in_front head x size = take-append-le 4 head x (omega (arith, size))

-- what the fields of a section header say, and what stands behind them
pub record SectionFront (s : Standing) (head fields x : List ℕ) : Type 0 where
  pub order : ByteOrder
  pub magic : take 4 fields ≡ magic_text order
  pub major : half_at order 4 fields ≡ 1
  pub total : IsTotal s.place 28 (number_at order 4 head)
  pub long : 8 + (16 + length x) ≡ number_at order 4 head
  pub rest : (units : ℕ) × IsRest order false (number_at order 4 head - 24 - 4) (number_at order 4 head) units x

section_least : (s : Standing) (head x : List ℕ) → length head ≡ 8 → take 4 head ≡ section_type → IsSomeBlock s head x → 20 ≤ length x
section_least s head x size type is =
    let whole = section_of s (head ++ x) is.0 (type_in_front head x size ∙ type) is.1 in
    omega (arith, size, whole.1.total.fits, length-append head x)

pub section_front : (s : Standing) (head fields x : List ℕ) → length head ≡ 8 → length fields ≡ 16 → take 4 head ≡ section_type → IsSomeBlock s head (fields ++ x) → SectionFront s head fields x
section_front s head fields x size fields_size type is =
    let whole = section_of s (head ++ (fields ++ x)) is.0 (type_in_front head (fields ++ x) size ∙ type) is.1 in
    let order = whole.0 in
    let named = named_in_front order s.place 28 head (fields ++ x) (omega (arith, size)) whole.1 in
    let total = number_at order 4 head in
    let front_size : length (head ++ fields) ≡ 24 = omega (arith, size, fields_size, length-append head fields) in
    let framed : IsFramed s.place 28 order ((head ++ fields) ++ x) = subst (λ (l : List ℕ). IsFramed s.place 28 order l) (sym (append_assoc head fields x)) whole.1 in
    let options : HaveOptions order false whole.2.options.0 (part_from 24 ((head ++ fields) ++ x)) =
    subst (λ (l : List ℕ). HaveOptions order false whole.2.options.0 (part_from 24 l)) (sym (append_assoc head fields x)) whole.2.options.1 in
    record {
      order = order;
      magic = sym (take-append-le 4 fields x (omega (arith, fields_size))) ∙ sym (ap (take 4) (drop_front head (fields ++ x) 8 size)) ∙ whole.2.magic;
      major = sym (half_behind order head fields 8 4 12 size refl ∙ refl) ∙ sym (half_front order 12 (head ++ fields) x (omega (arith, front_size))) ∙ ap (half_at order 12) (append_assoc head fields x) ∙ whole.2.major;
      total = named.1;
      long = omega (arith, named.0, size, fields_size, length-append fields x);
      rest = (
        whole.2.options.0,
        rest_of order false s.place 28 24 (total - 24 - 4) total whole.2.options.0 (head ++ fields) x front_size (number_at-append order 4 head fields (omega (arith, size))) (omega (arith, named.1.fits)) (lit≤ tt) framed options,
      );
    }

pub section_short : (s : Standing) (head g : List ℕ) (why : Stop) (left : Option (List ℕ)) → length head ≡ 8 → take 4 head ≡ section_type → FallsShort 16 why g left → Stops (IsSomeBlock s head) why g left
section_short s head g why left size type short =
    short_stops (IsSomeBlock s head) 16 g why left (λ first is. omega (arith, section_least s head first size type is)) short

pub section_wrong : (s : Standing) (head fields : List ℕ) (left : Option (List ℕ)) → length head ≡ 8 → length fields ≡ 16 → take 4 head ≡ section_type
    → ((order : ByteOrder) → take 4 fields ≡ magic_text order → half_at order 4 fields ≡ 1 → IsTotal s.place 28 (number_at order 4 head) → ⊥)
    → Stops (IsSomeBlock s head) stop.Malformed fields left
section_wrong s head fields left size fields_size type wrong =
    wrong_stops (IsSomeBlock s head) fields left
    (λ first is. omega (arith, fields_size, section_least s head first size type is))
    (λ x is. let front = section_front s head fields x size fields_size type is in wrong front.order front.magic front.major front.total)

pub section_stops : (s : Standing) (order : ByteOrder) (head fields g : List ℕ) (why : Stop) (left : Option (List ℕ)) → length head ≡ 8 → length fields ≡ 16 → take 4 head ≡ section_type → take 4 fields ≡ magic_text order
    → Stops (λ x. (units : ℕ) × IsRest order false (number_at order 4 head - 24 - 4) (number_at order 4 head) units x) why g left → Stops (IsSomeBlock s head) why (fields ++ g) left
section_stops s order head fields g why left size fields_size type magic stops =
    let Q : ByteOrder → List ℕ → Type 0 = λ o x. (units : ℕ) × IsRest o false (number_at o 4 head - 24 - 4) (number_at o 4 head) units x in
    stops_behind (IsSomeBlock s head) (Q order) fields g why left
    (λ first is. omega (arith, fields_size, section_least s head first size type is))
    (λ x is.
    let front = section_front s head fields x size fields_size type is in
    let same : front.order ≡ order = magic_once front.order order (sym front.magic ∙ magic) in
    (x, [], sym (append-nil x), subst (λ (o : ByteOrder). Q o x) same front.rest))
    stops

pub section_read : (s : Standing) (order : ByteOrder) (head fields x : List ℕ) (units : ℕ) → length head ≡ 8 → length fields ≡ 16 → take 4 head ≡ section_type → take 4 fields ≡ magic_text order → half_at order 4 fields ≡ 1 → IsTotal s.place 28 (number_at order 4 head)
    → IsRest order false (number_at order 4 head - 24 - 4) (number_at order 4 head) units x
    → IsBlock s (Section order) (head ++ (fields ++ x)) × (length (head ++ (fields ++ x)) ≡ number_at order 4 head)
section_read s order head fields x units size fields_size type magic major is rest =
    let total = number_at order 4 head in
    let front_size : length (head ++ fields) ≡ 24 = omega (arith, size, fields_size, length-append head fields) in
    let by = framed_by order false s.place 28 24 (total - 24 - 4) total units (head ++ fields) x front_size (number_at-append order 4 head fields (omega (arith, size))) (omega (arith, is.fits)) (lit≤ tt) is rest in
    let at = append_assoc head fields x in (
      (
        subst (λ (l : List ℕ). IsFramed s.place 28 order l) at by.1,
        record {
          kind = type_in_front head (fields ++ x) size ∙ type;
          magic = ap (take 4) (drop_front head (fields ++ x) 8 size) ∙ take-append-le 4 fields x (omega (arith, fields_size)) ∙ magic;
          major = sym (ap (half_at order 12) at) ∙ half_front order 12 (head ++ fields) x (omega (arith, front_size)) ∙ half_behind order head fields 8 4 12 size refl ∙ major;
          options = (units, subst (λ (l : List ℕ). HaveOptions order false units (part_from 24 l)) at by.2);
        },
      ),
      sym (ap (λ (l : List ℕ). length l) at) ∙ by.0,
    )
