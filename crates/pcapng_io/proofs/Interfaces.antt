-- Interface descriptions, as far as they were read.
use Rattle.std.proofs.Common.{◌≡◌, ℕ, ◌+◌, ◌-◌, ◌<◌, true, List, [], ◌++◌, length, Option, Some, lit≤, refl, sym, ap, subst, ◌∙◌, arith, append_assoc, append-nil, length-append}
use Rattle.pcap_io.specs.declared.kind.ByteOrder.{ByteOrder}
use Rattle.pcap_io.specs.Numbers.{number_at}
use Rattle.pcap_io.proofs.Fronts.{number_at-append}
use Rattle.pcapng_io.specs.declared.stop.Stop.{Stop}
use Rattle.pcapng_io.specs.declared.stop.Stop.TheVariants as stop
use Rattle.pcapng_io.specs.Numbers.{half_at}
use Rattle.pcapng_io.specs.Options.{HaveOptions}
use Rattle.pcapng_io.specs.Blocks.{Interface, Standing, IsTotal, IsFramed, part_from, IsBlock}
use Rattle.pcapng_io.specs.Pieces.{Stops, FallsShort, IsRest, IsSomeBlock}
use Rattle.pcapng_io.proofs.Fronts.{half_front, half_behind}
use Rattle.pcapng_io.proofs.Parts.{short_stops, wrong_stops, stops_behind}
use Rattle.pcapng_io.proofs.BlockParts.{interface_of, named_in_front, rest_of, framed_by}

-- an interface description may have this head
pub record InterfaceHead (s : Standing) (order : ByteOrder) (head x : List ℕ) : Type 0 where
  pub total : IsTotal s.place 20 (number_at order 4 head)
  pub long : 8 + length x ≡ number_at order 4 head
  pub few : length s.units < 256
  pub few_in_file : s.earlier + length s.units < 65536

type_in : (order : ByteOrder) (head x : List ℕ) → length head ≡ 8 → number_at order 0 head ≡ 1 → number_at order 0 (head ++ x) ≡ 1
type_in order head x size type = number_at-append order 0 head x (omega (arith, size)) ∙ type

pub interface_head : (s : Standing) (order : ByteOrder) (head x : List ℕ) → length head ≡ 8 → s.order ≡ Some order → number_at order 0 head ≡ 1 → IsSomeBlock s head x → InterfaceHead s order head x
interface_head s order head x size here type is =
    let whole = interface_of s order (head ++ x) is.0 here (type_in order head x size type) is.1 in
    let named = named_in_front order s.place 20 head x (omega (arith, size)) whole.2 in
    record { total = named.1; long = omega (arith, named.0, size); few = whole.3.few; few_in_file = whole.3.few_in_file }

pub interface_wrong : (s : Standing) (order : ByteOrder) (head : List ℕ) (left : Option (List ℕ)) → length head ≡ 8 → s.order ≡ Some order → number_at order 0 head ≡ 1
    → (IsTotal s.place 20 (number_at order 4 head) → length s.units < 256 → s.earlier + length s.units < 65536 → ⊥) → Stops (IsSomeBlock s head) stop.Malformed [] left
interface_wrong s order head left size here type wrong =
    wrong_stops (IsSomeBlock s head) [] left (λ first is. omega arith)
    (λ x is. let h = interface_head s order head x size here type is in wrong h.total h.few h.few_in_file)

pub interface_short : (s : Standing) (order : ByteOrder) (head g : List ℕ) (why : Stop) (left : Option (List ℕ)) → length head ≡ 8 → s.order ≡ Some order → number_at order 0 head ≡ 1 → FallsShort 8 why g left → Stops (IsSomeBlock s head) why g left
interface_short s order head g why left size here type short =
    short_stops (IsSomeBlock s head) 8 g why left (λ first is. let h = interface_head s order head first size here type is in omega (arith, h.long, h.total.fits)) short

pub interface_stops : (s : Standing) (order : ByteOrder) (head fields g : List ℕ) (why : Stop) (left : Option (List ℕ)) → length head ≡ 8 → length fields ≡ 8 → s.order ≡ Some order → number_at order 0 head ≡ 1
    → Stops (λ x. (units : ℕ) × IsRest order true (number_at order 4 head - 16 - 4) (number_at order 4 head) units x) why g left → Stops (IsSomeBlock s head) why (fields ++ g) left
interface_stops s order head fields g why left size fields_size here type stops =
    let total = number_at order 4 head in
    let front_size : length (head ++ fields) ≡ 16 = omega (arith, size, fields_size, length-append head fields) in
    stops_behind (IsSomeBlock s head) (λ x. (units : ℕ) × IsRest order true (total - 16 - 4) total units x) fields g why left
    (λ first is. let h = interface_head s order head first size here type is in omega (arith, fields_size, h.long, h.total.fits))
    (λ x is.
    let h = interface_head s order head (fields ++ x) size here type is in
    let whole = interface_of s order (head ++ (fields ++ x)) is.0 here (type_in order head (fields ++ x) size type) is.1 in
    let at = sym (append_assoc head fields x) in (
      x,
      [],
      sym (append-nil x),
      (
        whole.1,
        rest_of order true s.place 20 16 (total - 16 - 4) total whole.1 (head ++ fields) x front_size (number_at-append order 4 head fields (omega (arith, size))) (omega (arith, h.total.fits)) (lit≤ tt)
            (subst (λ (l : List ℕ). IsFramed s.place 20 order l) at whole.2)
            (subst (λ (l : List ℕ). HaveOptions order true whole.1 (part_from 16 l)) at whole.3.options),
      ),
    ))
    stops

pub interface_read : (s : Standing) (order : ByteOrder) (head fields x : List ℕ) (link units : ℕ) → length head ≡ 8 → length fields ≡ 8 → s.order ≡ Some order → number_at order 0 head ≡ 1 → IsTotal s.place 20 (number_at order 4 head)
    → length s.units < 256 → s.earlier + length s.units < 65536 → link ≡ half_at order 0 fields
    → IsRest order true (number_at order 4 head - 16 - 4) (number_at order 4 head) units x
    → IsBlock s (Interface link units) (head ++ (fields ++ x)) × (length (head ++ (fields ++ x)) ≡ number_at order 4 head)
interface_read s order head fields x link units size fields_size here type is few few_in_file link_is rest =
    let total = number_at order 4 head in
    let front_size : length (head ++ fields) ≡ 16 = omega (arith, size, fields_size, length-append head fields) in
    let by = framed_by order true s.place 20 16 (total - 16 - 4) total units (head ++ fields) x front_size (number_at-append order 4 head fields (omega (arith, size))) (omega (arith, is.fits)) (lit≤ tt) is rest in
    let at = append_assoc head fields x in (
      (
        order,
        here,
        subst (λ (l : List ℕ). IsFramed s.place 20 order l) at by.1,
        record {
          kind = type_in order head (fields ++ x) size type;
          link_is = link_is ∙ sym (half_front order 0 fields x (omega (arith, fields_size))) ∙ sym (half_behind order head (fields ++ x) 8 0 8 size refl);
          options = subst (λ (l : List ℕ). HaveOptions order true units (part_from 16 l)) at by.2;
          few = few;
          few_in_file = few_in_file;
        },
      ),
      sym (ap (λ (l : List ℕ). length l) at) ∙ by.0,
    )
