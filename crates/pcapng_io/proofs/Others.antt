-- Blocks of other types, as far as they were read.
use Rattle.std.proofs.Common.{◌≡◌, ◌≢◌, ℕ, ◌+◌, ◌-◌, List, [], ◌++◌, length, take, Option, Some, sym, ap, subst, ◌∙◌, arith, append_assoc, append-nil, length-append}
use Rattle.pcap_io.specs.declared.kind.ByteOrder.{ByteOrder}
use Rattle.pcap_io.specs.Numbers.{number_at}
use Rattle.pcap_io.proofs.Fronts.{number_at-append}
use Rattle.pcapng_io.specs.declared.stop.Stop.{Stop}
use Rattle.pcapng_io.specs.declared.stop.Stop.TheVariants as stop
use Rattle.pcapng_io.specs.Blocks.{Other, Standing, IsTotal, IsFramed, section_type, IsBlock}
use Rattle.pcapng_io.specs.Pieces.{Stops, FallsShort, IsTail, IsSomeBlock}
use Rattle.pcapng_io.proofs.Fronts.{number_behind}
use Rattle.pcapng_io.proofs.Parts.{short_stops, wrong_stops, stops_behind}
use Rattle.pcapng_io.proofs.BlockParts.{other_of, named_in_front}
use Rattle.pcapng_io.proofs.Sections.{type_in_front}

-- a head of none of the three types
pub record OtherHead (s : Standing) (order : ByteOrder) (head : List ℕ) : Type 0 where
  pub size : length head ≡ 8
  pub here : s.order ≡ Some order
  pub no_section : take 4 head ≢ section_type
  pub no_interface : number_at order 0 head ≢ 1
  pub no_packet : number_at order 0 head ≢ 6

framed_in : (s : Standing) (order : ByteOrder) (head x : List ℕ) → OtherHead s order head → IsSomeBlock s head x → IsFramed s.place 12 order (head ++ x)
framed_in s order head x h is =
    let type : number_at order 0 (head ++ x) ≡ number_at order 0 head = number_at-append order 0 head x (omega (arith, h.size)) in
    other_of s order (head ++ x) is.0 h.here (λ e. h.no_section (sym (type_in_front head x h.size) ∙ e)) (λ e. h.no_interface (sym type ∙ e)) (λ e. h.no_packet (sym type ∙ e)) is.1

other_long : (s : Standing) (order : ByteOrder) (head x : List ℕ) → OtherHead s order head → IsSomeBlock s head x → (8 + length x ≡ number_at order 4 head) × IsTotal s.place 12 (number_at order 4 head)
other_long s order head x h is =
    let named = named_in_front order s.place 12 head x (omega (arith, h.size)) (framed_in s order head x h is) in
    (omega (arith, named.0, h.size), named.1)

pub other_wrong : (s : Standing) (order : ByteOrder) (head : List ℕ) (left : Option (List ℕ)) → OtherHead s order head → (IsTotal s.place 12 (number_at order 4 head) → ⊥) → Stops (IsSomeBlock s head) stop.Malformed [] left
other_wrong s order head left h wrong =
    wrong_stops (IsSomeBlock s head) [] left (λ first is. omega arith) (λ x is. wrong (other_long s order head x h is).1)

pub other_short : (s : Standing) (order : ByteOrder) (head g : List ℕ) (why : Stop) (left : Option (List ℕ)) → OtherHead s order head → IsTotal s.place 12 (number_at order 4 head) → FallsShort (number_at order 4 head - 8 - 4) why g left → Stops (IsSomeBlock s head) why g left
other_short s order head g why left h is short =
    short_stops (IsSomeBlock s head) (number_at order 4 head - 8 - 4) g why left (λ first some. omega (arith, (other_long s order head first h some).0)) short

pub other_stops : (s : Standing) (order : ByteOrder) (head body g : List ℕ) (why : Stop) (left : Option (List ℕ)) → OtherHead s order head → IsTotal s.place 12 (number_at order 4 head) → length body ≡ number_at order 4 head - 8 - 4
    → Stops (IsTail order (number_at order 4 head)) why g left → Stops (IsSomeBlock s head) why (body ++ g) left
other_stops s order head body g why left h is size stops =
    let total = number_at order 4 head in
    let front_size : length (head ++ body) ≡ total - 4 = omega (arith, h.size, size, is.fits, length-append head body) in
    stops_behind (IsSomeBlock s head) (IsTail order total) body g why left
    (λ first some. omega (arith, size, (other_long s order head first h some).0))
    (λ x some.
    let long : 8 + length (body ++ x) ≡ total = (other_long s order head (body ++ x) h some).0 in
    let framed : IsFramed s.place 12 order ((head ++ body) ++ x) = subst (λ (l : List ℕ). IsFramed s.place 12 order l) (sym (append_assoc head body x)) (framed_in s order head (body ++ x) h some) in
    let all : length ((head ++ body) ++ x) ≡ total = omega (arith, long, h.size, length-append body x, length-append (head ++ body) x, length-append head body) in
    let last : number_at order (length ((head ++ body) ++ x) - 4) ((head ++ body) ++ x) ≡ number_at order 0 x = number_behind order (head ++ body) x (total - 4) 0 (length ((head ++ body) ++ x) - 4) front_size (omega (arith, all)) in
    (x, [], sym (append-nil x), (omega (arith, long, size, is.fits, length-append body x), sym last ∙ framed.again ∙ all)))
    stops

pub other_read : (s : Standing) (order : ByteOrder) (head body x : List ℕ) → OtherHead s order head → IsTotal s.place 12 (number_at order 4 head) → length body ≡ number_at order 4 head - 8 - 4 → IsTail order (number_at order 4 head) x
    → IsBlock s Other (head ++ (body ++ x)) × (length (head ++ (body ++ x)) ≡ number_at order 4 head)
other_read s order head body x h is size tail =
    let total = number_at order 4 head in
    let front_size : length (head ++ body) ≡ total - 4 = omega (arith, h.size, size, is.fits, length-append head body) in
    let all : length ((head ++ body) ++ x) ≡ total = omega (arith, front_size, tail.0, is.fits, length-append (head ++ body) x) in
    let last : number_at order (length ((head ++ body) ++ x) - 4) ((head ++ body) ++ x) ≡ number_at order 0 x = number_behind order (head ++ body) x (total - 4) 0 (length ((head ++ body) ++ x) - 4) front_size (omega (arith, all)) in
    let at = append_assoc head body x in
    let type : number_at order 0 (head ++ (body ++ x)) ≡ number_at order 0 head = number_at-append order 0 head (body ++ x) (omega (arith, h.size)) in
    let framed : IsFramed s.place 12 order ((head ++ body) ++ x) = record {
      total = subst (λ (k : ℕ). IsTotal s.place 12 k) (sym all) is;
      named = ap (number_at order 4) at ∙ number_at-append order 4 head (body ++ x) (omega (arith, h.size)) ∙ sym all;
      again = last ∙ tail.1 ∙ sym all;
    } in (
      (
        order,
        h.here,
        subst (λ (l : List ℕ). IsFramed s.place 12 order l) at framed,
        record {
          no_section = λ e. h.no_section (sym (type_in_front head (body ++ x) h.size) ∙ e);
          no_interface = λ e. h.no_interface (sym type ∙ e);
          no_packet = λ e. h.no_packet (sym type ∙ e);
        },
      ),
      sym (ap (λ (l : List ℕ). length l) at) ∙ all,
    )
