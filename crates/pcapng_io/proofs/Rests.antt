-- Options and the total length behind them, as far as they were read.
use Rattle.std.proofs.Common.{◌≡◌, ℕ, Bool, List, [], ◌++◌, length, take, drop, Option, sym, subst, ◌∙◌, arith, append-nil, length-append}
use Rattle.std.proofs.lemmas.List.{take-append-drop, length-take-le}
use Rattle.pcap_io.specs.declared.kind.ByteOrder.{ByteOrder}
use Rattle.pcap_io.proofs.Fronts.{take_front}
use Rattle.pcapng_io.specs.declared.stop.Stop.{Stop}
use Rattle.pcapng_io.specs.Options.{HaveOptions}
use Rattle.pcapng_io.specs.Pieces.{Stops, AreFront, IsTail, IsRest}
use Rattle.pcapng_io.proofs.Fronts.{number_behind}
use Rattle.pcapng_io.proofs.Parts.{stops_behind}

pub rest_front : (order : ByteOrder) (is_interface : Bool) (len total : ℕ) (g : List ℕ) (why : Stop) (left : Option (List ℕ)) → Stops (AreFront order is_interface len) why g left → Stops (λ x. (units : ℕ) × IsRest order is_interface len total units x) why g left
rest_front order is_interface len total g why left stops =
    stops_behind (λ x. (units : ℕ) × IsRest order is_interface len total units x) (AreFront order is_interface len) [] g why left
    (λ first is. omega arith)
    (λ x is. (take len x, drop len x, sym (take-append-drop len x), (length-take-le len x (omega (arith, is.1.size)), (is.0, is.1.options))))
    stops

pub rest_tail : (order : ByteOrder) (is_interface : Bool) (len total : ℕ) (a g : List ℕ) (why : Stop) (left : Option (List ℕ)) → length a ≡ len → Stops (IsTail order total) why g left → Stops (λ x. (units : ℕ) × IsRest order is_interface len total units x) why (a ++ g) left
rest_tail order is_interface len total a g why left size stops =
    stops_behind (λ x. (units : ℕ) × IsRest order is_interface len total units x) (IsTail order total) a g why left
    (λ first is. omega (arith, size, is.1.size))
    (λ x is. (x, [], sym (append-nil x), (omega (arith, size, is.1.size, length-append a x), sym (number_behind order a x len 0 len size (omega arith)) ∙ is.1.again)))
    stops

pub rest_read : (order : ByteOrder) (is_interface : Bool) (len total units : ℕ) (a x : List ℕ) → length a ≡ len → HaveOptions order is_interface units a → IsTail order total x → IsRest order is_interface len total units (a ++ x)
rest_read order is_interface len total units a x size options tail = record {
  size = omega (arith, size, tail.0, length-append a x);
  options = subst (λ (l : List ℕ). HaveOptions order is_interface units l) (sym (take_front a x len size)) options;
  again = number_behind order a x len 0 len size (omega arith) ∙ tail.1;
}
