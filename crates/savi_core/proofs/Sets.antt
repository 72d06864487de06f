-- Sets of ports, member by member.
use Rattle.std.proofs.Common.{ℕ, ◌≡◌, ◌+◌, ◌-◌, ◌^◌, ◌<◌, max, true, false, Bool, List, ◌∷◌, length, map, drop, get_or, sym, ap, ◌∙◌, arith, bit_or}
use Rattle.std.specs.List.{filter}
use Rattle.std.specs.Int.{bit_at}
use Rattle.std.proofs.lemmas.Nat.Bits.{bit_at_or, bit_at-zero, same_from_bits}
use Rattle.std.proofs.lemmas.Bool.{cond-true, cond-false}
use Rattle.savi_kinds.specs.declared.port.PortSet.{PortSet}
use Rattle.savi_kinds.specs.PortSets.{with_member, set_of, no_ports}
use Rattle.savi_core.proofs.Places.{at_item}

-- all members of both
abbrev pub union : PortSet → PortSet → PortSet
union a b = record { 0 = bit_or a.0 b.0 }

or_turned : (s p t : ℕ) → bit_or (bit_or s p) t ≡ bit_or s (bit_or t p)
or_turned s p t =
    same_from_bits _ _ (λ i.
    let left : bit_at (bit_or (bit_or s p) t) i ≡ max (max (bit_at s i) (bit_at p i)) (bit_at t i) = bit_at_or (bit_or s p) t i ∙ ap (λ n. max n (bit_at t i)) (bit_at_or s p i) in
    let right : bit_at (bit_or s (bit_or t p)) i ≡ max (bit_at s i) (max (bit_at t i) (bit_at p i)) = bit_at_or s (bit_or t p) i ∙ ap (λ n. max (bit_at s i) n) (bit_at_or t p i) in
    omega (arith, left, right))

-- a member may go to either of two sets
pub union-with : (s t : PortSet) (n : ℕ) → union (with_member s n) t ≡ union s (with_member t n)
union-with s t n = ap (λ (k : ℕ). let set : PortSet = record { 0 = k } in set) (or_turned s.0 (2 ^ (n - 1)) t.0)

or_zero : (s : ℕ) → bit_or s 0 ≡ s
or_zero s = same_from_bits _ _ (λ i. let e : bit_at (bit_or s 0) i ≡ max (bit_at s i) (bit_at 0 i) = bit_at_or s 0 i in let z : bit_at 0 i ≡ 0 = bit_at-zero i in omega (arith, e, z))

zero_or : (s : ℕ) → bit_or 0 s ≡ s
zero_or s = same_from_bits _ _ (λ i. let e : bit_at (bit_or 0 s) i ≡ max (bit_at 0 i) (bit_at s i) = bit_at_or 0 s i in let z : bit_at 0 i ≡ 0 = bit_at-zero i in omega (arith, e, z))

pub none-union : (s : PortSet) → union no_ports s ≡ s
none-union s = ap (λ (k : ℕ). let set : PortSet = record { 0 = k } in set) (zero_or s.0)

pub union-none : (s : PortSet) → union s no_ports ≡ s
union-none s = ap (λ (k : ℕ). let set : PortSet = record { 0 = k } in set) (or_zero s.0)

-- the set of the numbers of those that pass a test
abbrev pub chosen : {X : Type 0} → (X → ℕ) → (X → Bool) → List X → PortSet
chosen number test xs = set_of (map number (filter test xs))

module _ {X : Type 0} (number : X → ℕ) (test : X → Bool) (ports : List X) (i : ℕ) (p : X) (so_far all : PortSet) (within : i < length ports) (is : p ≡ get_or ports i p) where
  rest_taken : test p ≡ true → chosen number test (drop i ports) ≡ with_member (chosen number test (drop (i + 1) ports)) (number p)
  rest_taken passes = at_item (chosen number test) ports i p within is ∙ ap (λ ps. set_of (map number ps)) (cond-true (test p) (p ∷ filter test (drop (i + 1) ports)) (filter test (drop (i + 1) ports)) passes)

  rest_left : test p ≡ false → chosen number test (drop i ports) ≡ chosen number test (drop (i + 1) ports)
  rest_left fails = at_item (chosen number test) ports i p within is ∙ ap (λ ps. set_of (map number ps)) (cond-false (test p) (p ∷ filter test (drop (i + 1) ports)) (filter test (drop (i + 1) ports)) fails)

  -- one more port of a set that a loop makes
  pub chosen_taken : test p ≡ true → union so_far (chosen number test (drop i ports)) ≡ all → union (with_member so_far (number p)) (chosen number test (drop (i + 1) ports)) ≡ all
  chosen_taken passes was = union-with so_far (chosen number test (drop (i + 1) ports)) (number p) ∙ ap (union so_far) (sym (rest_taken passes)) ∙ was

  pub chosen_left : test p ≡ false → union so_far (chosen number test (drop i ports)) ≡ all → union so_far (chosen number test (drop (i + 1) ports)) ≡ all
  chosen_left fails was = ap (union so_far) (sym (rest_left fails)) ∙ was
