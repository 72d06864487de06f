-- Ports of a plan by their places.
use Rattle.std.proofs.Common.{ℕ, suc, ◌≡◌, ◌≢◌, ◌+◌, ◌<◌, ◌==◌, true, false, List, [], ◌∷◌, length, drop, get_or, inl, inr, refl, sym, ap, ◌∙◌, arith}
use Rattle.std.specs.List.{list_any}
use Rattle.std.specs.Prelude.{nat_lt}
use Rattle.std.specs.List.Sorted.{IsStrictlyIncreasing}
use Rattle.std.proofs.lemmas.List.{at_drop_more}
use Rattle.std.proofs.lemmas.List.Folds.{list_any_at}
use Rattle.std.proofs.lemmas.List.Kept.{AllPairs-from_increasing}
use Rattle.std.proofs.lemmas.Bool.{cases_eq, cases_order, cases_Bool, or_parts, lt-ltb, le-ltb, eq-eqb, cond-false}
use Rattle.savi_kinds.specs.declared.plan.Plan.{Plan}
use Rattle.savi_kinds.specs.declared.entry.Who.{Who}
use Rattle.savi_kinds.specs.declared.entry.Who.TheVariants.{Ingress, Control, Ticker, Egress}
use Rattle.savi_kinds.specs.Ports.{number_of}
use Rattle.savi_kinds.specs.ValidPlan.{numbers_of, IsValidPlan}
use Rattle.savi_history.specs.Passes.{has_port, has_pass, pass_of, place_among, place_of, egress_pass, pass_count}
pub use Rattle.savi_history.proofs.PortPlaces.{IsPlace, placed_among, placed, length-numbers, place_within}
use Rattle.savi_core.specs.Machines.{port_number_at}

-- from a place on the list is its element and what follows
pub at_item : {X Y : Type 0} (F : List X → Y) (xs : List X) (i : ℕ) (x : X) → i < length xs → x ≡ get_or xs i x → F (drop i xs) ≡ F (x ∷ drop (i + 1) xs)
at_item F xs i x within is = at_drop_more F xs i x within ∙ ap (λ y. F (y ∷ drop (i + 1) xs)) (sym is)

-- rising numbers differ
pub apart : (ns : List ℕ) (j k : ℕ) → IsStrictlyIncreasing ns → j < length ns → k < length ns → j ≢ k → get_or ns j 0 ≢ get_or ns k 0
apart ns j k rising j_in k_in other same =
    let pairs = AllPairs-from_increasing ns rising in
    elim (cases_order j k) [
      | inl equal ↦ other equal
      | inr (inl less) ↦ let below : get_or ns j 0 < get_or ns k 0 = pairs j k 0 less k_in in absurd (omega (arith, below, same))
      | inr (inr more) ↦ let below : get_or ns k 0 < get_or ns j 0 = pairs k j 0 more j_in in absurd (omega (arith, below, same))
    ]

-- a number at a place is found there
pub place_at : (ns : List ℕ) (k : ℕ) → IsStrictlyIncreasing ns → k < length ns → place_among ns (get_or ns k 0) ≡ k
place_at ns k rising within =
    let found = placed_among ns (get_or ns k 0) (list_any_at (λ n. n == get_or ns k 0) ns k 0 within (eq-eqb _ _ refl)) in
    elim (cases_eq (place_among ns (get_or ns k 0)) k) [
      | inl same ↦ same
      | inr other ↦ absurd (apart ns _ k rising found.within within other found.number_is)
    ]

-- the pass of an egress by its place
pub egress_at : (plan : Plan) (k : ℕ) → IsValidPlan plan → k < length plan.ports → egress_pass plan (port_number_at plan k) ≡ length plan.ports + 2 + k
egress_at plan k valid within =
    let in_numbers : k < length (numbers_of plan.ports) = omega (arith, length-numbers plan.ports) in
    ap (λ n. length plan.ports + 2 + n) (place_at (numbers_of plan.ports) k valid.ports in_numbers)

-- the number of a pass of the plan
pub pass_within : (plan : Plan) (who : Who) → has_pass plan who ≡ true → pass_of plan who < pass_count plan
pass_within plan (Ingress port) known = omega (arith, place_within plan (number_of port) known)
pass_within plan Control known = omega arith
pass_within plan Ticker known = omega arith
pass_within plan (Egress port) known = omega (arith, place_within plan (number_of port) known)

-- a number that is none of these has its place behind them
pub absent : (ns : List ℕ) (number : ℕ) → list_any (λ n. n == number) ns ≡ false → place_among ns number ≡ length ns
absent [] number none = refl
absent (n ∷ ns) number none =
    let both = or_parts (n == number) (list_any (λ m. m == number) ns) none in
    cond-false (n == number) 0 (suc (place_among ns number)) both.0 ∙ ap suc (absent ns number both.1)

-- a number is among these where its place is among theirs
pub has_port-place : (plan : Plan) (number : ℕ) → nat_lt (place_of plan number) (length plan.ports) ≡ has_port plan number
has_port-place plan number =
    elim (cases_Bool (has_port plan number)) [
      | inl known ↦ lt-ltb (place_of plan number) (length plan.ports) (place_within plan number known) ∙ sym known
      | inr unknown ↦
          let last : place_of plan number ≡ length (numbers_of plan.ports) = absent (numbers_of plan.ports) number unknown in
          le-ltb (place_of plan number) (length plan.ports) (omega (arith, last, length-numbers plan.ports)) ∙ sym unknown
    ]
