-- Lists in rising order of a number, element by element.
use Rattle.std.proofs.Common.{◌≡◌, ◌⊎◌, ℕ, zero, suc, ◌<◌, ◌≤◌, ◌==◌, ◌&&◌, nat_lt, false, List, [], ◌∷◌, All, sym, ◌∙◌, inl, inr, arith}
use Rattle.std.specs.List.{AllByRecursion}
use Rattle.std.proofs.lemmas.Bool.{false≢true, cases_lt, cases_eq, or_left, or_right, and_from, lt-ltb, eq-eqb}
use Rattle.std.proofs.lemmas.List.Elements.{All-head, All-tail}
use Rattle.std.proofs.lemmas.List.Kept.{AllPairs-cons}
use Rattle.savi_kinds.specs.Orders.{IsRising, is_due_before}
use Rattle.savi_kinds.proofs.Pairs.{AllPairs-head, AllPairs-tail}

by_recursion : {X : Type 0} (P : X → Type 0) (xs : List X) → All P xs → AllByRecursion P xs
by_recursion P [] all = tt
by_recursion P (x ∷ xs) all = (All-head P x xs all, by_recursion P xs (All-tail P x xs all))

by_place : {X : Type 0} (P : X → Type 0) (xs : List X) → AllByRecursion P xs → All P xs
by_place P [] all k d within = absurd (omega (arith, within))
by_place P (x ∷ xs) all zero d within = all.0
by_place P (x ∷ xs) all (suc k) d within = by_place P xs all.1 k d (omega (arith, within))

pub rising-none : {X : Type 0} (number : X → ℕ) → IsRising number []
rising-none number i j d before within = absurd (omega (arith, within))

-- those behind an element are higher
pub rising-head : {X : Type 0} (number : X → ℕ) (x : X) (xs : List X) → IsRising number (x ∷ xs) → AllByRecursion (λ later. number x < number later) xs
rising-head number x xs rising = by_recursion (λ later. number x < number later) xs (AllPairs-head (λ earlier later. number earlier < number later) x xs rising)

pub rising-tail : {X : Type 0} (number : X → ℕ) (x : X) (xs : List X) → IsRising number (x ∷ xs) → IsRising number xs
rising-tail number x xs rising = AllPairs-tail (λ earlier later. number earlier < number later) x xs rising

pub rising-cons : {X : Type 0} (number : X → ℕ) (x : X) (xs : List X) → AllByRecursion (λ later. number x < number later) xs → IsRising number xs → IsRising number (x ∷ xs)
rising-cons number x xs higher rising = AllPairs-cons (λ earlier later. number earlier < number later) x xs (by_place (λ later. number x < number later) xs higher) rising

-- what another thing isn't due before is due no later than it, and of one moment for no higher address
pub not_due_before : (due a other_due other : ℕ) → is_due_before other_due other due a ≡ false → (due < other_due) ⊎ ((due ≡ other_due) × (a ≤ other))
not_due_before due a other_due other not =
    elim (cases_lt due other_due) [
      | inl less ↦ inl less
      | inr not_less ↦
          elim (cases_eq other_due due) [
            | inr apart ↦ absurd (false≢true (sym not ∙ or_left (nat_lt other_due due) (other_due == due && nat_lt other a) (lt-ltb other_due due (omega (arith, not_less, apart)))))
            | inl same ↦
                elim (cases_lt other a) [
                  | inl lower ↦
                      absurd (false≢true (sym not ∙ or_right (nat_lt other_due due) (other_due == due && nat_lt other a) (and_from (other_due == due) (nat_lt other a) (eq-eqb other_due due same) (lt-ltb other a lower))))
                  | inr no_lower ↦ inr (sym same, no_lower)
                ]
          ]
    ]
