-- Pairs in rising order of address.
use Rattle.std.proofs.Common.{◌≡◌, ◌≢◌, ℕ, ◌<◌, ◌==◌, Bool, true, false, List, [], ◌∷◌, ◌++◌, filter, Option, None, Some, All, refl, ap, arith, inl, inr, ◌∙◌}
use Rattle.std.proofs.lemmas.Bool.{cases_Bool, ltb-true, le-ltb, eqb-true}
use Rattle.std.proofs.lemmas.List.Elements.{All-head, All-tail, All-weaker, All-cons, filter_passes, filter-append}
use Rattle.std.proofs.lemmas.List.Kept.{AllPairs-cons, AllPairs-filter}
use Rattle.std.proofs.lemmas.List.{append-nil}
use Rattle.savi_kinds.proofs.Filters.{filter-all, filter-none}
use Rattle.savi_kinds.proofs.Pairs.{AllPairs-head, AllPairs-tail, AllPairs-append}
use Rattle.timer_wheel.specs.declared.armed.Armed.{Armed}
use Rattle.savi_kinds.specs.Orders.{is_below, is_above, IsRising}
use Rattle.timer_wheel.specs.Arms.{armed_address, is_of, due_in, with_due, pair_for}

-- in a rising list those behind a pair are higher
pub behind : (x : Armed) (xs : List Armed) → IsRising armed_address (x ∷ xs) → All (λ y. x.address.0 < y.address.0) xs
behind x xs rising = AllPairs-head (λ earlier later. earlier.address.0 < later.address.0) x xs rising

pub rest_rising : (x : Armed) (xs : List Armed) → IsRising armed_address (x ∷ xs) → IsRising armed_address xs
rest_rising x xs rising = AllPairs-tail (λ earlier later. earlier.address.0 < later.address.0) x xs rising

-- a pair with another address isn't the one
pub is_of-other : (n : ℕ) (y : Armed) → y.address.0 ≢ n → is_of n y ≡ false
is_of-other n y other =
    elim (cases_Bool (y.address.0 == n)) [
      | inl same ↦ absurd (other (eqb-true y.address.0 n same))
      | inr is ↦ is
    ]

-- nothing is due where each pair has another address
pub due_in-none : (n : ℕ) (xs : List Armed) → All (λ y. n < y.address.0) xs → due_in xs n ≡ None
due_in-none n [] higher = refl
due_in-none n (x ∷ xs) higher =
    let above : n < x.address.0 = All-head (λ y. n < y.address.0) x xs higher in
    rw (is_of-other n x (omega (arith, above))) (due_in-none n xs (All-tail (λ y. n < y.address.0) x xs higher))

-- a rising list stays one
pub IsRising-with_due : (a : ℕ) (due : Option ℕ) (xs : List Armed) → IsRising armed_address xs → IsRising armed_address (with_due a due xs)
IsRising-with_due a due xs rising = joined due
  where
    lower : All (λ y. y.address.0 < a) (filter (is_below armed_address a) xs)
    lower = All-weaker (λ y. is_below armed_address a y ≡ true) (λ y. y.address.0 < a) (λ y h. ltb-true y.address.0 a h) (filter (is_below armed_address a) xs) (filter_passes (is_below armed_address a) xs)

    higher : All (λ y. a < y.address.0) (filter (is_above armed_address a) xs)
    higher = All-weaker (λ y. is_above armed_address a y ≡ true) (λ y. a < y.address.0) (λ y h. ltb-true a y.address.0 h) (filter (is_above armed_address a) xs) (filter_passes (is_above armed_address a) xs)

    front : IsRising armed_address (filter (is_below armed_address a) xs)
    front = AllPairs-filter (λ earlier later. earlier.address.0 < later.address.0) (is_below armed_address a) xs rising

    back : IsRising armed_address (filter (is_above armed_address a) xs)
    back = AllPairs-filter (λ earlier later. earlier.address.0 < later.address.0) (is_above armed_address a) xs rising

    joined : (o : Option ℕ) → IsRising armed_address (with_due a o xs)
    joined None =
        AllPairs-append (λ earlier later. earlier.address.0 < later.address.0) (filter (is_below armed_address a) xs) (filter (is_above armed_address a) xs) front back
        (All-weaker (λ y. y.address.0 < a) (λ y. All (λ z. y.address.0 < z.address.0) (filter (is_above armed_address a) xs))
        (λ y low. All-weaker (λ z. a < z.address.0) (λ z. y.address.0 < z.address.0) (λ z high. omega (arith, low, high)) (filter (is_above armed_address a) xs) higher)
        (filter (is_below armed_address a) xs) lower)
    joined (Some d) =
        let mine : Armed = record { address = record { 0 = a }; due = d } in
        AllPairs-append (λ earlier later. earlier.address.0 < later.address.0) (filter (is_below armed_address a) xs) (mine ∷ filter (is_above armed_address a) xs) front
        (AllPairs-cons (λ earlier later. earlier.address.0 < later.address.0) mine (filter (is_above armed_address a) xs) higher back)
        (All-weaker (λ y. y.address.0 < a) (λ y. All (λ z. y.address.0 < z.address.0) (mine ∷ filter (is_above armed_address a) xs))
        (λ y low. All-cons (λ z. y.address.0 < z.address.0) mine (filter (is_above armed_address a) xs) low (All-weaker (λ z. a < z.address.0) (λ z. y.address.0 < z.address.0) (λ z high. omega (arith, low, high)) (filter (is_above armed_address a) xs) higher))
        (filter (is_below armed_address a) xs) lower)

-- those that pass a filter pass it again
filter-twice : {X : Type 0} (p : X → Bool) (xs : List X) → filter p (filter p xs) ≡ filter p xs
filter-twice p xs = filter-all p (filter p xs) (filter_passes p xs)

-- no lower one is higher, and no higher one lower
low-high : (a : ℕ) (xs : List Armed) → filter (is_below armed_address a) (filter (is_above armed_address a) xs) ≡ []
low-high a xs = filter-none (is_below armed_address a) (filter (is_above armed_address a) xs) (All-weaker (λ y. is_above armed_address a y ≡ true) (λ y. is_below armed_address a y ≡ false) (λ y h. let high : a < y.address.0 = ltb-true a y.address.0 h in le-ltb y.address.0 a (omega (arith, high))) (filter (is_above armed_address a) xs) (filter_passes (is_above armed_address a) xs))

high-low : (a : ℕ) (xs : List Armed) → filter (is_above armed_address a) (filter (is_below armed_address a) xs) ≡ []
high-low a xs = filter-none (is_above armed_address a) (filter (is_below armed_address a) xs) (All-weaker (λ y. is_below armed_address a y ≡ true) (λ y. is_above armed_address a y ≡ false) (λ y h. let low : y.address.0 < a = ltb-true y.address.0 a h in le-ltb a y.address.0 (omega (arith, low))) (filter (is_below armed_address a) xs) (filter_passes (is_below armed_address a) xs))

-- what is armed for an address takes the place of what was
pub with_due-again : (a d : ℕ) (xs : List Armed) → with_due a (Some d) (with_due a None xs) ≡ with_due a (Some d) xs
with_due-again a d xs =
    let low : filter (is_below armed_address a) (with_due a None xs) ≡ filter (is_below armed_address a) xs =
    filter-append (is_below armed_address a) (filter (is_below armed_address a) xs) (filter (is_above armed_address a) xs) ∙ ap (λ ys. ys ++ filter (is_below armed_address a) (filter (is_above armed_address a) xs)) (filter-twice (is_below armed_address a) xs) ∙ ap (λ ys. filter (is_below armed_address a) xs ++ ys) (low-high a xs) ∙ append-nil (filter (is_below armed_address a) xs) in
    let high : filter (is_above armed_address a) (with_due a None xs) ≡ filter (is_above armed_address a) xs =
    filter-append (is_above armed_address a) (filter (is_below armed_address a) xs) (filter (is_above armed_address a) xs) ∙ ap (λ ys. ys ++ filter (is_above armed_address a) (filter (is_above armed_address a) xs)) (high-low a xs) ∙ filter-twice (is_above armed_address a) xs in
    ap (λ ys. ys ++ (pair_for a (Some d) ++ filter (is_above armed_address a) (with_due a None xs))) low ∙ ap (λ ys. filter (is_below armed_address a) xs ++ (pair_for a (Some d) ++ ys)) high
