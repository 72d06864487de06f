-- What filters of a list leave.
use Rattle.std.proofs.Common.{◌≡◌, ◌+◌, ◌≤◌, Bool, true, false, not, ◌&&◌, List, [], ◌∷◌, ◌++◌, filter, find, None, count_by, cond, All, refl, ◌∙◌, ap, arith, zero-add, inl, inr}
use Rattle.std.specs.List.{list_any}
use Rattle.std.proofs.lemmas.Bool.{cond_both, cases_Bool, false≢true, and_parts, or_cases}
use Rattle.std.proofs.lemmas.List.Sums.{sum_by-cons, sum_by-append}
use Rattle.std.proofs.lemmas.List.Elements.{All-head, All-tail}

-- a filter through which every item passes
pub filter-all : {X : Type 0} (p : X → Bool) (xs : List X) → All (λ x. p x ≡ true) xs → filter p xs ≡ xs
filter-all p [] pass = refl
filter-all p (x ∷ xs) pass = rw (All-head (λ y. p y ≡ true) x xs pass) (ap (λ ys. x ∷ ys) (filter-all p xs (All-tail (λ y. p y ≡ true) x xs pass)))

-- a filter through which no item passes
pub filter-none : {X : Type 0} (p : X → Bool) (xs : List X) → All (λ x. p x ≡ false) xs → filter p xs ≡ []
filter-none p [] stop = refl
filter-none p (x ∷ xs) stop = rw (All-head (λ y. p y ≡ false) x xs stop) (filter-none p xs (All-tail (λ y. p y ≡ false) x xs stop))

pub find-none : {X : Type 0} (p : X → Bool) (xs : List X) → All (λ x. p x ≡ false) xs → find p xs ≡ None
find-none p [] stop = refl
find-none p (x ∷ xs) stop = rw (All-head (λ y. p y ≡ false) x xs stop) (find-none p xs (All-tail (λ y. p y ≡ false) x xs stop))

-- what passes the narrower filter passes the wider one
pub filter-wider : {X : Type 0} (p q : X → Bool) → ((x : X) → q x ≡ true → p x ≡ true) → (xs : List X) → filter q (filter p xs) ≡ filter q xs
filter-wider p q wider [] = refl
filter-wider p q wider (x ∷ xs) =
    let same : filter q (filter p xs) ≡ filter q xs = filter-wider p q wider xs in
    elim (cases_Bool (q x)) [
      | inl passes ↦ rw (wider x passes, passes) (ap (λ ys. x ∷ ys) same)
      | inr stops ↦
          elim (cases_Bool (p x)) [
            | inl wide ↦ rw (wide, stops) same
            | inr narrow ↦ rw (narrow, stops) same
          ]
    ]

pub count_by-cons : {X : Type 0} (p : X → Bool) (x : X) (xs : List X) → count_by p (x ∷ xs) ≡ cond (p x) 1 0 + count_by p xs
count_by-cons p x xs = sum_by-cons (λ y. cond (p y) 1 0) x xs

pub count_by-push : {X : Type 0} (p : X → Bool) (xs : List X) (x : X) → count_by p (xs ++ x ∷ []) ≡ count_by p xs + cond (p x) 1 0
count_by-push p xs x =
    let both : count_by p (xs ++ x ∷ []) ≡ count_by p xs + (0 + cond (p x) 1 0) = sum_by-append (λ y. cond (p y) 1 0) xs (x ∷ []) in
    both ∙ ap (λ n. count_by p xs + n) (zero-add (cond (p x) 1 0))

-- a filter leaves no more of a kind
pub count_by-filter-le : {X : Type 0} (p q : X → Bool) (xs : List X) → count_by p (filter q xs) ≤ count_by p xs
count_by-filter-le p q [] = omega arith
count_by-filter-le p q (x ∷ xs) =
    let fewer : count_by p (filter q xs) ≤ count_by p xs = count_by-filter-le p q xs in
    let all : count_by p (x ∷ xs) ≡ cond (p x) 1 0 + count_by p xs = count_by-cons p x xs in
    let kept : count_by p (x ∷ filter q xs) ≡ cond (p x) 1 0 + count_by p (filter q xs) = count_by-cons p x (filter q xs) in
    cond_both (q x) (x ∷ filter q xs) (filter q xs) (λ ys. count_by p ys ≤ count_by p (x ∷ xs)) (λ _. omega (arith, fewer, all, kept)) (λ _. omega (arith, fewer, all))

-- a filter that lets none of a kind pass leaves none of it
pub count_by-filter_none : {X : Type 0} (p q : X → Bool) → ((x : X) → p x ≡ true → q x ≡ false) → (xs : List X) → count_by p (filter q xs) ≡ 0
count_by-filter_none p q none [] = refl
count_by-filter_none p q none (x ∷ xs) =
    let rest : count_by p (filter q xs) ≡ 0 = count_by-filter_none p q none xs in
    elim (cases_Bool (p x)) [
      | inl of_kind ↦ rw (none x of_kind) rest
      | inr other ↦
          let kept : count_by p (x ∷ filter q xs) ≡ 0 = count_by-cons p x (filter q xs) ∙ rw other (omega (arith, rest)) in
          cond_both (q x) (x ∷ filter q xs) (filter q xs) (λ ys. count_by p ys ≡ 0) (λ _. kept) (λ _. rest)
    ]

-- where a kind has an item that a filter stops, the filter leaves fewer of the kind
pub count_by-filter_fewer : {X : Type 0} (p q : X → Bool) (xs : List X) → list_any (λ x. p x && q x) xs ≡ true → count_by p (filter (λ x. not (q x)) xs) + 1 ≤ count_by p xs
count_by-filter_fewer {X} p q [] some = absurd (false≢true some)
count_by-filter_fewer {X} p q (x ∷ xs) some =
    let left : List X = filter (λ y. not (q y)) xs in
    let all : count_by p (x ∷ xs) ≡ cond (p x) 1 0 + count_by p xs = count_by-cons p x xs in
    let kept : count_by p (x ∷ left) ≡ cond (p x) 1 0 + count_by p left = count_by-cons p x left in
    let fewer : count_by p left ≤ count_by p xs = count_by-filter-le p (λ y. not (q y)) xs in
    elim (or_cases (p x && q x) (list_any (λ y. p y && q y) xs) some) [
      | inl here ↦
          let is : (p x ≡ true) × (q x ≡ true) = and_parts (p x) (q x) here in
          let one : count_by p (x ∷ xs) ≡ 1 + count_by p xs = all ∙ rw is.0 refl in
          rw is.1 (omega (arith, one, fewer))
      | inr later ↦
          let less : count_by p left + 1 ≤ count_by p xs = count_by-filter_fewer p q xs later in
          cond_both (not (q x)) (x ∷ left) left (λ ys. count_by p ys + 1 ≤ count_by p (x ∷ xs)) (λ _. omega (arith, less, all, kept)) (λ _. omega (arith, less, all))
    ]

-- a filter that lets none of a kind pass leaves none to be found
pub find-filter_none : {X : Type 0} (p q : X → Bool) → ((x : X) → p x ≡ true → q x ≡ false) → (xs : List X) → find p (filter q xs) ≡ None
find-filter_none p q none [] = refl
find-filter_none p q none (x ∷ xs) =
    let rest : find p (filter q xs) ≡ None = find-filter_none p q none xs in
    elim (cases_Bool (p x)) [
      | inl of_kind ↦ rw (none x of_kind) rest
      | inr other ↦
          let kept : find p (x ∷ filter q xs) ≡ None = rw other rest in
          cond_both (q x) (x ∷ filter q xs) (filter q xs) (λ ys. find p ys ≡ None) (λ _. kept) (λ _. rest)
    ]

-- a filter that lets all of a kind pass leaves the one that is found
pub find-filter_same : {X : Type 0} (p q : X → Bool) → ((x : X) → p x ≡ true → q x ≡ true) → (xs : List X) → find p (filter q xs) ≡ find p xs
find-filter_same p q same [] = refl
find-filter_same p q same (x ∷ xs) =
    let rest : find p (filter q xs) ≡ find p xs = find-filter_same p q same xs in
    elim (cases_Bool (p x)) [
      | inl of_kind ↦ rw (same x of_kind, of_kind) refl
      | inr other ↦
          let kept : find p (x ∷ filter q xs) ≡ find p xs = rw other rest in
          rw other (cond_both (q x) (x ∷ filter q xs) (filter q xs) (λ ys. find p ys ≡ find p xs) (λ _. kept) (λ _. rest))
    ]
