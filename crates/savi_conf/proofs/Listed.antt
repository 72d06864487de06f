-- Lists that are seen through a function, as words and tables behind references.
use Rattle.std.proofs.Common.{◌≡◌, ◌↔◌, ℕ, ◌+◌, ◌<◌, ◌≤◌, zero, suc, Bool, IsTrue, List, [], ◌∷◌, length, take, get_or, map, sym, ap, subst, ◌∙◌, inl, inr, arith}
use Rattle.std.specs.List.{All, Any, AllPairs, Contains}
use Rattle.std.proofs.lemmas.Bool.{cases_lt}
use Rattle.std.proofs.lemmas.List.{get_or-map, get_or-take, length-map, length-take-le, take_all, get_or_default}
use Rattle.std.proofs.lemmas.List.Elements.{All-map, All-more}

-- what holds of each element of a mapped list holds of each element behind it
pub All-unmap : {X Y : Type 0} (P : X → Type 0) (f : Y → X) (ys : List Y) → All P (map f ys) → All (λ y. P (f y)) ys
All-unmap P f ys all = λ k d within.
    let here : get_or (map f ys) k (f d) ≡ f (get_or ys k d) = get_or-map f ys k d (f d) within in
    let there : k < length (map f ys) = rw (length-map ys f) within in
    rw (← here) (all k (f d) there)

pub All-mapped : {X Y : Type 0} (P : X → Type 0) (f : Y → X) (ys : List Y) → All (λ y. P (f y)) ys ↔ All P (map f ys)
All-mapped P f ys = (All-map P f ys, All-unmap P f ys)

-- an element that is seen as x makes x one of the mapped list, and the other way round
pub Contains-map : {X Y : Type 0} (f : Y → X) (ys : List Y) (x : X) → Any (λ y. f y ≡ x) ys → Contains (map f ys) x
Contains-map f ys x (k, y, within, is, same) =
    let there : k < length (map f ys) = rw (length-map ys f) within in
    (k, there, get_or-map f ys k y x within ∙ ap f is ∙ same)

pub Contains-unmap : {X Y : Type 0} (f : Y → X) (ys : List Y) (x : X) → Contains (map f ys) x → Any (λ y. f y ≡ x) ys
Contains-unmap f [] x (k, there, is) = absurd (omega arith)
Contains-unmap f (y ∷ ys) x (k, there, is) =
    let within : k < length (y ∷ ys) = rw (length-map (y ∷ ys) f) at there in
    (k, get_or (y ∷ ys) k y, within, get_or_default (y ∷ ys) k (get_or (y ∷ ys) k y) y within, sym (get_or-map f (y ∷ ys) k y x within) ∙ is)

pub Contains-mapped : {X Y : Type 0} (f : Y → X) (ys : List Y) (x : X) → Any (λ y. f y ≡ x) ys ↔ Contains (map f ys) x
Contains-mapped f ys x = (Contains-map f ys x, Contains-unmap f ys x)

-- each pair of one more element: those before, and it behind each of them
pub AllPairs-more : {X : Type 0} (R : X → X → Type 0) (xs : List X) (n : ℕ) (x : X) → n < length xs → x ≡ get_or xs n x → AllPairs R (take n xs) → All (λ y. R y x) (take n xs) → AllPairs R (take (n + 1) xs)
AllPairs-more R xs n x within is before behind = λ i j d less there.
    let len : length (take (n + 1) xs) ≡ n + 1 = length-take-le (n + 1) xs (omega arith) in
    let len' : length (take n xs) ≡ n = length-take-le n xs (omega arith) in
    let first : get_or (take (n + 1) xs) i d ≡ get_or xs i d = get_or-take (n + 1) xs i d (omega arith) in
    let second : get_or (take (n + 1) xs) j d ≡ get_or xs j d = get_or-take (n + 1) xs j d (omega arith) in
    let first' : get_or (take n xs) i d ≡ get_or xs i d = get_or-take n xs i d (omega arith) in
    elim (cases_lt j n) [
      | inl earlier ↦
          let second' : get_or (take n xs) j d ≡ get_or xs j d = get_or-take n xs j d (omega arith) in
          rw (first, second, ← first', ← second') (before i j d less (omega arith))
      | inr last ↦
          let at : j ≡ n = omega arith in
          let same : get_or xs j d ≡ x = rw at (get_or_default xs n d x within ∙ sym is) in
          rw (first, second, same, ← first') (behind i d (omega arith))
    ]

-- a pair that fails
pub AllPairs-fails : {X : Type 0} (R : X → X → Type 0) (xs : List X) (n : ℕ) (x : X) → n < length xs → x ≡ get_or xs n x → AllPairs R xs → All (λ y. R y x) (take n xs)
AllPairs-fails R xs n x within is all = λ k d there.
    let len : length (take n xs) ≡ n = length-take-le n xs (omega arith) in
    let first : get_or (take n xs) k d ≡ get_or xs k d = get_or-take n xs k d (omega arith) in
    let same : get_or xs n d ≡ x = get_or_default xs n d x within ∙ sym is in
    rw (first, ← same) (all k n d (omega arith) within)

-- what a test tells of things behind references it tells of the things
pub seen_all : {X Y : Type 0} (P : X → Type 0) (f : Y → X) (ys : List Y) (xs : List X) (r : Bool) → map f ys ≡ xs → (IsTrue r ↔ All (λ y. P (f y)) ys) → IsTrue r ↔ All P xs
seen_all P f ys xs r seen each = rw (← seen) (λ yes. All-map P f ys (each.0 yes), λ all. each.1 (All-unmap P f ys all))

pub AllPairs-map : {X Y : Type 0} (R : X → X → Type 0) (f : Y → X) (ys : List Y) → AllPairs (λ y z. R (f y) (f z)) ys → AllPairs R (map f ys)
AllPairs-map R f [] pairs = λ i j d less there. absurd (omega arith)
AllPairs-map R f (y ∷ ys) pairs = λ i j d less there.
    let within : j < length (y ∷ ys) = rw (length-map (y ∷ ys) f) at there in
    let first : get_or (map f (y ∷ ys)) i d ≡ f (get_or (y ∷ ys) i y) = get_or-map f (y ∷ ys) i y d (omega arith) in
    let second : get_or (map f (y ∷ ys)) j d ≡ f (get_or (y ∷ ys) j y) = get_or-map f (y ∷ ys) j y d within in
    rw (first, second) (pairs i j y less within)

pub AllPairs-unmap : {X Y : Type 0} (R : X → X → Type 0) (f : Y → X) (ys : List Y) → AllPairs R (map f ys) → AllPairs (λ y z. R (f y) (f z)) ys
AllPairs-unmap R f ys pairs = λ i j d less within.
    let first : get_or (map f ys) i (f d) ≡ f (get_or ys i d) = get_or-map f ys i d (f d) (omega arith) in
    let second : get_or (map f ys) j (f d) ≡ f (get_or ys j d) = get_or-map f ys j d (f d) within in
    let there : j < length (map f ys) = rw (length-map ys f) within in
    rw (← first, ← second) (pairs i j (f d) less there)

pub seen_pairs : {X Y : Type 0} (R : X → X → Type 0) (f : Y → X) (ys : List Y) (xs : List X) (r : Bool) → map f ys ≡ xs → (IsTrue r ↔ AllPairs (λ y z. R (f y) (f z)) ys) → IsTrue r ↔ AllPairs R xs
seen_pairs R f ys xs r seen each = rw (← seen) (λ yes. AllPairs-map R f ys (each.0 yes), λ all. each.1 (AllPairs-unmap R f ys all))

-- none is such a one, or one is
pub none_is : {X : Type 0} (P : X → Type 0) (ys : List X) → (Any P ys → ⊥) → All (λ y. P y → ⊥) ys
none_is P ys none = λ k d within p. none (k, get_or ys k d, within, get_or_default ys k (get_or ys k d) d within, p)

pub one_is : {X : Type 0} (P : X → Type 0) (ys : List X) → Any P ys → All (λ y. P y → ⊥) ys → ⊥
one_is P ys (k, x, within, is, p) none = none k x within (rw is p)

pub All-cons : {X : Type 0} (P : X → Type 0) (x : X) (xs : List X) → P x → All P xs → All P (x ∷ xs)
All-cons P x xs here there zero d within = here
All-cons P x xs here there (suc k) d within = there k d (omega arith)

pub All-nil : {X : Type 0} (P : X → Type 0) → All P []
All-nil P = λ k d within. absurd (omega arith)

-- the whole list, taken as far as it goes
pub AllPairs-whole : {X : Type 0} (R : X → X → Type 0) (xs : List X) (n : ℕ) → length xs ≤ n → AllPairs R (take n xs) → AllPairs R xs
AllPairs-whole R xs n all pairs = rw (take_all n xs all) at pairs

-- the element at an index, by its name
pub All-at : {X : Type 0} (P : X → Type 0) (xs : List X) (i : ℕ) (x : X) → i < length xs → x ≡ get_or xs i x → All P xs → P x
All-at P xs i x within is all = subst P (sym is) (all i x within)

pub All-next : {X : Type 0} (P : X → Type 0) (xs : List X) (i : ℕ) (x : X) → i < length xs → x ≡ get_or xs i x → All P (take i xs) → P x → All P (take (i + 1) xs)
All-next P xs i x within is before here = All-more P xs i x within before (subst P is here)

pub All-whole : {X : Type 0} (P : X → Type 0) (xs : List X) (n : ℕ) → length xs ≤ n → All P (take n xs) → All P xs
All-whole P xs n whole all = rw (take_all n xs whole) at all
