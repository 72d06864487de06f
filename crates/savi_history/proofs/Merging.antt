-- The laws of merging lists whose elements come at moments.
use Rattle.std.proofs.Common.{◌≡◌, ℕ, suc, zero, ◌<◌, ◌≤◌, Bool, true, false, List, [], ◌∷◌, get_or, set, map, refl, ap, sym, ◌∙◌, arith, Option, Some, None, IfSome, nat_lt, if◌then◌else◌}
use Rattle.std.proofs.lemmas.Bool.Decides.{nat_tests}
use Rattle.std.specs.List.{All}
use Rattle.savi_history.specs.Merges.{enter, merge, merged}
use Rattle.savi_history.specs.Picks.{IsLeast}

-- when the first of these comes, where there is one
abbrev pub first_at : {A : Type 0} → (A → ℕ) → List A → Option ℕ
first_at at [] = None
first_at at (x ∷ xs) = Some (at x)

-- the first of these elements doesn't come before this moment
abbrev pub NoneBefore : {A : Type 0} → (A → ℕ) → ℕ → List A → Type 0
NoneBefore at moment [] = Unit {0}
NoneBefore at moment (y ∷ ys) = nat_lt (at y) moment ≡ false

pub earlier_none : {A : Type 0} (at : A → ℕ) (one other : ℕ) (ys : List A) → one ≤ other → NoneBefore at other ys → NoneBefore at one ys
earlier_none at one other [] le none = tt
earlier_none at one other (y ∷ ys) le none = grind (arith, nat_tests)

pub enter_left : {A : Type 0} (at : A → ℕ) (x : A) (rest : List A → List A) (ys : List A) → NoneBefore at (at x) ys → enter at x rest ys ≡ x ∷ rest ys
enter_left at x rest [] none = refl
enter_left at x rest (y ∷ ys) none = rw none refl

pub enter_right : {A : Type 0} (at : A → ℕ) (x : A) (rest : List A → List A) (y : A) (ys : List A) → nat_lt (at y) (at x) ≡ true → enter at x rest (y ∷ ys) ≡ y ∷ enter at x rest ys
enter_right at x rest y ys earlier = rw earlier refl

pub merge_left : {A : Type 0} (at : A → ℕ) (x : A) (xs ys : List A) → NoneBefore at (at x) ys → merge at (x ∷ xs) ys ≡ x ∷ merge at xs ys
merge_left at x xs ys none = enter_left at x (merge at xs) ys none

pub merge_right : {A : Type 0} (at : A → ℕ) (x : A) (xs : List A) (y : A) (ys : List A) → nat_lt (at y) (at x) ≡ true → merge at (x ∷ xs) (y ∷ ys) ≡ y ∷ merge at (x ∷ xs) ys
merge_right at x xs y ys earlier = enter_right at x (merge at xs) y ys earlier

enter_after_at : {A : Type 0} (at : A → ℕ) (moment : ℕ) (x y : A) (b : Bool) (xs ys : List A) → nat_lt (at x) moment ≡ false → nat_lt (at y) moment ≡ false → NoneBefore at moment (if b then y ∷ ys else x ∷ xs)
enter_after_at at moment x y true xs ys at_x at_y = at_y
enter_after_at at moment x y false xs ys at_x at_y = at_x

pub enter_after : {A : Type 0} (at : A → ℕ) (moment : ℕ) (x : A) (rest : List A → List A) (ys : List A) → nat_lt (at x) moment ≡ false → NoneBefore at moment ys → NoneBefore at moment (enter at x rest ys)
enter_after at moment x rest [] at_x none = at_x
enter_after at moment x rest (y ∷ ys) at_x none = enter_after_at at moment x y (nat_lt (at y) (at x)) (rest (y ∷ ys)) (enter at x rest ys) at_x none

pub merge_after : {A : Type 0} (at : A → ℕ) (moment : ℕ) (xs ys : List A) → NoneBefore at moment xs → NoneBefore at moment ys → NoneBefore at moment (merge at xs ys)
merge_after at moment [] ys none_x none_y = none_y
merge_after at moment (x ∷ xs) ys none_x none_y = enter_after at moment x (merge at xs) ys none_x none_y

-- where no list begins before a moment, what they are together doesn't
pub merged_after : {A : Type 0} (at : A → ℕ) (moment : ℕ) (inputs : List (List A)) → ((k : ℕ) → IfSome (get_or (map (first_at at) inputs) k None) (λ first. moment ≤ first)) → NoneBefore at moment (merged at inputs)
merged_after at moment [] late = tt
merged_after at moment ([] ∷ inputs) late = merged_after at moment inputs (λ k. late (suc k))
merged_after at moment ((x ∷ xs) ∷ inputs) late =
    let first : moment ≤ at x = late 0 in
    merge_after at moment (x ∷ xs) (merged at inputs) (grind (arith, nat_tests)) (merged_after at moment inputs (λ k. late (suc k)))

-- no list has an element
pub merged_none : {A : Type 0} (at : A → ℕ) (inputs : List (List A)) → All (λ first. first ≡ None) (map (first_at at) inputs) → merged at inputs ≡ []
merged_none at [] none = refl
merged_none at ([] ∷ inputs) none = merged_none at inputs (λ k d inside. none (suc k) d (omega arith))
merged_none at ((x ∷ xs) ∷ inputs) none = let first : Some (at x) ≡ None = none 0 None (omega arith) in cc

-- the list at this place has the first element of all
pub record IsPicked {A : Type 0} (at : A → ℕ) (inputs : List (List A)) (place : ℕ) : Type 0 where
  pub turn : A
  pub left : List A
  pub there : get_or inputs place [] ≡ turn ∷ left
  pub moment : get_or (map (first_at at) inputs) place None ≡ Some (at turn)
  pub first : merged at inputs ≡ turn ∷ merged at (set inputs place left)

least_tail : (number : Option ℕ) (numbers : List (Option ℕ)) (place : ℕ) → IsLeast (number ∷ numbers) (suc place) → IsLeast numbers place
least_tail number numbers place least = record {
  inside = let inside = least.inside in omega arith;
  least = least.least;
  there = least.there;
  before = λ other lower. least.before (suc other) (omega arith);
  behind = λ other higher. least.behind (suc other) (omega arith);
}

same_some : (a b : ℕ) → Some a ≡ Some b → a ≡ b
same_some a b e = cc

pub picked : {A : Type 0} (at : A → ℕ) (inputs : List (List A)) (place : ℕ) → IsLeast (map (first_at at) inputs) place → IsPicked at inputs place
picked at [] place least = let inside : place < 0 = least.inside in absurd (omega arith)
picked at ([] ∷ inputs) zero least = let there : None ≡ Some least.least = least.there in cc
picked at ((x ∷ xs) ∷ inputs) zero least =
    let there : Some (at x) ≡ Some least.least = least.there in
    let same : at x ≡ least.least = same_some (at x) least.least there in
    let late : (k : ℕ) → IfSome (get_or (map (first_at at) inputs) k None) (λ first. at x ≤ first) = λ k. rw same (least.behind (suc k) (omega arith)) in
    record { turn = x; left = xs; there = refl; moment = refl; first = merge_left at x xs (merged at inputs) (merged_after at (at x) inputs late) }
picked at ([] ∷ inputs) (suc place) least =
    let p = picked at inputs place (least_tail None (map (first_at at) inputs) place least) in
    record { turn = p.turn; left = p.left; there = p.there; moment = p.moment; first = p.first }
picked at ((x ∷ xs) ∷ inputs) (suc place) least =
    let p = picked at inputs place (least_tail (Some (at x)) (map (first_at at) inputs) place least) in
    let same : at p.turn ≡ least.least = same_some (at p.turn) least.least (sym p.moment ∙ least.there) in
    let lower : least.least < at x = least.before 0 (omega arith) in
    let earlier : nat_lt (at p.turn) (at x) ≡ true = grind (arith, nat_tests) in
    record {
      turn = p.turn;
      left = p.left;
      there = p.there;
      moment = p.moment;
      first = ap (merge at (x ∷ xs)) p.first ∙ merge_right at x xs p.turn (merged at (set inputs place p.left)) earlier;
    }
