-- Some inputs left out of a merge: the others stay in the order that they have without them.
use Rattle.std.proofs.Common.{◌≡◌, ℕ, Bool, true, false, List, [], ◌∷◌, map, refl, ap, sym, ◌∙◌, arith, nat_lt, if◌then◌else◌, ◌⊎◌, inl, inr}
use Rattle.std.proofs.lemmas.Bool.Decides.{nat_tests}
use Rattle.std.specs.List.{filter}
use Rattle.savi_history.specs.Merges.{enter, merge, merged}
use Rattle.savi_history.proofs.Merging.{NoneBefore, earlier_none, enter_left, enter_right, enter_after}

-- the test says the same of each of these elements
abbrev pub AllAre : {A : Type 0} → (A → Bool) → Bool → List A → Type 0
AllAre keeps answer [] = Unit {0}
AllAre keeps answer (x ∷ xs) = (keeps x ≡ answer) × AllAre keeps answer xs

-- each input is kept whole or left out whole
abbrev pub AreWhole : {A : Type 0} → (A → Bool) → List (List A) → Type 0
AreWhole keeps [] = Unit {0}
AreWhole keeps (input ∷ inputs) = (AllAre keeps true input ⊎ AllAre keeps false input) × AreWhole keeps inputs

-- where a turn is left out, the first one behind it that is kept doesn't come before it
abbrev pub IsFair : {A : Type 0} → (A → ℕ) → (A → Bool) → List A → Type 0
IsFair at keeps [] = Unit {0}
IsFair at keeps (y ∷ ys) = (keeps y ≡ false → NoneBefore at (at y) (filter keeps ys)) × IsFair at keeps ys

pub filter_kept : {A : Type 0} (keeps : A → Bool) (xs : List A) → AllAre keeps true xs → filter keeps xs ≡ xs
filter_kept keeps [] all = refl
filter_kept {A} keeps (x ∷ xs) all = rw all.0 (ap (λ (l : List A). x ∷ l) (filter_kept keeps xs all.1))

pub filter_left_out : {A : Type 0} (keeps : A → Bool) (xs : List A) → AllAre keeps false xs → filter keeps xs ≡ []
filter_left_out keeps [] all = refl
filter_left_out keeps (x ∷ xs) all = rw all.0 (filter_left_out keeps xs all.1)

filter_yes : {A : Type 0} (keeps : A → Bool) (x : A) (xs : List A) → keeps x ≡ true → filter keeps (x ∷ xs) ≡ x ∷ filter keeps xs
filter_yes keeps x xs is = rw is refl

filter_no : {A : Type 0} (keeps : A → Bool) (x : A) (xs : List A) → keeps x ≡ false → filter keeps (x ∷ xs) ≡ filter keeps xs
filter_no keeps x xs is = rw is refl

-- what comes behind a turn that comes no later than the next one
filter_after_at : {A : Type 0} (at : A → ℕ) (keeps : A → Bool) (moment : ℕ) (y : A) (ys : List A) (b : Bool) → keeps y ≡ b → nat_lt (at y) moment ≡ false → IsFair at keeps (y ∷ ys) → NoneBefore at moment (filter keeps (y ∷ ys))
filter_after_at at keeps moment y ys true is late fair = rw (filter_yes keeps y ys is) late
filter_after_at at keeps moment y ys false is late fair = rw (filter_no keeps y ys is) (earlier_none at moment (at y) (filter keeps ys) (grind (arith, nat_tests)) (fair.0 is))

filter_after : {A : Type 0} (at : A → ℕ) (keeps : A → Bool) (moment : ℕ) (y : A) (ys : List A) → nat_lt (at y) moment ≡ false → IsFair at keeps (y ∷ ys) → NoneBefore at moment (filter keeps (y ∷ ys))
filter_after at keeps moment y ys late fair = filter_after_at at keeps moment y ys (keeps y) refl late fair

-- an input that is left out
module _ {A : Type 0} (at : A → ℕ) (keeps : A → Bool) (x : A) (rest : List A → List A) (out : keeps x ≡ false) (behind : (ys : List A) → filter keeps (rest ys) ≡ filter keeps ys) where
  enter_out_at : (b : Bool) (y : A) (ys : List A) → filter keeps (enter at x rest ys) ≡ filter keeps ys → filter keeps (if b then y ∷ enter at x rest ys else x ∷ rest (y ∷ ys)) ≡ filter keeps (y ∷ ys)
  enter_out_at true y ys step = rw step refl
  enter_out_at false y ys step = filter_no keeps x (rest (y ∷ ys)) out ∙ behind (y ∷ ys)

  enter_out : (ys : List A) → filter keeps (enter at x rest ys) ≡ filter keeps ys
  enter_out [] = filter_no keeps x (rest []) out ∙ behind []
  enter_out (y ∷ ys) = enter_out_at (nat_lt (at y) (at x)) y ys (enter_out ys)

  module _ (fair_behind : (ys : List A) → IsFair at keeps ys → IsFair at keeps (rest ys)) where
    enter_out_fair_at : (b : Bool) (y : A) (ys : List A) → nat_lt (at y) (at x) ≡ b → IsFair at keeps (y ∷ ys) → IsFair at keeps (enter at x rest ys) → IsFair at keeps (if b then y ∷ enter at x rest ys else x ∷ rest (y ∷ ys))
    enter_out_fair_at true y ys is fair step = (λ left. rw (enter_out ys) (fair.0 left), step)
    enter_out_fair_at false y ys is fair step = (λ left. rw (behind (y ∷ ys)) (filter_after at keeps (at x) y ys is fair), fair_behind (y ∷ ys) fair)

    enter_out_fair : (ys : List A) → IsFair at keeps ys → IsFair at keeps (enter at x rest ys)
    enter_out_fair [] fair = (λ left. rw (behind []) tt, fair_behind [] tt)
    enter_out_fair (y ∷ ys) fair = enter_out_fair_at (nat_lt (at y) (at x)) y ys refl fair (enter_out_fair ys fair.1)

merge_out : {A : Type 0} (at : A → ℕ) (keeps : A → Bool) (xs ys : List A) → AllAre keeps false xs → filter keeps (merge at xs ys) ≡ filter keeps ys
merge_out at keeps [] ys all = refl
merge_out at keeps (x ∷ xs) ys all = enter_out at keeps x (merge at xs) all.0 (λ zs. merge_out at keeps xs zs all.1) ys

merge_out_fair : {A : Type 0} (at : A → ℕ) (keeps : A → Bool) (xs ys : List A) → AllAre keeps false xs → IsFair at keeps ys → IsFair at keeps (merge at xs ys)
merge_out_fair at keeps [] ys all fair = fair
merge_out_fair at keeps (x ∷ xs) ys all fair = enter_out_fair at keeps x (merge at xs) all.0 (λ zs. merge_out at keeps xs zs all.1) (λ zs fair_zs. merge_out_fair at keeps xs zs all.1 fair_zs) ys fair

-- an input that is kept
module _ {A : Type 0} (at : A → ℕ) (keeps : A → Bool) (x : A) (rest : List A → List A) (in_it : keeps x ≡ true) (behind : (ys : List A) → IsFair at keeps ys → filter keeps (rest ys) ≡ rest (filter keeps ys)) where
  enter_kept_left : (y : A) (ys : List A) → nat_lt (at y) (at x) ≡ false → IsFair at keeps (y ∷ ys) → filter keeps (x ∷ rest (y ∷ ys)) ≡ enter at x rest (filter keeps (y ∷ ys))
  enter_kept_left y ys late fair =
      filter_yes keeps x (rest (y ∷ ys)) in_it
      ∙ ap (λ (l : List A). x ∷ l) (behind (y ∷ ys) fair)
      ∙ sym (enter_left at x rest (filter keeps (y ∷ ys)) (filter_after at keeps (at x) y ys late fair))

  enter_kept_right : (b : Bool) (y : A) (ys : List A) → keeps y ≡ b → nat_lt (at y) (at x) ≡ true → filter keeps (enter at x rest ys) ≡ enter at x rest (filter keeps ys) → filter keeps (y ∷ enter at x rest ys) ≡ enter at x rest (filter keeps (y ∷ ys))
  enter_kept_right true y ys is early step =
      filter_yes keeps y (enter at x rest ys) is
      ∙ ap (λ (l : List A). y ∷ l) step
      ∙ sym (enter_right at x rest y (filter keeps ys) early)
      ∙ ap (enter at x rest) (sym (filter_yes keeps y ys is))
  enter_kept_right false y ys is early step =
      filter_no keeps y (enter at x rest ys) is ∙ step ∙ ap (enter at x rest) (sym (filter_no keeps y ys is))

  enter_kept_at : (b : Bool) (y : A) (ys : List A) → nat_lt (at y) (at x) ≡ b → IsFair at keeps (y ∷ ys) → filter keeps (enter at x rest ys) ≡ enter at x rest (filter keeps ys) → filter keeps (if b then y ∷ enter at x rest ys else x ∷ rest (y ∷ ys)) ≡ enter at x rest (filter keeps (y ∷ ys))
  enter_kept_at true y ys is fair step = enter_kept_right (keeps y) y ys refl is step
  enter_kept_at false y ys is fair step = enter_kept_left y ys is fair

  enter_kept : (ys : List A) → IsFair at keeps ys → filter keeps (enter at x rest ys) ≡ enter at x rest (filter keeps ys)
  enter_kept [] fair = filter_yes keeps x (rest []) in_it ∙ ap (λ (l : List A). x ∷ l) (behind [] tt)
  enter_kept (y ∷ ys) fair = enter_kept_at (nat_lt (at y) (at x)) y ys refl fair (enter_kept ys fair.1)

  not_left : (P : Type 0) → keeps x ≡ false → P
  not_left P out = cc

  module _ (fair_behind : (ys : List A) → IsFair at keeps ys → IsFair at keeps (rest ys)) where
    enter_kept_fair_at : (b : Bool) (y : A) (ys : List A) → nat_lt (at y) (at x) ≡ b → IsFair at keeps (y ∷ ys) → IsFair at keeps (enter at x rest ys) → IsFair at keeps (if b then y ∷ enter at x rest ys else x ∷ rest (y ∷ ys))
    enter_kept_fair_at true y ys is fair step =
        (λ left. rw (enter_kept ys fair.1) (enter_after at (at y) x rest (filter keeps ys) (grind (arith, nat_tests)) (fair.0 left)), step)
    enter_kept_fair_at false y ys is fair step = (not_left _, fair_behind (y ∷ ys) fair)

    enter_kept_fair : (ys : List A) → IsFair at keeps ys → IsFair at keeps (enter at x rest ys)
    enter_kept_fair [] fair = (not_left _, fair_behind [] tt)
    enter_kept_fair (y ∷ ys) fair = enter_kept_fair_at (nat_lt (at y) (at x)) y ys refl fair (enter_kept_fair ys fair.1)

merge_kept : {A : Type 0} (at : A → ℕ) (keeps : A → Bool) (xs ys : List A) → AllAre keeps true xs → IsFair at keeps ys → filter keeps (merge at xs ys) ≡ merge at xs (filter keeps ys)
merge_kept at keeps [] ys all fair = refl
merge_kept at keeps (x ∷ xs) ys all fair = enter_kept at keeps x (merge at xs) all.0 (λ zs fair_zs. merge_kept at keeps xs zs all.1 fair_zs) ys fair

merge_kept_fair : {A : Type 0} (at : A → ℕ) (keeps : A → Bool) (xs ys : List A) → AllAre keeps true xs → IsFair at keeps ys → IsFair at keeps (merge at xs ys)
merge_kept_fair at keeps [] ys all fair = fair
merge_kept_fair at keeps (x ∷ xs) ys all fair =
    enter_kept_fair at keeps x (merge at xs) all.0 (λ zs fair_zs. merge_kept at keeps xs zs all.1 fair_zs) (λ zs fair_zs. merge_kept_fair at keeps xs zs all.1 fair_zs) ys fair

fair_merge : {A : Type 0} (at : A → ℕ) (keeps : A → Bool) (xs ys : List A) → AllAre keeps true xs ⊎ AllAre keeps false xs → IsFair at keeps ys → IsFair at keeps (merge at xs ys)
fair_merge at keeps xs ys (inl all) fair = merge_kept_fair at keeps xs ys all fair
fair_merge at keeps xs ys (inr all) fair = merge_out_fair at keeps xs ys all fair

filter_merge : {A : Type 0} (at : A → ℕ) (keeps : A → Bool) (xs ys : List A) → AllAre keeps true xs ⊎ AllAre keeps false xs → IsFair at keeps ys → filter keeps (merge at xs ys) ≡ merge at (filter keeps xs) (filter keeps ys)
filter_merge at keeps xs ys (inl all) fair = rw (filter_kept keeps xs all) (merge_kept at keeps xs ys all fair)
filter_merge at keeps xs ys (inr all) fair = rw (filter_left_out keeps xs all) (merge_out at keeps xs ys all)

fair_merged : {A : Type 0} (at : A → ℕ) (keeps : A → Bool) (inputs : List (List A)) → AreWhole keeps inputs → IsFair at keeps (merged at inputs)
fair_merged at keeps [] whole = tt
fair_merged at keeps (input ∷ inputs) whole = fair_merge at keeps input (merged at inputs) whole.0 (fair_merged at keeps inputs whole.1)

-- Inputs left out before the merge or behind it: the same.
pub filter_merged : {A : Type 0} (at : A → ℕ) (keeps : A → Bool) (inputs : List (List A)) → AreWhole keeps inputs → filter keeps (merged at inputs) ≡ merged at (map (filter keeps) inputs)
filter_merged at keeps [] whole = refl
filter_merged at keeps (input ∷ inputs) whole =
    filter_merge at keeps input (merged at inputs) whole.0 (fair_merged at keeps inputs whole.1)
    ∙ ap (merge at (filter keeps input)) (filter_merged at keeps inputs whole.1)
