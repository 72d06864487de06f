-- Lists that are merged in rounds: what all of them have up to a moment comes first, and what they have at one moment comes
-- in the order of the lists.
use Rattle.std.proofs.Common.{◌≡◌, ℕ, ◌<◌, ◌≤◌, nat_lt, Bool, if◌then◌else◌, List, [], ◌∷◌, ◌++◌, map, refl, ap, ◌∙◌, inl, inr, arith}
use Rattle.std.specs.List.{flat_map, AllByRecursion}
use Rattle.std.proofs.lemmas.Bool.{cases_Bool, cond_both, le-ltb, lt-ltb}
use Rattle.savi_history.specs.Merges.{enter, merge, merged}

each_one : {B : Type 0} (P : B → Type 0) → ((v : B) → P v) → (vs : List B) → AllByRecursion P vs
each_one P each [] = tt
each_one P each (v ∷ vs) = (each v, each_one P each vs)

module _ {A : Type 0} (at : A → ℕ) where
  -- none of these is later than a moment, or each is
  abbrev pub AreUpTo : ℕ → List A → Type 0
  AreUpTo u xs = AllByRecursion (λ x. at x ≤ u) xs

  abbrev pub AreBehind : ℕ → List A → Type 0
  AreBehind u xs = AllByRecursion (λ x. u < at x) xs

  -- one that is earlier than the first of others goes in front of them, and one that isn't goes behind that
  goes_before : (x : A) (rest : List A → List A) (y : A) (ys : List A) → at x ≤ at y → enter at x rest (y ∷ ys) ≡ x ∷ rest (y ∷ ys)
  goes_before x rest y ys early = ap (λ (b : Bool). if b then y ∷ enter at x rest ys else x ∷ rest (y ∷ ys)) (le-ltb (at y) (at x) early)

  goes_behind : (x : A) (rest : List A → List A) (y : A) (ys : List A) → at y < at x → enter at x rest (y ∷ ys) ≡ y ∷ enter at x rest ys
  goes_behind x rest y ys late = ap (λ (b : Bool). if b then y ∷ enter at x rest ys else x ∷ rest (y ∷ ys)) (lt-ltb (at y) (at x) late)

  module _ (u : ℕ) where
    -- what the second list has up to the moment, where the first list has nothing up to it
    low_first : (ys xs2 ys2 : List A) → AreUpTo u ys → AreBehind u xs2 → merge at xs2 (ys ++ ys2) ≡ ys ++ merge at xs2 ys2
    low_first ys [] ys2 low high = refl
    low_first [] (x ∷ xs) ys2 low high = refl
    low_first (y ∷ ys) (x ∷ xs) ys2 low high =
        goes_behind x (merge at xs) y (ys ++ ys2) (omega (arith, low.0, high.0)) ∙ ap (λ (l : List A). y ∷ l) (low_first ys (x ∷ xs) ys2 low.1 high)

    -- one that is up to the moment, put into a second list
    module _ (x : A) (rest low_rest : List A → List A) (behind tail : List A) (early : at x ≤ u) (high : AreBehind u behind) (parts : (zs : List A) → AreUpTo u zs → rest (zs ++ behind) ≡ low_rest zs ++ tail) where
      in_front : (zs : List A) → AreBehind u zs → enter at x rest zs ≡ x ∷ rest zs
      in_front [] late = refl
      in_front (z ∷ zs) late = goes_before x rest z zs (omega (arith, early, late.0))

      enter_split : (zs : List A) → AreUpTo u zs → enter at x rest (zs ++ behind) ≡ enter at x low_rest zs ++ tail
      enter_split [] low = in_front behind high ∙ ap (λ (l : List A). x ∷ l) (parts [] tt)
      enter_split (z ∷ zs) low =
          elim (cases_Bool (nat_lt (at z) (at x))) [
            | inl late ↦ rw late (ap (λ (l : List A). z ∷ l) (enter_split zs low.1))
            | inr not_late ↦ rw not_late (ap (λ (l : List A). x ∷ l) (parts (z ∷ zs) low))
          ]

    -- two lists
    pub merge_split : (xs ys xs2 ys2 : List A) → AreUpTo u xs → AreUpTo u ys → AreBehind u xs2 → AreBehind u ys2 → merge at (xs ++ xs2) (ys ++ ys2) ≡ merge at xs ys ++ merge at xs2 ys2
    merge_split [] ys xs2 ys2 low_x low_y high_x high_y = low_first ys xs2 ys2 low_y high_x
    merge_split (x ∷ xs) ys xs2 ys2 low_x low_y high_x high_y =
        enter_split x (merge at (xs ++ xs2)) (merge at xs) ys2 (merge at xs2 ys2) low_x.0 high_y (λ zs low. merge_split xs zs xs2 ys2 low_x.1 low high_x high_y) ys low_y

  -- what holds of each of both lists holds of each of what is merged

  module _ (P : A → Type 0) where
    entered_all : (x : A) (rest : List A → List A) → P x → ((ys : List A) → AllByRecursion P ys → AllByRecursion P (rest ys)) → (ys : List A) → AllByRecursion P ys → AllByRecursion P (enter at x rest ys)
    entered_all x rest one others [] all = (one, others [] tt)
    entered_all x rest one others (y ∷ ys) all =
        cond_both (nat_lt (at y) (at x)) (y ∷ enter at x rest ys) (x ∷ rest (y ∷ ys)) (AllByRecursion P)
        (λ late. (all.0, entered_all x rest one others ys all.1)) (λ early. (one, others (y ∷ ys) all))

    merge_all : (xs ys : List A) → AllByRecursion P xs → AllByRecursion P ys → AllByRecursion P (merge at xs ys)
    merge_all [] ys first second = second
    merge_all (x ∷ xs) ys first second = entered_all x (merge at xs) first.0 (λ zs all. merge_all xs zs first.1 all) ys second

    pub merged_all : {B : Type 0} (of : B → List A) (vs : List B) → AllByRecursion (λ v. AllByRecursion P (of v)) vs → AllByRecursion P (merged at (map of vs))
    merged_all of [] each = tt
    merged_all of (v ∷ vs) each = merge_all (of v) (merged at (map of vs)) each.0 (merged_all of vs each.1)

  -- all lists
  pub merged_split : {B : Type 0} (u : ℕ) (first second : B → List A) → ((v : B) → AreUpTo u (first v)) → ((v : B) → AreBehind u (second v)) → (vs : List B)
      → merged at (map (λ v. first v ++ second v) vs) ≡ merged at (map first vs) ++ merged at (map second vs)
  merged_split u first second low high [] = refl
  merged_split u first second low high (v ∷ vs) =
      ap (merge at (first v ++ second v)) (merged_split u first second low high vs)
      ∙ merge_split u (first v) (merged at (map first vs)) (second v) (merged at (map second vs)) (low v) (merged_all (λ x. at x ≤ u) first vs (each_one (λ w. AreUpTo u (first w)) low vs)) (high v) (merged_all (λ x. u < at x) second vs (each_one (λ w. AreBehind u (second w)) high vs))

  -- lists of one moment

  merge_same : (u : ℕ) (xs ys : List A) → AllByRecursion (λ x. at x ≡ u) xs → AllByRecursion (λ y. at y ≡ u) ys → merge at xs ys ≡ xs ++ ys
  merge_same u [] ys one other = refl
  merge_same u (x ∷ xs) [] one other = ap (λ (l : List A). x ∷ l) (merge_same u xs [] one.1 other)
  merge_same u (x ∷ xs) (y ∷ ys) one other =
      goes_before x (merge at xs) y ys (omega (arith, one.0, other.0)) ∙ ap (λ (l : List A). x ∷ l) (merge_same u xs (y ∷ ys) one.1 other)

  pub merged_same : {B : Type 0} (u : ℕ) (of : B → List A) (vs : List B) → AllByRecursion (λ v. AllByRecursion (λ x. at x ≡ u) (of v)) vs → merged at (map of vs) ≡ flat_map of vs
  merged_same u of [] each = refl
  merged_same u of (v ∷ vs) each =
      merge_same u (of v) (merged at (map of vs)) each.0 (merged_all (λ x. at x ≡ u) of vs each.1)
      ∙ ap (λ (l : List A). of v ++ l) (merged_same u of vs each.1)

  -- one list alone

  merge_alone : (xs : List A) → merge at xs [] ≡ xs
  merge_alone [] = refl
  merge_alone (x ∷ xs) = ap (λ (l : List A). x ∷ l) (merge_alone xs)

  pub merged_one : {B : Type 0} (of : B → List A) (v : B) → merged at (map of (v ∷ [])) ≡ of v
  merged_one of v = merge_alone (of v)
