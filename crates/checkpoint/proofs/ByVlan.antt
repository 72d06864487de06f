-- A column that goes by VLAN is what its VLANs have, one behind the other.
use Rattle.std.proofs.Common.{ℕ, ◌≡◌, ◌==◌, ◌||◌, ◌<◌, ◌≤◌, Bool, true, false, cond, List, [], ◌∷◌, ◌++◌, map, refl, sym, ap, subst, ◌∙◌, arith, eq-eqb}
use Rattle.std.specs.Prelude.{filter}
use Rattle.std.specs.List.{AllByRecursion, list_any}
use Rattle.std.proofs.lemmas.Bool.{eqb-true, ne_eqb}
use Rattle.checkpoint.specs.Columns.{of_vlan, by_vlan, IsUpTo, IsByVlan}

higher_apart : (a b : ℕ) → a < b → (b == a) ≡ false
higher_apart a b below = ne_eqb b a (λ (same : b ≡ a). omega (arith, same, below))

pub lower_apart : (a b : ℕ) → a < b → (a == b) ≡ false
lower_apart a b below = ne_eqb a b (λ (same : a ≡ b). omega (arith, same, below))

or_other : (a b : Bool) → a ≡ false → (a || b) ≡ true → b ≡ true
or_other false b none e = e
or_other true b none e = absurd (cc)

-- each of these numbers is lower than those behind it
abbrev pub Rising : List ℕ → Type 0
Rising [] = Unit {0}
Rising (v ∷ vs) = AllByRecursion (λ w. v < w) vs × Rising vs

module _ {A : Type 0} where
  -- what holds of each of a list and of one more
  pub all_push : (P : A → Type 0) (xs : List A) (x : A) → AllByRecursion P xs → P x → AllByRecursion P (xs ++ x ∷ [])
  all_push P [] x all holds = (holds, tt)
  all_push P (y ∷ ys) x all holds = (all.0, all_push P ys x all.1 holds)

module _ {A : Type 0} where
  -- one more of a VLAN that isn't below the others
  pub by_vlan_push : (column : List (ℕ × A)) (p : ℕ × A) → IsByVlan column → IsUpTo p.0 column → IsByVlan (column ++ p ∷ [])
  by_vlan_push [] p by up = (tt, tt)
  by_vlan_push (q ∷ column) p by up = (all_push (λ (r : ℕ × A). q.0 ≤ r.0) column p by.0 up.0, by_vlan_push column p by.1 up.1)

  -- what a column has of a VLAN, with one more in front
  abbrev pub with_first : Bool → ℕ → ℕ × A → List (ℕ × A) → List A
  with_first b v x xs = cond b (x.1 ∷ of_vlan v xs) (of_vlan v xs)

  first_by : (b : Bool) (v : ℕ) (x : ℕ × A) (xs : List (ℕ × A)) → (x.0 == v) ≡ b → of_vlan v (x ∷ xs) ≡ with_first b v x xs
  first_by true v x xs e = ap (λ (c : Bool). map (λ (p : ℕ × A). p.1) (cond c (x ∷ filter (λ (p : ℕ × A). p.0 == v) xs) (filter (λ (p : ℕ × A). p.0 == v) xs))) e
  first_by false v x xs e = ap (λ (c : Bool). map (λ (p : ℕ × A). p.1) (cond c (x ∷ filter (λ (p : ℕ × A). p.0 == v) xs) (filter (λ (p : ℕ × A). p.0 == v) xs))) e

  -- a VLAN below all of a column has nothing there
  absent : (v : ℕ) (xs : List (ℕ × A)) → AllByRecursion (λ p. v < p.0) xs → of_vlan v xs ≡ []
  absent v [] all = refl
  absent v (x ∷ xs) all =
      first_by false v x xs (higher_apart v x.0 all.0) ∙ absent v xs all.1

  higher : (w v : ℕ) → w < v → (xs : List (ℕ × A)) → AllByRecursion (λ p. v ≤ p.0) xs → AllByRecursion (λ p. w < p.0) xs
  higher w v below [] all = tt
  higher w v below (x ∷ xs) all =
      let one : v ≤ x.0 = all.0 in
      let first : w < x.0 = omega (arith, one) in
      (first, higher w v below xs all.1)

  skip : (ws : List ℕ) (x : ℕ × A) (xs : List (ℕ × A)) → AllByRecursion (λ w. x.0 < w) ws → by_vlan ws (λ w. of_vlan w (x ∷ xs)) ≡ by_vlan ws (λ w. of_vlan w xs)
  skip [] x xs all = refl
  skip (w ∷ ws) x xs all =
      ap (λ (l : List A). map (λ (a : A). (w, a)) l ++ by_vlan ws (λ v. of_vlan v (x ∷ xs))) (first_by false w x xs (lower_apart x.0 w all.0))
      ∙ ap (λ (l : List (ℕ × A)). map (λ (a : A). (w, a)) (of_vlan w xs) ++ l) (skip ws x xs all.1)

-- one of the numbers behind v is above v
above : (v n : ℕ) (vs : List ℕ) → AllByRecursion (λ w. v < w) vs → list_any (λ w. w == n) vs ≡ true → v < n
above v n [] all e = absurd (cc)
above v n (w ∷ ws) all e =
    let over : v < w = all.0 in
    elim (w == n) as (λ b. (w == n) ≡ b → v < n) [
      | true ↦ λ (is : (w == n) ≡ true). omega (arith, over, eqb-true w n is)
      | false ↦ λ (is : (w == n) ≡ false). above v n ws all.1 (or_other (w == n) (list_any (λ k. k == n) ws) is e)
    ] refl

module _ {A : Type 0} where
  -- the first of a column stands in front of what the VLANs have of the others
  step : (vs : List ℕ) (x : ℕ × A) (xs : List (ℕ × A)) → Rising vs → list_any (λ v. v == x.0) vs ≡ true → IsByVlan (x ∷ xs) → by_vlan vs (λ v. of_vlan v (x ∷ xs)) ≡ x ∷ by_vlan vs (λ v. of_vlan v xs)
  step [] x xs rising e by = absurd (cc)
  step (v ∷ vs) x xs rising e by =
      elim (v == x.0) as (λ b. (v == x.0) ≡ b → by_vlan (v ∷ vs) (λ w. of_vlan w (x ∷ xs)) ≡ x ∷ by_vlan (v ∷ vs) (λ w. of_vlan w xs)) [
        | true ↦ λ (is : (v == x.0) ≡ true).
            let same : v ≡ x.0 = eqb-true v x.0 is in
            let back : (x.0 == v) ≡ true = eq-eqb x.0 v (sym same) in
            let over : AllByRecursion (λ w. x.0 < w) vs = subst (λ (n : ℕ). AllByRecursion (λ w. n < w) vs) same rising.0 in
            ap (λ (l : List A). map (λ (a : A). (v, a)) l ++ by_vlan vs (λ w. of_vlan w (x ∷ xs))) (first_by true v x xs back)
            ∙ ap (λ (l : List (ℕ × A)). (v, x.1) ∷ map (λ (a : A). (v, a)) (of_vlan v xs) ++ l) (skip vs x xs over)
            ∙ ap (λ (n : ℕ). (n, x.1) ∷ map (λ (a : A). (v, a)) (of_vlan v xs) ++ by_vlan vs (λ w. of_vlan w xs)) same
        | false ↦ λ (is : (v == x.0) ≡ false).
            let member : list_any (λ w. w == x.0) vs ≡ true = or_other (v == x.0) (list_any (λ w. w == x.0) vs) is e in
            let over : v < x.0 = above v x.0 vs rising.0 member in
            let rest : of_vlan v xs ≡ [] = absent v xs (higher v x.0 over xs by.0) in
            let none : of_vlan v (x ∷ xs) ≡ [] = absent v (x ∷ xs) (over, higher v x.0 over xs by.0) in
            ap (λ (l : List A). map (λ (a : A). (v, a)) l ++ by_vlan vs (λ w. of_vlan w (x ∷ xs))) none
            ∙ step vs x xs rising.1 member by
            ∙ ap (λ (l : List A). x ∷ map (λ (a : A). (v, a)) l ++ by_vlan vs (λ w. of_vlan w xs)) (sym rest)
      ] refl

  nothing : (vs : List ℕ) → by_vlan {A = A} vs (λ v. []) ≡ []
  nothing [] = refl
  nothing (v ∷ vs) = nothing vs

  not_empty : (x : A) (xs : List A) → x ∷ xs ≡ [] → ⊥
  not_empty x xs e = cc

-- nothing of a column is of another VLAN than these
abbrev pub IsAmong : {A : Type 0} → List ℕ → List (ℕ × A) → Type 0
IsAmong vs column = (v : ℕ) → list_any (λ w. w == v) vs ≡ false → of_vlan v column ≡ []

module _ {A : Type 0} where
  first_among : (vs : List ℕ) (x : ℕ × A) (xs : List (ℕ × A)) → IsAmong vs (x ∷ xs) → list_any (λ v. v == x.0) vs ≡ true
  first_among vs x xs among =
      elim (list_any (λ v. v == x.0) vs) as (λ b. list_any (λ v. v == x.0) vs ≡ b → b ≡ true) [
        | true ↦ λ (is : list_any (λ v. v == x.0) vs ≡ true). refl
        | false ↦ λ (is : list_any (λ v. v == x.0) vs ≡ false).
            absurd (not_empty x.1 (of_vlan x.0 xs) (sym (first_by true x.0 x xs (eq-eqb x.0 x.0 refl)) ∙ among x.0 is))
      ] refl

  rest_among : (vs : List ℕ) (x : ℕ × A) (xs : List (ℕ × A)) → IsAmong vs (x ∷ xs) → IsAmong vs xs
  rest_among vs x xs among v is =
      elim (x.0 == v) as (λ b. (x.0 == v) ≡ b → of_vlan v xs ≡ []) [
        | true ↦ λ (e : (x.0 == v) ≡ true). absurd (not_empty x.1 (of_vlan v xs) (sym (first_by true v x xs e) ∙ among v is))
        | false ↦ λ (e : (x.0 == v) ≡ false). sym (first_by false v x xs e) ∙ among v is
      ] refl

  pub read_by_vlan : (vs : List ℕ) (column : List (ℕ × A)) → Rising vs → IsByVlan column → IsAmong vs column → by_vlan vs (λ v. of_vlan v column) ≡ column
  read_by_vlan vs [] rising by among = nothing vs
  read_by_vlan vs (x ∷ xs) rising by among =
      step vs x xs rising (first_among vs x xs among) by ∙ ap (λ (l : List (ℕ × A)). x ∷ l) (read_by_vlan vs xs rising by.1 (rest_among vs x xs among))
