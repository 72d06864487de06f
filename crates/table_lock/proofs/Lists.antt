-- Lists read by `get_elem?`, sums over them, and beginnings of histories.
use Rattle.std.proofs.Common.{◌≡◌, ◌≢◌, ℕ, zero, suc, ◌+◌, ◌<◌, ◌≤◌, ◌⊎◌, inl, inr, List, [], ◌∷◌, ◌++◌, length, map, set, sym, refl, ap, ◌∙◌, subst, arith, append_assoc, true, false, cond, nat_lt}
use Rattle.std.proofs.lemmas.List.{append-nil}
use Rattle.std.proofs.lemmas.List.Sums.{sum_by-cons}
use Rattle.std.specs.List.{sum_by}
use mathlib.Core.Option.{some, some-injective, some-ne-none}
use lib.ListN.{get_elem?}
use Rattle.atomic_table.proofs.Lists.{at_set}
use Rattle.table_lock.specs.Entries.{EntryList, StartsWith}
use Rattle.table_lock.specs.Plays.{longer}

module _ {A : Type 0} where
  -- what holds of the new element, and of each other one at its place, holds of each element after a write
  pub all_set : (P : ℕ → A → Type 0) (l : List A) (i : ℕ) (w : A) → P i w → ((j : ℕ) (u : A) → j ≢ i → get_elem? l j ≡ some u → P j u)
      → (j : ℕ) (u : A) → get_elem? (set l i w) j ≡ some u → P j u
  all_set P l i w here there j u e = go (at_set l i j w u e)
    where
      go : ((j ≡ i) × (w ≡ u)) ⊎ ((j ≢ i) × (get_elem? l j ≡ some u)) → P j u
      go (inl t) = subst (λ (x : ℕ × A). P x.0 x.1) (λ k. (sym t.0 k, t.1 k)) here
      go (inr t) = there j u t.0 t.1

  pub at_snoc : (l : List A) (a b : A) (j : ℕ) → get_elem? (l ++ a ∷ []) j ≡ some b → (get_elem? l j ≡ some b) ⊎ ((j ≡ length l) × (a ≡ b))
  at_snoc [] a b zero e = inr (refl, some-injective a b e)
  at_snoc [] a b (suc j) e = absurd (some-ne-none b (sym e))
  at_snoc (x ∷ xs) a b zero e = inl e
  at_snoc (x ∷ xs) a b (suc j) e = go (at_snoc xs a b j e)
    where
      go : (get_elem? xs j ≡ some b) ⊎ ((j ≡ length xs) × (a ≡ b)) → (get_elem? xs j ≡ some b) ⊎ ((suc j ≡ suc (length xs)) × (a ≡ b))
      go (inl t) = inl t
      go (inr t) = inr (ap suc t.0, t.1)

  -- the same for what holds of an element that is added at the end
  pub all_snoc : (P : ℕ → A → Type 0) (l : List A) (w : A) → ((j : ℕ) (u : A) → get_elem? l j ≡ some u → P j u) → P (length l) w
      → (j : ℕ) (u : A) → get_elem? (l ++ w ∷ []) j ≡ some u → P j u
  all_snoc P l w old last j u e = go (at_snoc l w u j e)
    where
      go : (get_elem? l j ≡ some u) ⊎ ((j ≡ length l) × (w ≡ u)) → P j u
      go (inl t) = old j u t
      go (inr t) = subst (λ (x : ℕ × A). P x.0 x.1) (λ k. (sym t.0 k, t.1 k)) last

  pub at_right : (l m : List A) (j : ℕ) (b : A) → get_elem? m j ≡ some b → (k : ℕ) × (get_elem? (l ++ m) k ≡ some b)
  at_right [] m j b e = (j, e)
  at_right (x ∷ xs) m j b e = let t = at_right xs m j b e in (suc t.0, t.1)

  pub at_either : (l m : List A) (k : ℕ) (b : A) → get_elem? (l ++ m) k ≡ some b → (get_elem? l k ≡ some b) ⊎ ((j : ℕ) × (get_elem? m j ≡ some b))
  at_either [] m k b e = inr (k, e)
  at_either (x ∷ xs) m zero b e = inl e
  at_either (x ∷ xs) m (suc k) b e = at_either xs m k b e

  pub at_below : (l : List A) (i : ℕ) (a : A) → get_elem? l i ≡ some a → i < length l
  at_below [] i a e = absurd (some-ne-none a (sym e))
  at_below (x ∷ xs) zero a e = omega arith
  at_below (x ∷ xs) (suc i) a e = let h = at_below xs i a e in omega arith

  pub at_only : (a : A) (j : ℕ) (b : A) → get_elem? (a ∷ []) j ≡ some b → (j ≡ 0) × (a ≡ b)
  at_only a zero b e = (refl, some-injective a b e)
  at_only a (suc j) b e = absurd (some-ne-none b (sym e))

  pub map_back : {B : Type 0} (f : A → B) (l : List A) (k : ℕ) (b : B) → get_elem? (map f l) k ≡ some b → (a : A) × (get_elem? l k ≡ some a) × (f a ≡ b)
  map_back f [] k b e = absurd (some-ne-none b (sym e))
  map_back f (x ∷ xs) zero b e = (x, refl, some-injective (f x) b e)
  map_back f (x ∷ xs) (suc k) b e = map_back f xs k b e

  module _ (f : A → ℕ) where
    pub total_set : (l : List A) (i : ℕ) (v w : A) → get_elem? l i ≡ some v → sum_by f (set l i w) + f v ≡ sum_by f l + f w
    total_set [] i v w e = absurd (some-ne-none v (sym e))
    total_set (x ∷ xs) zero v w e =
        let same : f x ≡ f v = ap f (some-injective x v e) in
        let old : sum_by f (x ∷ xs) ≡ f x + sum_by f xs = sum_by-cons f x xs in
        let new : sum_by f (set (x ∷ xs) zero w) ≡ f w + sum_by f xs = sum_by-cons f w xs in
        omega arith
    total_set (x ∷ xs) (suc i) v w e =
        let h = total_set xs i v w e in
        let old : sum_by f (x ∷ xs) ≡ f x + sum_by f xs = sum_by-cons f x xs in
        let new : sum_by f (set (x ∷ xs) (suc i) w) ≡ f x + sum_by f (set xs i w) = sum_by-cons f x (set xs i w) in
        omega arith

    pub total_le : ((v : A) → f v ≤ 1) → (l : List A) → sum_by f l ≤ length l
    total_le small [] = omega arith
    total_le small (x ∷ xs) = let h = total_le small xs in let s = small x in let c = sum_by-cons f x xs in omega arith

    pub one_le_total : (l : List A) (i : ℕ) (v : A) → get_elem? l i ≡ some v → f v ≤ sum_by f l
    one_le_total [] i v e = absurd (some-ne-none v (sym e))
    one_le_total (x ∷ xs) zero v e = let same : f x ≡ f v = ap f (some-injective x v e) in let c = sum_by-cons f x xs in omega arith
    one_le_total (x ∷ xs) (suc i) v e = let h = one_le_total xs i v e in let c = sum_by-cons f x xs in omega arith

    pub two_le_total : (l : List A) (i j : ℕ) (v w : A) → i ≢ j → get_elem? l i ≡ some v → get_elem? l j ≡ some w → f v + f w ≤ sum_by f l
    two_le_total [] i j v w apart e h = absurd (some-ne-none v (sym e))
    two_le_total (x ∷ xs) zero zero v w apart e h = absurd (apart refl)
    two_le_total (x ∷ xs) zero (suc j) v w apart e h = let same : f x ≡ f v = ap f (some-injective x v e) in let le = one_le_total xs j w h in let c = sum_by-cons f x xs in omega arith
    two_le_total (x ∷ xs) (suc i) zero v w apart e h = let same : f x ≡ f w = ap f (some-injective x w h) in let le = one_le_total xs i v e in let c = sum_by-cons f x xs in omega arith
    two_le_total (x ∷ xs) (suc i) (suc j) v w apart e h = let le = two_le_total xs i j v w (λ z. apart (ap suc z)) e h in let c = sum_by-cons f x xs in omega arith

pub starts_whole : (H : EntryList) → StartsWith H H
starts_whole H = ([], sym (append-nil H))

pub starts_longer : (H more xs : EntryList) → StartsWith H xs → StartsWith (H ++ more) xs
starts_longer H more xs s = (s.0 ++ more, ap (λ (l : EntryList). l ++ more) s.1 ∙ append_assoc xs s.0 more)

pub starts_same : (H a b : EntryList) → a ≡ b → StartsWith H a → StartsWith H b
starts_same H a b e s = subst (λ (x : EntryList). StartsWith H x) e s

pub starts_either : (H a b : EntryList) → StartsWith H a → StartsWith H b → StartsWith H (longer a b)
starts_either H a b sa sb = elim (nat_lt (length a) (length b)) as (λ c. StartsWith H (cond c b a)) [ true ↦ sb | false ↦ sa ]
