-- What stands at a place of two lists, one behind the other.
use Rattle.std.proofs.Common.{ℕ, zero, suc, ◌≡◌, ◌+◌, ◌-◌, ◌<◌, ◌≤◌, List, [], ◌∷◌, ◌++◌, length, get_or, Some, refl, sym, ap, ◌∙◌, arith}
use Rattle.std.specs.Prelude.{slice_get}
use Rattle.std.proofs.lemmas.Option.{slice_get_read}

module _ {A : Type 0} where
  pub front : (xs ys : List A) (i : ℕ) → i < length xs → slice_get (xs ++ ys) i ≡ slice_get xs i
  front [] ys i within = absurd (omega arith)
  front (x ∷ xs) ys zero within = refl
  front (x ∷ xs) ys (suc i) within = front xs ys i (omega arith)

  behind_at : (xs ys : List A) (j : ℕ) → slice_get (xs ++ ys) (length xs + j) ≡ slice_get ys j
  behind_at [] ys j = ap (slice_get ys) (omega arith)
  behind_at (x ∷ xs) ys j =
      let next : length (x ∷ xs) + j ≡ suc (length xs + j) = omega arith in
      ap (slice_get (x ∷ xs ++ ys)) next ∙ behind_at xs ys j

  pub behind : (xs ys : List A) (i : ℕ) → length xs ≤ i → slice_get (xs ++ ys) i ≡ slice_get ys (i - length xs)
  behind xs ys i past =
      let is : i ≡ length xs + (i - length xs) = omega (arith, past) in
      ap (slice_get (xs ++ ys)) is ∙ behind_at xs ys (i - length xs)

  pub at_front : (xs ys : List A) (i : ℕ) (x : A) → slice_get xs i ≡ Some x → slice_get (xs ++ ys) i ≡ Some x
  at_front [] ys i x e = absurd (cc)
  at_front (y ∷ xs) ys zero x e = e
  at_front (y ∷ xs) ys (suc i) x e = at_front xs ys i x e

  pub at_seam : (xs : List A) (x : A) (ys : List A) → slice_get (xs ++ x ∷ ys) (length xs) ≡ Some x
  at_seam [] x ys = refl
  at_seam (y ∷ xs) x ys =
      let next : length (y ∷ xs) ≡ suc (length xs) = omega arith in
      ap (slice_get (y ∷ xs ++ x ∷ ys)) next ∙ at_seam xs x ys

  -- what was read of a list at a place, where both are known by other names too
  pub read_there : (xs ys : List A) (i j : ℕ) (x : A) → xs ≡ ys → i ≡ j → i < length xs → x ≡ get_or xs i x → slice_get ys j ≡ Some x
  read_there xs ys i j x same place within is =
      ap (slice_get ys) (sym place) ∙ ap (λ (l : List A). slice_get l i) (sym same) ∙ slice_get_read xs (length xs) i x refl within is
