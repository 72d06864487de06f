-- How long lists are as one.
use Rattle.std.proofs.Common.{◌≡◌, ℕ, ◌+◌, nat_lt, List, [], ◌∷◌, length, map, refl, inl, inr, arith}
use Rattle.std.proofs.lemmas.Bool.{cases_Bool}
use Rattle.savi_history.specs.Merges.{enter, merge, merged}
use Rattle.savi_history.specs.Queues.{over_ports}

-- lists as one are as long as all of them
entered_length : {A : Type 0} (at : A → ℕ) (x : A) (rest : List A → List A) (n : ℕ) → ((ys : List A) → length (rest ys) ≡ n + length ys) → (ys : List A) → length (enter at x rest ys) ≡ n + 1 + length ys
entered_length at x rest n of [] = omega (arith, of [])
entered_length at x rest n of (y ∷ ys) =
    elim (cases_Bool (nat_lt (at y) (at x))) [
      | inl earlier ↦ rw earlier (omega (arith, entered_length at x rest n of ys))
      | inr later ↦ rw later (omega (arith, of (y ∷ ys)))
    ]

pub merged_length : {A : Type 0} (at : A → ℕ) (xs ys : List A) → length (merge at xs ys) ≡ length xs + length ys
merged_length at [] ys = omega arith
merged_length at (x ∷ xs) ys = omega (arith, entered_length at x (merge at xs) (length xs) (merged_length at xs) ys)

-- those of VLANs
pub all_length : {A : Type 0} (at : A → ℕ) (of : ℕ → List A) (vs : List ℕ) → length (merged at (map of vs)) ≡ over_ports vs (λ v. length (of v))
all_length at of [] = refl
all_length at of (v ∷ vs) = omega (arith, merged_length at (of v) (merged at (map of vs)), all_length at of vs)
