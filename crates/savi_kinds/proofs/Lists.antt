-- Parts of a list.
use Rattle.std.proofs.Common.{◌≡◌, ℕ, zero, suc, ◌<◌, List, [], ◌∷◌, ◌++◌, length, get_or, take, drop, refl, ap, arith}

-- an element of a list that has one
pub element : {X : Type 0} (xs : List X) (k : ℕ) → k < length xs → X
element [] k inside = absurd (omega arith)
element (x ∷ xs) k inside = x

-- a list is what stands before an element, the element, and what stands behind it
pub split_at : {X : Type 0} (xs : List X) (i : ℕ) (d : X) → i < length xs → xs ≡ take i xs ++ get_or xs i d ∷ drop (suc i) xs
split_at [] i d within = absurd (omega (arith, within))
split_at (x ∷ xs) zero d within = refl
split_at (x ∷ xs) (suc i) d within = ap (λ ys. x ∷ ys) (split_at xs i d (omega (arith, within)))
