-- Lists whose elements come at moments, as one list: of the first elements of all lists the earliest comes first, and of
-- equals that of the earlier list.
use Rattle.std.specs.Prelude.{ℕ, nat_lt, if◌then◌else◌, List, [], ◌∷◌}

-- an element goes in front of the first one that isn't earlier; `rest` says where what follows it goes
abbrev pub enter : {A : Type 0} → (A → ℕ) → A → (List A → List A) → List A → List A
enter at x rest [] = x ∷ rest []
enter at x rest (y ∷ ys) = if nat_lt (at y) (at x) then y ∷ enter at x rest ys else x ∷ rest (y ∷ ys)

-- two lists as one: of the two first elements the earlier one comes first, and of equals the left one
abbrev pub merge : {A : Type 0} → (A → ℕ) → List A → List A → List A
merge at [] ys = ys
merge at (x ∷ xs) ys = enter at x (merge at xs) ys

-- all lists as one
abbrev pub merged : {A : Type 0} → (A → ℕ) → List (List A) → List A
merged at [] = []
merged at (list ∷ lists) = merge at list (merged at lists)
