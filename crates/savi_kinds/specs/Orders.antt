-- Orders: by a number that each element of a list has, such as its address; by the moment at which something is due, and of
-- one moment by address; and in turn, by the moments of what happened.
use Rattle.std.specs.Prelude.{ℕ, ◌<◌, ◌≤◌, ◌==◌, ◌&&◌, ◌||◌, nat_lt, Bool, List, [], ◌∷◌}
use Rattle.std.specs.List.{AllPairs}

-- whether the number of an element is lower than this one
abbrev pub is_below : {X : Type 0} → (X → ℕ) → ℕ → X → Bool
is_below number n x = nat_lt (number x) n

-- whether it is higher
abbrev pub is_above : {X : Type 0} → (X → ℕ) → ℕ → X → Bool
is_above number n x = nat_lt n (number x)

-- each element has a higher number than those before it
abbrev pub IsRising : {X : Type 0} → (X → ℕ) → List X → Type 0
IsRising number xs = AllPairs (λ earlier later. number earlier < number later) xs

-- whether something is due before something else: at an earlier moment, or at the same one for a lower address
abbrev pub is_due_before : ℕ → ℕ → ℕ → ℕ → Bool
is_due_before due address other_due other = nat_lt due other_due || (due == other_due && nat_lt address other)

-- what happened, the newest first, in turn: none of it is at a later moment than what is newer, or than t, or at an earlier
-- one than `from`
abbrev pub AreInTurn : {X : Type 0} → (X → ℕ) → ℕ → ℕ → List X → Type 0
AreInTurn moment from t [] = from ≤ t
AreInTurn moment from t (x ∷ past) = (moment x ≤ t) × AreInTurn moment from (moment x) past
