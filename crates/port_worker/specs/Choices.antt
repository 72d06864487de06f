-- The choice among the first so many numbers.
use Rattle.std.specs.Prelude.{◌≡◌, ℕ, ◌<◌, ◌≤◌, List, get_or, Option, Some, None, IfSome}

-- of the first so many the one at this place is the least, with this number, and of equals the earliest
pub record IsLeastOf (numbers : List (Option ℕ)) (count place least : ℕ) : Type 0 where
  pub inside : place < count
  pub there : get_or numbers place None ≡ Some least
  pub before : (other : ℕ) → other < place → IfSome (get_or numbers other None) (λ number. least < number)
  pub behind : (other : ℕ) → place < other → other < count → IfSome (get_or numbers other None) (λ number. least ≤ number)

abbrev pub IsFirstOf : List (Option ℕ) → ℕ → Option (ℕ × ℕ) → Type 0
IsFirstOf numbers count None = (other : ℕ) → other < count → get_or numbers other None ≡ None
IsFirstOf numbers count (Some (place, least)) = IsLeastOf numbers count place least
