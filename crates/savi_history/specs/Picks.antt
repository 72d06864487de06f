-- Which of several lists, whose elements come at moments, has the next one.
use Rattle.std.specs.Prelude.{◌≡◌, ℕ, ◌<◌, ◌≤◌, List, [], ◌∷◌, length, get_or, Option, Some, None, IfSome, All}

-- of the numbers that are there the one at this place is the least, and of equals the earliest
pub record IsLeast (numbers : List (Option ℕ)) (place : ℕ) : Type 0 where
  pub inside : place < length numbers
  pub least : ℕ
  pub there : get_or numbers place None ≡ Some least
  pub before : (other : ℕ) → other < place → IfSome (get_or numbers other None) (λ number. least < number)
  pub behind : (other : ℕ) → place < other → IfSome (get_or numbers other None) (λ number. least ≤ number)

-- no number is there, or the one at this place is the least
abbrev pub IsPick : List (Option ℕ) → Option ℕ → Type 0
IsPick numbers None = All (λ number. number ≡ None) numbers
IsPick numbers (Some place) = IsLeast numbers place
