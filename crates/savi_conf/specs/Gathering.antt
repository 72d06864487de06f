-- Numbers that are gathered, each once, where there is room for 8.
use Rattle.std.specs.Prelude.{ℤ, ◌≡◌, ◌≢◌, ◌≤◌, ◌<◌, Bool, true, false, List, length, All, AllPairs, Contains}

-- the numbers after some were added to those before, and whether there was room for all
pub record Gathers (before numbers : List ℤ) (result : Bool) (after : List ℤ) : Type 0 where
  pub kept : All (Contains after) before
  pub added : result ≡ true → All (Contains after) numbers
  pub different : AllPairs (λ v w. v ≢ w) before → AllPairs (λ v w. v ≢ w) after
  pub few : length before ≤ 8 → length after ≤ 8
  -- nothing else is added
  pub among : (all : List ℤ) → All (Contains all) before → All (Contains all) numbers → All (Contains all) after
  -- without room there are more than 8
  pub full : result ≡ false → AllPairs (λ v w. v ≢ w) before → (all : List ℤ) → All (Contains all) before → All (Contains all) numbers → 8 < length all
