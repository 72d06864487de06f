-- How far a search or a closing has come: places that were passed, and the gap that is being closed.
use Rattle.std.proofs.Common.{ℕ, ◌≡◌, ◌≢◌, ◌+◌, ◌<◌, ◌≤◌, Option, Some, None, List, length}
use Rattle.addr_index.specs.declared.entry.Entry.{Entry}
use Rattle.addr_index.specs.Ways.{IsRound}
use Rattle.addr_index.specs.Places.{in_place, HasSameEntries, IsReachedBut}

-- a place that is passed by so many steps from another one on
pub record IsPassedPlace (places from steps place : ℕ) : Type 0 where
  pub straight : from ≤ place → place < from + steps
  pub round : place < from → place + places < from + steps

-- one that isn't
pub record IsAhead (places from steps place : ℕ) : Type 0 where
  pub straight : from ≤ place → from + steps ≤ place
  pub round : place < from → from + steps ≤ place + places

-- a place has the entry of another address
abbrev pub IsOther : ℕ → Option Entry → Type 0
IsOther address None = ⊥
IsOther address (Some entry) = entry.address ≢ address

-- how far a gap is closed among so many places, after so many steps from the emptied one on
pub record ClosesGap (count : ℕ) (initial places : List (Option Entry)) (emptied steps gap : ℕ) : Type 0 where
  pub size : length places ≡ count
  pub same : HasSameEntries initial places
  pub within : gap < count
  pub empty : in_place places gap ≡ None
  pub passed : IsPassedPlace count emptied steps gap
  pub reached : (at : ℕ) → IsRound count (emptied + steps) at → IsReachedBut count gap at places
  -- an empty place is still ahead
  pub ahead : (place : ℕ) × (place < count) × IsAhead count emptied steps place × (in_place places place ≡ None)
