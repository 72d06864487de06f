-- The places of an index lie in a ring: behind the last one comes the first. These are the ways along it.
use Rattle.std.specs.Prelude.{ℕ, ◌≡◌, ◌+◌, ◌≤◌, ◌<◌}

-- a way along the ring, from one place up to another one, comes by this place: the first place is on it, and the last isn't
pub record IsOnWay (from to place : ℕ) : Type 0 where
  pub begun : from ≤ to → from ≤ place
  pub before : from ≤ to → place < to
  pub round : to < from → place < from → place < to

-- it doesn't
pub record IsOffWay (from to place : ℕ) : Type 0 where
  pub beyond : from ≤ to → from ≤ place → to ≤ place
  pub not_begun : to < from → place < from
  pub past : to < from → to ≤ place

-- the place that so many steps from the first one lead to, in a ring of so many places, at most once round
pub record IsRound (places steps place : ℕ) : Type 0 where
  pub within : place < places
  pub straight : steps < places → place ≡ steps
  pub round : places ≤ steps → place + places ≡ steps
