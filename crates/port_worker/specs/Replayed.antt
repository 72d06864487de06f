-- What a replay leaves: a switch in which the newest segment stands, and what was told and written of all of them.
use Rattle.std.specs.Prelude.{◌≡◌, List, ◌∷◌}
use Rattle.hist_store.specs.Rows.{Row}
use Rattle.savi_segments.specs.Segments.{base_after}
use Rattle.savi_core.specs.Machines.{Machine, base_of}

-- the segments that were closed before the newest one, and of all of them that
pub record HasReplayed (m : Machine) (Holds : List (List Row) → Type 0) : Type 0 where
  pub before : List (List Row)
  pub base : base_of m ≡ base_after m.plan before
  pub all : Holds (m.past ∷ before)
