-- What comes to segments step by step, and where their newest rows are read.
use Rattle.std.specs.Prelude.{List, [], ◌∷◌}
use Rattle.savi_kinds.specs.declared.plan.Plan.{Plan}
use Rattle.hist_store.specs.Rows.{Row}
use Rattle.checkpoint.specs.Bases.{Base, empty}
use Rattle.savi_segments.specs.Segments.{base_after}

-- a row enters, or a new segment begins
pub data Step : Type 0 where
  Enters : (row : Row) → Step
  Turns : Step

-- segments with one more row: the first one where there is none
abbrev pub with_row : Row → List (List Row) → List (List Row)
with_row row [] = (row ∷ []) ∷ []
with_row row (segment ∷ before) = (row ∷ segment) ∷ before

-- what segments become by these steps, the newest step first
abbrev pub gone : List (List Row) → List Step → List (List Row)
gone first [] = first
gone first (Enters row ∷ steps) = with_row row (gone first steps)
gone first (Turns ∷ steps) = [] ∷ gone first steps

-- the rows that entered
abbrev pub rows_in : List Step → List Row
rows_in [] = []
rows_in (Enters row ∷ steps) = row ∷ rows_in steps
rows_in (Turns ∷ steps) = rows_in steps

-- the rows of the newest segment
abbrev pub newest_rows : List (List Row) → List Row
newest_rows [] = []
newest_rows (segment ∷ before) = segment

-- the base from which they are read
abbrev pub newest_base : Plan → List (List Row) → Base
newest_base plan [] = empty
newest_base plan (segment ∷ before) = base_after plan before
