-- What a pass of this lock knows between two steps: its one key is its number, and the list there is its entries in what it
-- has seen.
use Rattle.std.specs.Prelude.{ℕ, List, [], ◌∷◌, Some}
use Rattle.table_lock.specs.Entries.{mine}
use Rattle.table_lock.specs.Plays.{spent}
use Rattle.table_lock.specs.declared.board.Stage.{Stage}
use Rattle.table_lock.specs.declared.board.View.{View}

abbrev pub at_turn : ℕ → Stage → View → View
at_turn number stage v = record { number = Some number; stage = stage; seats = v.seats; seen = v.seen; mine = (number, mine number v.seen) ∷ []; fixed = v.fixed; told = [] }

-- the one view of a pass
abbrev pub view_of : List View → View
view_of [] = spent
view_of (v ∷ vs) = v
