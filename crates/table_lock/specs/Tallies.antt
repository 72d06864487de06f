-- A tally: the numbers that were added, in order, and how many there is room for.
use Rattle.std.specs.Prelude.{ℕ, List, [], ◌∷◌, map}
use Rattle.table_lock.specs.Entries.{EntryList}

pub record Tallied : Type 0 where
  pub numbers : List ℕ
  pub room : ℕ

-- an added number is an entry of the pass with that number
abbrev pub tally_history : Tallied → EntryList
tally_history t = map (λ n. (n, [])) t.numbers

-- no entry changes the room
abbrev pub tally_fixed : Tallied → List ℕ
tally_fixed t = t.room ∷ []
