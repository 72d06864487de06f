-- The history of a value under the lock: a list of entries, each the number of the pass that made it and the numbers that
-- fix it.
use Rattle.std.specs.Prelude.{◌≡◌, ℕ, ◌==◌, List, ◌++◌}
use Rattle.std.specs.List.{filter}

abbrev pub Entry : Type 0
Entry = ℕ × List ℕ

abbrev pub EntryList : Type 0
EntryList = List Entry

-- the entries of one pass, in their order
abbrev pub mine : ℕ → EntryList → EntryList
mine number H = filter (λ e. e.0 == number) H

-- the history begins with another one
abbrev pub StartsWith : EntryList → EntryList → Type 0
StartsWith whole front = (rest : EntryList) × (whole ≡ front ++ rest)
