-- The history as a list of rows, the oldest first: each entry with the octets that are kept of it.
use Rattle.std.specs.Prelude.{ℕ, ◌+◌, ◌≡◌, List, [], ◌∷◌, ◌++◌, length}
use Rattle.savi_kinds.specs.declared.entry.Entry.{Entry}
use Rattle.savi_kinds.specs.declared.entry.Act.{Act}
use Rattle.savi_kinds.specs.declared.entry.Act.TheVariants.{Frame, Long, Tick, Command, Drain, End}

pub record Row : Type 0 where
  pub entry : Entry
  -- of a frame its octets, of a command its line, and else none
  pub octets : List ℕ

-- how many octets the rows keep
abbrev pub held : List Row → ℕ
held [] = 0
held (row ∷ rows) = length row.octets + held rows

-- a history, and for how many entries and octets there is room
pub record History : Type 0 where
  pub rows : List Row
  pub entry_room : ℕ
  pub byte_room : ℕ

-- an entry of a frame or a command keeps its octets, so many as its `len` says, behind those that were kept before;
-- every other entry keeps none
abbrev pub KeepsOctets : Act → ℕ → List ℕ → Type 0
KeepsOctets (Frame port stamp at len) before octets = (at ≡ before) × (len ≡ length octets)
KeepsOctets (Command stamp at len) before octets = (at ≡ before) × (len ≡ length octets)
KeepsOctets (Long port stamp len) before octets = octets ≡ []
KeepsOctets (Tick stamp) before octets = octets ≡ []
KeepsOctets (Drain port count) before octets = octets ≡ []
KeepsOctets (End who how) before octets = octets ≡ []

-- the history with one more row
abbrev pub with_row : History → Entry → List ℕ → History
with_row history entry octets = record history { rows = history.rows ++ record { entry = entry; octets = octets } ∷ [] }

-- the history without its rows; the room stays
abbrev pub emptied : History → History
emptied history = record history { rows = [] }
