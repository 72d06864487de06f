-- How rows lie in one store: the octets of all rows stand one after another, and an entry says where its own are.
use Rattle.std.specs.Prelude.{ℕ, ◌+◌, ◌≡◌, ◌≤◌, List, length, map, take, drop, All}
use Rattle.savi_kinds.specs.declared.entry.Entry.{Entry}
use Rattle.savi_kinds.specs.declared.entry.Act.{Act}
use Rattle.savi_kinds.specs.declared.entry.Act.TheVariants.{Frame, Long, Tick, Command, Drain, End}
use Rattle.hist_store.specs.Rows.{Row, held}

-- where the octets of a frame or a command begin
abbrev pub at_of : Act → ℕ
at_of (Frame port stamp at len) = at
at_of (Command stamp at len) = at
at_of (Long port stamp len) = 0
at_of (Tick stamp) = 0
at_of (Drain port count) = 0
at_of (End who how) = 0

-- how many octets are kept of an act
abbrev pub kept_of : Act → ℕ
kept_of (Frame port stamp at len) = len
kept_of (Command stamp at len) = len
kept_of (Long port stamp len) = 0
kept_of (Tick stamp) = 0
kept_of (Drain port count) = 0
kept_of (End who how) = 0

-- the row of an entry
abbrev pub entry_row : List ℕ → Entry → Row
entry_row store entry = record { entry = entry; octets = take (kept_of entry.act) (drop (at_of entry.act) store) }

-- each entry's octets lie in the store, and together they fill it
pub record IsStore (store : List ℕ) (entries : List Entry) : Type 0 where
  pub within : All (λ entry. at_of entry.act + kept_of entry.act ≤ length store) entries
  pub size : held (map (entry_row store) entries) ≡ length store
