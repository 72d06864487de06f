-- A history as its lock knows it, in numbers and with the oldest entry first, and as rows, with the newest first.
use Rattle.std.specs.Prelude.{List, [], ◌∷◌, ◌++◌}
use Rattle.hist_store.specs.Rows.{Row}
use Rattle.table_lock.specs.Entries.{EntryList}
use Rattle.core_keep.specs.RowCodes.{row_code, row_by_code}

abbrev pub coded : List Row → EntryList
coded [] = []
coded (row ∷ past) = coded past ++ row_code row ∷ []

abbrev pub decoded : EntryList → List Row
decoded [] = []
decoded (code ∷ codes) = decoded codes ++ row_by_code code ∷ []
