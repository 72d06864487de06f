-- The line of an entry, as the line says it.
use Rattle.std.proofs.Common.{◌≡◌, ℕ, List, ◌∷◌, decimal, ap}
use Rattle.hist_store.specs.Rows.{Row}
use Rattle.hist_store.specs.LineTexts.{line_fields}
use Rattle.hist_store.specs.EntryLines.{row_said}
use Rattle.hist_store.proofs.OneEntry.{act_fields_said}

pub fields_said : (n : ℕ) (row : Row) → line_fields n row ≡ line_fields n (row_said row)
fields_said n row =
    ap (λ (fields : List (List ℕ)). decimal n ∷ decimal row.entry.by ∷ decimal row.entry.moment ∷ fields) (act_fields_said row.entry row.octets row.entry.act)
