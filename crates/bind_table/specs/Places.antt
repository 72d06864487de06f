-- The place of the row of an address in the order of addresses.
use Rattle.std.specs.Prelude.{ℕ, List, filter, length}
use Rattle.savi_access.specs.declared.row.Row.{Row}
use Rattle.savi_kinds.specs.Orders.{is_below}
use Rattle.savi_access.specs.Rows.{address_of}

-- how many rows have lower addresses
abbrev pub count_below : ℕ → List Row → ℕ
count_below a rows = length (filter (is_below address_of a) rows)
