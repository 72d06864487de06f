use Rattle.std.proofs.Common.{◌≡◌, ◌≤◌, ◌-◌, length, true, false}
use Rattle.std.specs.List.{AllWithin}
use Rattle.savi_kinds.specs.Orders.{is_below}
use Rattle.savi_access.specs.Rows.{address_of}
use Rattle.bind_table.specs.Kept.{rows_under}
use Rattle.bind_table.proofs.search.count_lower.Given as goal

abbrev pub invariant-loop-low : goal.invariant-loop-low
invariant-loop-low l = (l.low ≤ l.high) × (l.high ≤ length l.keys) × AllWithin (λ row. is_below address_of l.a.0 row ≡ true) (rows_under l.rows l.keys) 0 l.low × AllWithin (λ row. is_below address_of l.a.0 row ≡ false) (rows_under l.rows l.keys) l.high (length l.keys)

abbrev pub decreases-loop-low : goal.decreases-loop-low
decreases-loop-low l = l.high - l.low
