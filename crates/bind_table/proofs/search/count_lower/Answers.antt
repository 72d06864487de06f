use Rattle.std.proofs.Common.{◌≡◌, ◌≤◌, ◌<◌, ◌+◌, ◌-◌, ◌/◌, ℕ, length, get_or, List, ap, arith}
use Rattle.slab.specs.Slab.{get}
use Rattle.savi_access.specs.declared.row.Row.{Row}
use Rattle.savi_kinds.specs.Orders.{is_below}
use Rattle.savi_access.specs.Rows.{address_of}
use Rattle.bind_table.specs.Kept.{rows_under}
use Rattle.bind_table.proofs.Keys.{keys_length, told_some, told_get}
use Rattle.bind_table.proofs.Places.{lower_half, upper_half, length-filter_at}
use Rattle.bind_table.proofs.search.count_lower.Goals as goal

pub row_under-requires : goal.row_under-requires
row_under-requires c =
    let middle : ℕ = c.loop-low.low + (c.loop-low.high - c.loop-low.low) / 2 in
    told_some (get c.args.rows.now) c.args.keys.now (rows_under c.args.rows.now c.args.keys.now) middle 0 c.requires.told (omega (arith, c.loop-low-test.true, c.loop-low.invariant.1))

pub loop-low-preserved-then-row_under-a : goal.loop-low-preserved-then-row_under-a
loop-low-preserved-then-row_under-a c =
    let rows : List Row = rows_under c.args.rows.now c.args.keys.now in
    let middle : ℕ = c.loop-low.low + (c.loop-low.high - c.loop-low.low) / 2 in
    let within : middle < length rows = omega (arith, c.loop-low-test.true, c.loop-low.invariant.1, keys_length (get c.args.rows.now) c.args.keys.now rows c.requires.told) in
    let lower : (d : Row) → address_of (get_or rows middle d) < c.args.a.0 = λ d. let same : address_of c.row_under.result.now ≡ address_of (get_or rows middle d) = ap address_of (told_get (get c.args.rows.now) c.args.keys.now rows middle 0 c.row_under.result.now d c.requires.told within c.row_under.ensures) in omega (arith, same, c.if-row_under-a.true) in
    (omega (arith, c.loop-low-test.true), c.loop-low.invariant.1, lower_half c.args.a.0 rows middle c.requires.rising within lower, c.loop-low.invariant.3)

pub loop-low-preserved : goal.loop-low-preserved
loop-low-preserved c =
    let rows : List Row = rows_under c.args.rows.now c.args.keys.now in
    let middle : ℕ = c.loop-low.low + (c.loop-low.high - c.loop-low.low) / 2 in
    let size : length c.args.keys.now ≡ length rows = keys_length (get c.args.rows.now) c.args.keys.now rows c.requires.told in
    let within : middle < length rows = omega (arith, c.loop-low-test.true, c.loop-low.invariant.1, size) in
    let higher : (d : Row) → c.args.a.0 ≤ address_of (get_or rows middle d) = λ d. let same : address_of c.row_under.result.now ≡ address_of (get_or rows middle d) = ap address_of (told_get (get c.args.rows.now) c.args.keys.now rows middle 0 c.row_under.result.now d c.requires.told within c.row_under.ensures) in omega (arith, same, c.if-row_under-a.false) in
    (omega arith, omega (arith, within, size), c.loop-low.invariant.2, λ k d from to. upper_half c.args.a.0 rows middle c.requires.rising higher k d from (omega (arith, to, size)))

pub returns : goal.returns
returns c =
    let rows : List Row = rows_under c.args.rows.now c.args.keys.now in
    let size : length c.args.keys.now ≡ length rows = keys_length (get c.args.rows.now) c.args.keys.now rows c.requires.told in
    let same : c.loop-low.low ≡ c.loop-low.high = omega (arith, c.loop-low.invariant.0, c.loop-low-test.false) in
    length-filter_at (is_below address_of c.args.a.0) rows c.loop-low.low (omega (arith, same, c.loop-low.invariant.1, size)) c.loop-low.invariant.2
    (λ k d from to. c.loop-low.invariant.3 k d (omega (arith, from, same)) (omega (arith, to, size)))
