use Rattle.std.proofs.Common.{◌≡◌, ◌≤◌, ◌<◌, ℕ, List, Some, length, get_or, refl, sym, ◌∙◌, ap, arith}
use Rattle.std.specs.Option.{option_map}
use Rattle.std.proofs.lemmas.Option.{slice_get_past, slice_get_read}
use Rattle.slab.specs.Slab.{get}
use Rattle.savi_access.specs.declared.row.Row.{Row}
use Rattle.savi_access.specs.Rows.{pair_of}
use Rattle.bind_table.specs.Kept.{rows_under}
use Rattle.bind_table.proofs.Keys.{keys_length, told_some, told_get}
use Rattle.bind_table.proofs.table.BindTable.row.Goals as goal

pub returns-in_err-key-clause-row : goal.returns-in_err-key-clause-row
returns-in_err-key-clause-row c =
    let rows : List Row = rows_under c.self.inside.rows c.self.inside.order.items in
    let size : length c.self.inside.order.items ≡ length rows = keys_length (get c.self.inside.rows) c.self.inside.order.items rows c.self.invariant.0.told in
    let past : length c.deref.result.now ≤ c.args.i = c.in_err-key.ensures.lookup.3 in
    rw (← c.self.view_is)
    (c.from_residual.ensures ∙ sym (ap (option_map pair_of) (slice_get_past rows c.args.i (omega (arith, past, size, ap length c.deref.ensures.value)))))

pub row_under-row-requires : goal.row_under-row-requires
row_under-row-requires c =
    let rows : List Row = rows_under c.self.inside.rows c.self.inside.order.items in
    let key : c.in_ok-key.field-0.now ≡ get_or c.self.inside.order.items c.args.i 0 = c.in_ok-key.ensures.lookup.4 (omega arith) 0 ∙ ap (λ (keys : List ℕ). get_or keys c.args.i 0) c.deref.ensures.value in
    let within : c.args.i < length c.deref.result.now = c.in_ok-key.ensures.lookup.3.0 in
    rw key (told_some (get c.self.inside.rows) c.self.inside.order.items rows c.args.i 0 c.self.invariant.0.told (omega (arith, within, ap length c.deref.ensures.value)))

pub returns-clause-row : goal.returns-clause-row
returns-clause-row c =
    let rows : List Row = rows_under c.self.inside.rows c.self.inside.order.items in
    let row : Row = c.row_under-row.result.now in
    let key : c.in_ok-key.field-0.now ≡ get_or c.self.inside.order.items c.args.i 0 = c.in_ok-key.ensures.lookup.4 (omega arith) 0 ∙ ap (λ (keys : List ℕ). get_or keys c.args.i 0) c.deref.ensures.value in
    let size : length c.self.inside.order.items ≡ length rows = keys_length (get c.self.inside.rows) c.self.inside.order.items rows c.self.invariant.0.told in
    let front : c.args.i < length c.deref.result.now = c.in_ok-key.ensures.lookup.3.0 in
    let within : c.args.i < length rows = omega (arith, front, size, ap length c.deref.ensures.value) in
    let there : get c.self.inside.rows (get_or c.self.inside.order.items c.args.i 0) ≡ Some row = ap (get c.self.inside.rows) (sym key) ∙ c.row_under-row.ensures in
    rw (← c.self.view_is)
    (sym (ap (option_map pair_of) (slice_get_read rows (length rows) c.args.i row refl within (told_get (get c.self.inside.rows) c.self.inside.order.items rows c.args.i 0 row row c.self.invariant.0.told within there))))

pub returns-in_err-key-clause-table : goal.returns-in_err-key-clause-table
returns-in_err-key-clause-table c = rw (← c.self.view_is) (record { rising = c.self.invariant.0.rising; stand = c.self.invariant.0.stand })

pub returns-clause-table : goal.returns-clause-table
returns-clause-table c = rw (← c.self.view_is) (record { rising = c.self.invariant.0.rising; stand = c.self.invariant.0.stand })
