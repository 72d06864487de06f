use Rattle.std.proofs.Common.{◌≡◌, List, length, ap, ◌∙◌, arith}
use Rattle.slab.specs.Slab.{get}
use Rattle.savi_access.specs.declared.row.Row.{Row}
use Rattle.bind_table.specs.Bindings.{Bindings}
use Rattle.bind_table.specs.Kept.{rows_under}
use Rattle.bind_table.proofs.Keys.{keys_length}
use Rattle.bind_table.proofs.table.BindTable.size.Goals as goal

pub overflow_cast-result : goal.overflow_cast-result
overflow_cast-result c =
    let rows : List Row = rows_under c.self.inside.rows c.self.inside.order.items in
    let size : length c.self.inside.order.items ≡ length rows = keys_length (get c.self.inside.rows) c.self.inside.order.items rows c.self.invariant.0.told in
    omega (arith, size, c.self.invariant.1.within, c.self.invariant.1.limit, c.len.ensures, c.self.inside.order.ok.0)

pub returns-clause-size : goal.returns-clause-size
returns-clause-size c =
    let rows : List Row = rows_under c.self.inside.rows c.self.inside.order.items in
    let size : length c.self.inside.order.items ≡ length rows = keys_length (get c.self.inside.rows) c.self.inside.order.items rows c.self.invariant.0.told in
    c.len.ensures ∙ c.self.inside.order.ok.0 ∙ size ∙ ap (λ (table : Bindings). length table.rows) c.self.view_is

pub returns-clause-most : goal.returns-clause-most
returns-clause-most c =
    let rows : List Row = rows_under c.self.inside.rows c.self.inside.order.items in
    let size : length c.self.inside.order.items ≡ length rows = keys_length (get c.self.inside.rows) c.self.inside.order.items rows c.self.invariant.0.told in
    rw (← c.self.view_is) (omega (arith, c.len.ensures, c.self.inside.order.ok.0, size, c.self.invariant.1.within))
