use Rattle.std.proofs.Common.{◌≡◌, List, Some, refl, ap, sym, ◌∙◌}
use Rattle.savi_access.specs.declared.row.Row.{Row}
use Rattle.savi_access.specs.Rows.{state_in, address_row}
use Rattle.bind_table.specs.Bindings.{Bindings}
use Rattle.bind_table.specs.Kept.{rows_under}
use Rattle.bind_table.proofs.KeptChanges.{row_by_key, belongs_without_key}
use Rattle.bind_table.proofs.table.BindTable.get.Goals as goal

pub row_under-requires : goal.row_under-requires
row_under-requires c = rw (row_by_key c.self.inside.rows c.self.inside.index c.self.inside.order.items c.self.inside.counts (rows_under c.self.inside.rows c.self.inside.order.items) c.args.a.0 c.in-Some.key c.self.invariant.0 (sym c.in-Some.ensures)) refl

pub returns-in-Some : goal.returns-in-Some
returns-in-Some c =
    let rows : List Row = rows_under c.self.inside.rows c.self.inside.order.items in
    let told : Some c.row_under.result.now ≡ Some (address_row c.args.a.0 (state_in rows c.args.a.0)) = sym c.row_under.ensures ∙ row_by_key c.self.inside.rows c.self.inside.index c.self.inside.order.items c.self.inside.counts rows c.args.a.0 c.in-Some.key c.self.invariant.0 (sym c.in-Some.ensures) in
    let same : c.row_under.result.now ≡ address_row c.args.a.0 (state_in rows c.args.a.0) = cc in
    ap (λ (row : Row). row.state) same ∙ ap (λ (table : Bindings). state_in table.rows c.args.a.0) c.self.view_is

pub returns-in-None : goal.returns-in-None
returns-in-None c =
    let rows : List Row = rows_under c.self.inside.rows c.self.inside.order.items in
    c.none.ensures
    ∙ sym (belongs_without_key c.self.inside.rows c.self.inside.index c.self.inside.order.items c.self.inside.counts rows c.args.a.0 c.self.invariant.0 (sym c.in-None.ensures)).state
    ∙ ap (λ (table : Bindings). state_in table.rows c.args.a.0) c.self.view_is
