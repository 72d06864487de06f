use Rattle.std.proofs.Common.{◌≡◌, ◌+◌, ℕ, List, Option, Some, None, OnSome, cond, is_some, refl, length, get_or, vec_capacity, ap, sym, ◌∙◌, subst, arith}
use Rattle.slab.specs.Slab.{get, slab_len}
use Rattle.addr_index.specs.Indexes.{key_in}
use Rattle.savi_kinds.specs.PortSets.{no_ports}
use Rattle.mix_rules.specs.States.{nobody}
use Rattle.savi_access.specs.declared.row.Row.{Row}
use Rattle.savi_access.specs.Rows.{state_in, with_state, address_row}
use Rattle.bind_table.specs.Places.{count_below}
use Rattle.bind_table.specs.Bindings.{Bindings}
use Rattle.bind_table.specs.Counts.{AreHolders}
use Rattle.bind_table.specs.Kept.{rows_under, IsKept, HasRoom, HasPorts}
use Rattle.bind_table.proofs.Around.{nothing_there}
use Rattle.bind_table.proofs.KeptChanges.{row_by_key, belongs_without_key, removed}
use Rattle.bind_table.proofs.Tables.{whole_kept, whole_view, table_of, counts_most, place_below}
use Rattle.bind_table.proofs.Holders.{read_ports, ports_of, ports_least, recounted_by, nobody_held, HasHolders-remove}
use Rattle.bind_table.proofs.table.BindTable.remove.Goals as goal

pub returns-in_default : goal.returns-in_default
returns-in_default c =
    let rows : List Row = rows_under c.self.inside.rows c.self.inside.order.items in
    let is : key_in c.self.inside.index c.args.a.0 ≡ None = sym c.in_default.ensures in
    subst (λ (t : Bindings). t ≡ record { rows = with_state c.args.a.0 nobody t.rows; most = t.most }) c.self.view_is
    (ap (λ (xs : List Row). table_of xs c.self.inside.most) (nothing_there c.args.a.0 rows (count_below c.args.a.0 rows) c.self.invariant.0.rising c.self.invariant.0.stand (belongs_without_key c.self.inside.rows c.self.inside.index c.self.inside.order.items c.self.inside.counts rows c.args.a.0 c.self.invariant.0 is)))

pub index-requires : goal.index-requires
index-requires c = omega (arith, (ports_of c.self.inside.rows c.self.inside.index c.self.inside.order.items c.self.inside.counts (rows_under c.self.inside.rows c.self.inside.order.items) c.self.inside.held.items c.args.a.0 c.in-Some.key c.self.invariant.0 c.self.invariant.2 (sym c.in-Some.ensures)).within, c.self.inside.held.ok.0)

pub remove-requires : goal.remove-requires
remove-requires c =
    let rows : List Row = rows_under c.self.inside.rows c.self.inside.order.items in
    let place : c.count_lower-at.result ≡ count_below c.args.a.0 rows = rw (← c.as_slice.ensures.value) c.count_lower-at.ensures in
    omega (arith, place_below c.self.inside.rows c.self.inside.index c.self.inside.order.items c.self.inside.counts rows c.args.a.0 c.in-Some.key c.count_lower-at.result c.self.invariant.0 (sym c.in-Some.ensures) place, c.self.inside.order.ok.0)

pub recount-requires-clause-least : goal.recount-requires-clause-least
recount-requires-clause-least c =
    let there : HasPorts c.self.inside.held.items c.in-Some.key (state_in (rows_under c.self.inside.rows c.self.inside.order.items) c.args.a.0) = ports_of c.self.inside.rows c.self.inside.index c.self.inside.order.items c.self.inside.counts (rows_under c.self.inside.rows c.self.inside.order.items) c.self.inside.held.items c.args.a.0 c.in-Some.key c.self.invariant.0 c.self.invariant.2 (sym c.in-Some.ensures) in
    ports_least c.self.inside.rows c.self.inside.index c.self.inside.order.items c.self.inside.counts (rows_under c.self.inside.rows c.self.inside.order.items) c.self.inside.held.items c.args.a.0 c.in-Some.key c.index.result.now c.self.invariant.0 c.self.invariant.2 (sym c.in-Some.ensures) (read_ports c.self.inside.held.items c.in-Some.key c.index.result.now there.within c.index.ensures)

pub recount-requires-clause-most : goal.recount-requires-clause-most
recount-requires-clause-most c = counts_most c.self.inside.rows c.self.inside.index c.self.inside.order.items c.self.inside.counts (rows_under c.self.inside.rows c.self.inside.order.items) (vec_capacity c.self.inside.order) c.self.inside.most c.self.invariant.0 c.self.invariant.1

fewer : (c : goal.After-recount) → length c.remove-2.new.self.entries + 1 ≡ length c.self.inside.index.entries
fewer c =
    let is : key_in c.self.inside.index c.args.a.0 ≡ Some c.in-Some.key = sym c.in-Some.ensures in
    let had : ◌≡◌ {A = ℕ} (cond (is_some (key_in c.self.inside.index c.args.a.0)) 1 0) 1 = rw is refl in
    omega (arith, had, c.remove-2.ensures.len)

removed_here : (c : goal.After-recount) → IsKept c.try_remove.new.self c.remove-2.new.self c.remove.new.self.items c.recount.new.counts (with_state c.args.a.0 nobody (rows_under c.self.inside.rows c.self.inside.order.items))
removed_here c =
    let rows : List Row = rows_under c.self.inside.rows c.self.inside.order.items in
    let is : key_in c.self.inside.index c.args.a.0 ≡ Some c.in-Some.key = sym c.in-Some.ensures in
    let place : c.count_lower-at.result ≡ count_below c.args.a.0 rows = rw (← c.as_slice.ensures.value) c.count_lower-at.ensures in
    let row : get c.self.inside.rows c.in-Some.key ≡ Some (address_row c.args.a.0 (state_in rows c.args.a.0)) = row_by_key c.self.inside.rows c.self.inside.index c.self.inside.order.items c.self.inside.counts (rows_under c.self.inside.rows c.self.inside.order.items) c.args.a.0 c.in-Some.key c.self.invariant.0 is in
    let len : slab_len c.try_remove.new.self + 1 ≡ slab_len c.self.inside.rows = subst (λ (o : Option Row). OnSome o (slab_len c.try_remove.new.self + 1 ≡ slab_len c.self.inside.rows)) (c.try_remove.ensures.value ∙ row) c.try_remove.ensures.len in
    let there : HasPorts c.self.inside.held.items c.in-Some.key (state_in rows c.args.a.0) = ports_of c.self.inside.rows c.self.inside.index c.self.inside.order.items c.self.inside.counts (rows_under c.self.inside.rows c.self.inside.order.items) c.self.inside.held.items c.args.a.0 c.in-Some.key c.self.invariant.0 c.self.invariant.2 is in
    let same : c.index.result.now ≡ get_or c.self.inside.held.items c.in-Some.key no_ports = read_ports c.self.inside.held.items c.in-Some.key c.index.result.now there.within c.index.ensures in
    let left : AreHolders (state_in rows c.args.a.0) c.index.result.now = subst (AreHolders (state_in rows c.args.a.0)) (sym same) there.are in
    let none : AreHolders nobody c.empty.result = subst (AreHolders nobody) (sym c.empty.ensures) nobody_held in
    rw c.remove.ensures.items
    (removed c.self.inside.rows c.try_remove.new.self c.self.inside.index c.remove-2.new.self c.self.inside.order.items c.self.inside.counts c.recount.new.counts rows c.args.a.0 c.in-Some.key c.count_lower-at.result c.self.invariant.0 is place c.try_remove.ensures.updates len c.remove-2.ensures.keys (fewer c)
    (recounted_by c.index.result.now c.empty.result (state_in rows c.args.a.0) nobody c.self.inside.counts c.recount.new.counts left none c.recount.ensures))

pub invariant_of-self : goal.invariant_of-self
invariant_of-self c =
    let rows : List Row = rows_under c.self.inside.rows c.self.inside.order.items in
    let now : List Row = with_state c.args.a.0 nobody rows in
    let room : HasRoom c.try_remove.new.self c.remove-2.new.self (vec_capacity c.remove.new.self) c.self.inside.most (length now) = record {
      within = omega (arith, (removed_here c).index_size, fewer c, c.self.invariant.0.index_size, c.self.invariant.1.within);
      slab_room = omega (arith, c.try_remove.ensures.capacity, c.self.invariant.1.slab_room);
      index_room = omega (arith, c.remove-2.ensures.most, c.self.invariant.1.index_room);
      order_room = omega (arith, c.remove.ensures.capacity, c.self.invariant.1.order_room);
      limit = c.self.invariant.1.limit;
      narrow = omega (arith, c.try_remove.ensures.capacity, c.self.invariant.1.narrow);
    } in
    whole_kept c.try_remove.new.self c.remove-2.new.self c.remove.new.self.items c.recount.new.counts now c.self.inside.held.items (vec_capacity c.remove.new.self) c.self.inside.most (removed_here c) room
    (HasHolders-remove c.self.inside.rows c.try_remove.new.self c.self.inside.held.items c.in-Some.key c.self.invariant.2 c.try_remove.ensures.updates c.try_remove.ensures.capacity)

pub returns : goal.returns
returns c =
    rw (← c.self.view_is)
    (whole_view c.try_remove.new.self c.remove-2.new.self c.remove.new.self.items c.recount.new.counts (with_state c.args.a.0 nobody (rows_under c.self.inside.rows c.self.inside.order.items)) c.self.inside.most (removed_here c))
