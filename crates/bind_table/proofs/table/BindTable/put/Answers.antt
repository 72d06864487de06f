use Rattle.std.proofs.Common.{◌≡◌, ◌<◌, List, Some, None, refl, length, get_or, vec_capacity, sym, ◌∙◌, subst, arith}
use Rattle.std.proofs.Math.ListN.{set}
use Rattle.slab.specs.Slab.{Slab, get, Updates}
use Rattle.addr_index.specs.Indexes.{key_in}
use Rattle.savi_kinds.specs.PortSets.{no_ports}
use Rattle.mix_rules.specs.States.{nobody}
use Rattle.savi_access.specs.declared.row.Row.{Row}
use Rattle.savi_access.specs.Rows.{state_in, address_row, with_state}
use Rattle.bind_table.specs.Places.{count_below}
use Rattle.bind_table.specs.Counts.{AreHolders}
use Rattle.bind_table.specs.Kept.{rows_under, IsKept, HasRoom, HasPorts, HasHolders}
use Rattle.bind_table.proofs.Keys.{keys_length}
use Rattle.bind_table.proofs.KeptChanges.{row_by_key, renewed, inserted}
use Rattle.bind_table.proofs.Holders.{read_ports, ports_of, ports_least, recounted_by, nobody_held, HasHolders-put}
use Rattle.bind_table.proofs.Tables.{whole_kept, whole_view, room_left, place_within}
use Rattle.bind_table.proofs.table.BindTable.put.Goals as goal

pub index-requires : goal.index-requires
index-requires c = omega (arith, (ports_of c.self.inside.rows c.self.inside.index c.self.inside.order.items c.self.inside.counts (rows_under c.self.inside.rows c.self.inside.order.items) c.self.inside.held.items c.args.a.0 c.in-Some.key c.self.invariant.0 c.self.invariant.2 (sym c.in-Some.ensures)).within, c.self.inside.held.ok.0)

pub index_mut-requires : goal.index_mut-requires
index_mut-requires c = omega (arith, (ports_of c.self.inside.rows c.self.inside.index c.self.inside.order.items c.self.inside.counts (rows_under c.self.inside.rows c.self.inside.order.items) c.self.inside.held.items c.args.a.0 c.in-Some.key c.self.invariant.0 c.self.invariant.2 (sym c.in-Some.ensures)).within, c.self.inside.held.ok.0)

pub recount-requires-clause-least : goal.recount-requires-clause-least
recount-requires-clause-least c =
    let there : HasPorts c.self.inside.held.items c.in-Some.key (state_in (rows_under c.self.inside.rows c.self.inside.order.items) c.args.a.0) = ports_of c.self.inside.rows c.self.inside.index c.self.inside.order.items c.self.inside.counts (rows_under c.self.inside.rows c.self.inside.order.items) c.self.inside.held.items c.args.a.0 c.in-Some.key c.self.invariant.0 c.self.invariant.2 (sym c.in-Some.ensures) in
    ports_least c.self.inside.rows c.self.inside.index c.self.inside.order.items c.self.inside.counts (rows_under c.self.inside.rows c.self.inside.order.items) c.self.inside.held.items c.args.a.0 c.in-Some.key c.index.result.now c.self.invariant.0 c.self.invariant.2 (sym c.in-Some.ensures) (read_ports c.self.inside.held.items c.in-Some.key c.index.result.now there.within c.index.ensures)

pub renew-requires : goal.renew-requires
renew-requires c = rw (row_by_key c.self.inside.rows c.self.inside.index c.self.inside.order.items c.self.inside.counts (rows_under c.self.inside.rows c.self.inside.order.items) c.args.a.0 c.in-Some.key c.self.invariant.0 (sym c.in-Some.ensures)) refl

updates : (c : goal.After-renew) → Updates c.self.inside.rows c.renew.new.rows c.in-Some.key (Some (address_row c.args.a.0 c.args.s))
updates c = c.renew.ensures.updates (address_row c.args.a.0 (state_in (rows_under c.self.inside.rows c.self.inside.order.items) c.args.a.0)) (row_by_key c.self.inside.rows c.self.inside.index c.self.inside.order.items c.self.inside.counts (rows_under c.self.inside.rows c.self.inside.order.items) c.args.a.0 c.in-Some.key c.self.invariant.0 (sym c.in-Some.ensures))

renewed_here : (c : goal.After-renew) → IsKept c.renew.new.rows c.self.inside.index c.self.inside.order.items c.recount.new.counts (with_state c.args.a.0 c.args.s (rows_under c.self.inside.rows c.self.inside.order.items))
renewed_here c =
    let rows : List Row = rows_under c.self.inside.rows c.self.inside.order.items in
    let is : key_in c.self.inside.index c.args.a.0 ≡ Some c.in-Some.key = sym c.in-Some.ensures in
    let there : HasPorts c.self.inside.held.items c.in-Some.key (state_in rows c.args.a.0) = ports_of c.self.inside.rows c.self.inside.index c.self.inside.order.items c.self.inside.counts (rows_under c.self.inside.rows c.self.inside.order.items) c.self.inside.held.items c.args.a.0 c.in-Some.key c.self.invariant.0 c.self.invariant.2 is in
    let same : c.index.result.now ≡ get_or c.self.inside.held.items c.in-Some.key no_ports = read_ports c.self.inside.held.items c.in-Some.key c.index.result.now there.within c.index.ensures in
    let left : AreHolders (state_in rows c.args.a.0) c.index.result.now = subst (AreHolders (state_in rows c.args.a.0)) (sym same) there.are in
    renewed c.self.inside.rows c.renew.new.rows c.self.inside.index c.self.inside.order.items c.self.inside.counts c.recount.new.counts rows c.args.a.0 c.in-Some.key c.args.s c.self.invariant.0 is c.requires.state (updates c) c.renew.ensures.len
    (recounted_by c.index.result.now c.holders-came.result (state_in rows c.args.a.0) c.args.s c.self.inside.counts c.recount.new.counts left c.holders-came.ensures c.recount.ensures)

holders_renewed : (c : goal.After-renew) → HasHolders c.renew.new.rows (set c.self.inside.held.items c.in-Some.key c.holders-came.result)
holders_renewed c =
    let there : HasPorts c.self.inside.held.items c.in-Some.key (state_in (rows_under c.self.inside.rows c.self.inside.order.items) c.args.a.0) = ports_of c.self.inside.rows c.self.inside.index c.self.inside.order.items c.self.inside.counts (rows_under c.self.inside.rows c.self.inside.order.items) c.self.inside.held.items c.args.a.0 c.in-Some.key c.self.invariant.0 c.self.invariant.2 (sym c.in-Some.ensures) in
    HasHolders-put c.self.inside.rows c.renew.new.rows c.self.inside.held.items c.in-Some.key c.args.a.0 c.args.s c.holders-came.result c.self.invariant.2 (updates c) c.renew.ensures.capacity there.within c.holders-came.ensures

pub invariant_of-self : goal.invariant_of-self
invariant_of-self c =
    let rows : List Row = rows_under c.self.inside.rows c.self.inside.order.items in
    let now : List Row = with_state c.args.a.0 c.args.s rows in
    let size : length now ≡ length rows = sym (renewed_here c).index_size ∙ c.self.invariant.0.index_size in
    let room : HasRoom c.renew.new.rows c.self.inside.index (vec_capacity c.self.inside.order) c.self.inside.most (length now) = record {
      within = omega (arith, size, c.self.invariant.1.within);
      slab_room = omega (arith, c.renew.ensures.capacity, c.self.invariant.1.slab_room);
      index_room = c.self.invariant.1.index_room;
      order_room = c.self.invariant.1.order_room;
      limit = c.self.invariant.1.limit;
      narrow = omega (arith, c.renew.ensures.capacity, c.self.invariant.1.narrow);
    } in
    whole_kept c.renew.new.rows c.self.inside.index c.self.inside.order.items c.recount.new.counts now (set c.self.inside.held.items c.in-Some.key c.holders-came.result) (vec_capacity c.self.inside.order) c.self.inside.most (renewed_here c) room (holders_renewed c)

pub insert_reserved-key-requires : goal.insert_reserved-key-requires
insert_reserved-key-requires c =
    let left : length (rows_under c.self.inside.rows c.self.inside.order.items) < c.self.inside.most = room_left c.self.inside.rows c.self.inside.index c.self.inside.order.items c.self.inside.counts c.args.self.now c.args.a.0 c.self.inside.most c.self.view_is c.self.invariant.0 (sym c.in-None.ensures) c.requires.room in
    omega (arith, left, c.self.invariant.0.slab_size, c.self.invariant.1.slab_room)

pub insert-requires-clause-place : goal.insert-requires-clause-place
insert-requires-clause-place c =
    let place : c.count_lower-at.result ≡ count_below c.args.a.0 (rows_under c.self.inside.rows c.self.inside.order.items) = rw (← c.as_slice.ensures.value) c.count_lower-at.ensures in
    place_within c.self.inside.rows c.self.inside.index c.self.inside.order.items c.self.inside.counts (rows_under c.self.inside.rows c.self.inside.order.items) c.args.a.0 c.count_lower-at.result c.self.invariant.0 (sym c.in-None.ensures) place

pub insert-requires-clause-room : goal.insert-requires-clause-room
insert-requires-clause-room c =
    let rows : List Row = rows_under c.self.inside.rows c.self.inside.order.items in
    let left : length rows < c.self.inside.most = room_left c.self.inside.rows c.self.inside.index c.self.inside.order.items c.self.inside.counts c.args.self.now c.args.a.0 c.self.inside.most c.self.view_is c.self.invariant.0 (sym c.in-None.ensures) c.requires.room in
    omega (arith, left, keys_length (get c.self.inside.rows) c.self.inside.order.items rows c.self.invariant.0.told, c.self.invariant.1.order_room)

pub insert-requires-in-None-clause-room : goal.insert-requires-in-None-clause-room
insert-requires-in-None-clause-room c =
    let left : length (rows_under c.self.inside.rows c.self.inside.order.items) < c.self.inside.most = room_left c.self.inside.rows c.self.inside.index c.self.inside.order.items c.self.inside.counts c.args.self.now c.args.a.0 c.self.inside.most c.self.view_is c.self.invariant.0 (sym c.in-None.ensures) c.requires.room in
    omega (arith, left, c.self.invariant.0.index_size, c.self.invariant.1.index_room)

inserted_here : (c : goal.After-recount-in-None) → IsKept c.insert_reserved-key.new.self c.insert-in-None.new.self c.insert.new.keys.items c.recount-in-None.new.counts (with_state c.args.a.0 c.args.s (rows_under c.self.inside.rows c.self.inside.order.items))
inserted_here c =
    let slab : Slab Row = c.self.inside.rows in
    let rows : List Row = rows_under c.self.inside.rows c.self.inside.order.items in
    let is : key_in c.self.inside.index c.args.a.0 ≡ None = sym c.in-None.ensures in
    let place : c.count_lower-at.result ≡ count_below c.args.a.0 rows = rw (← c.as_slice.ensures.value) c.count_lower-at.ensures in
    let none : AreHolders nobody c.empty.result = subst (AreHolders nobody) (sym c.empty.ensures) nobody_held in
    rw c.insert.ensures.items
    (inserted c.self.inside.rows c.insert_reserved-key.new.self c.self.inside.index c.insert-in-None.new.self c.self.inside.order.items c.self.inside.counts c.recount-in-None.new.counts rows c.args.a.0 c.insert_reserved-key.result c.count_lower-at.result c.args.s c.self.invariant.0 is place c.requires.state c.insert_reserved-key.ensures.was_vacant c.insert_reserved-key.ensures.updates c.insert_reserved-key.ensures.len c.insert-in-None.ensures.keys c.insert-in-None.ensures.len
    (recounted_by c.empty.result c.holders-came.result nobody c.args.s c.self.inside.counts c.recount-in-None.new.counts none c.holders-came.ensures c.recount-in-None.ensures))

holders_inserted : (c : goal.After-recount-in-None) → HasHolders c.insert_reserved-key.new.self (set c.self.inside.held.items c.insert_reserved-key.result c.holders-came.result)
holders_inserted c =
    HasHolders-put c.self.inside.rows c.insert_reserved-key.new.self c.self.inside.held.items c.insert_reserved-key.result c.args.a.0 c.args.s c.holders-came.result c.self.invariant.2 c.insert_reserved-key.ensures.updates c.insert_reserved-key.ensures.capacity
    (omega (arith, c.insert_reserved-key.ensures.key_in_range, c.insert_reserved-key.ensures.capacity, c.self.invariant.2.room)) c.holders-came.ensures

pub invariant_of-self-in-None : goal.invariant_of-self-in-None
invariant_of-self-in-None c =
    let rows : List Row = rows_under c.self.inside.rows c.self.inside.order.items in
    let now : List Row = with_state c.args.a.0 c.args.s rows in
    let left : length rows < c.self.inside.most = room_left c.self.inside.rows c.self.inside.index c.self.inside.order.items c.self.inside.counts c.args.self.now c.args.a.0 c.self.inside.most c.self.view_is c.self.invariant.0 (sym c.in-None.ensures) c.requires.room in
    let room : HasRoom c.insert_reserved-key.new.self c.insert-in-None.new.self (vec_capacity c.insert.new.keys) c.self.inside.most (length now) = record {
      within = omega (arith, (inserted_here c).index_size, c.insert-in-None.ensures.len, c.self.invariant.0.index_size, left);
      slab_room = omega (arith, c.insert_reserved-key.ensures.capacity, c.self.invariant.1.slab_room);
      index_room = omega (arith, c.insert-in-None.ensures.most, c.self.invariant.1.index_room);
      order_room = omega (arith, c.insert.ensures.capacity, c.self.invariant.1.order_room);
      limit = c.self.invariant.1.limit;
      narrow = omega (arith, c.insert_reserved-key.ensures.capacity, c.self.invariant.1.narrow);
    } in
    whole_kept c.insert_reserved-key.new.self c.insert-in-None.new.self c.insert.new.keys.items c.recount-in-None.new.counts now (set c.self.inside.held.items c.insert_reserved-key.result c.holders-came.result) (vec_capacity c.insert.new.keys) c.self.inside.most (inserted_here c) room (holders_inserted c)

pub index_mut-requires-in-None : goal.index_mut-requires-in-None
index_mut-requires-in-None c = omega (arith, c.insert_reserved-key.ensures.key_in_range, c.insert_reserved-key.ensures.capacity, c.self.invariant.2.room, c.self.inside.held.ok.0)

pub returns-in-Some : goal.returns-in-Some
returns-in-Some c =
    rw (← c.self.view_is)
    (whole_view c.renew.new.rows c.self.inside.index c.self.inside.order.items c.recount.new.counts (with_state c.args.a.0 c.args.s (rows_under c.self.inside.rows c.self.inside.order.items)) c.self.inside.most (renewed_here c))

pub returns-in-None : goal.returns-in-None
returns-in-None c =
    rw (← c.self.view_is)
    (whole_view c.insert_reserved-key.new.self c.insert-in-None.new.self c.insert.new.keys.items c.recount-in-None.new.counts (with_state c.args.a.0 c.args.s (rows_under c.self.inside.rows c.self.inside.order.items)) c.self.inside.most (inserted_here c))
