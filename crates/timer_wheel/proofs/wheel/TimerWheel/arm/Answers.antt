use Rattle.std.proofs.Common.{◌≡◌, min, Some, sym, subst, ap, ◌∙◌, arith}
use Rattle.timer_wheel.specs.Arms.{Wheel, with_due}
use Rattle.timer_wheel.specs.Rings.{slice_of}
use Rattle.timer_wheel.specs.Kept.{IsKept, HasRow}
use Rattle.timer_wheel.proofs.Slots.{arms_added}
use Rattle.timer_wheel.proofs.Keeping.{IsDropped, IsAdded, adds_row, kept_added, kept_renewed, arms_renewed, one_each, no_row, none_due, room_for}
use Rattle.timer_wheel.proofs.Renewing.{IsRowOf, left_by, dropped_left, added_left}
use Rattle.timer_wheel.proofs.wheel.TimerWheel.arm.Goals.{After-renew, After-insert}
use Rattle.timer_wheel.proofs.wheel.TimerWheel.arm.Goals as goal

pub renew-requires-clause-there : goal.renew-requires-clause-there
renew-requires-clause-there c = c.self.invariant.indexed.told c.args.a.0 c.in-Some.key (sym c.in-Some.ensures)

pub renew-requires-clause-alone : goal.renew-requires-clause-alone
renew-requires-clause-alone c other x found same =
    let has : HasRow c.self.inside.rows.slots c.in-Some.key c.args.a.0 = c.self.invariant.indexed.told c.args.a.0 c.in-Some.key (sym c.in-Some.ensures) in
    one_each c.self.inside.rows c.self.inside.index c.self.invariant.indexed other c.in-Some.key x has.armed found has.there (same ∙ sym has.address)

-- the row that was armed for the address
row : (c : After-renew) → IsRowOf c.self.inside.rows c.in-Some.key c.args.a.0
row c =
    let has : HasRow c.self.inside.rows.slots c.in-Some.key c.args.a.0 = c.self.invariant.indexed.told c.args.a.0 c.in-Some.key (sym c.in-Some.ensures) in
    record { row = has; alone = λ k x found same. one_each c.self.inside.rows c.self.inside.index c.self.invariant.indexed k c.in-Some.key x has.armed found has.there (same ∙ sym has.address) }

dropped : (c : After-renew) → IsDropped c.self.inside.rows (left_by c.self.inside.rows c.in-Some.key) c.in-Some.key (row c).row.armed
dropped c = dropped_left c.self.inside.rows c.in-Some.key (row c).row.armed (row c).row.there

renewed : (c : After-renew) → IsAdded (left_by c.self.inside.rows c.in-Some.key) c.renew.new.rows c.in-Some.key (record { address = c.args.a; due = c.args.due })
renewed c = added_left c.self.inside.rows c.renew.new.rows c.in-Some.key (row c).row.armed (record { address = c.args.a; due = c.args.due }) (row c).row.there c.renew.ensures.updates c.renew.ensures.len c.renew.ensures.capacity (row c).alone

pub invariant_of-self : goal.invariant_of-self
invariant_of-self c =
    let cursor : c.min-self-inside.result ≡ min c.self.inside.cursor (slice_of (record { address = c.args.a; due = c.args.due })) = c.min-self-inside.ensures ∙ ap (min c.self.inside.cursor) c.slice.ensures in
    subst (λ n. IsKept c.renew.new.rows c.self.inside.index c.renew.new.rings.later.items c.renew.new.rings.earlier.items n c.self.inside.most) (sym cursor)
    (kept_renewed c.self.inside.rows (left_by c.self.inside.rows c.in-Some.key) c.renew.new.rows c.self.inside.index c.self.inside.rings.later.items c.renew.new.rings.later.items c.self.inside.rings.earlier.items c.renew.new.rings.earlier.items c.self.inside.cursor c.self.inside.most c.in-Some.key (row c).row.armed (record { address = c.args.a; due = c.args.due }) (dropped c) (renewed c)
    (row c).row.address c.renew.ensures.wired c.self.invariant)

pub returns-in-Some : goal.returns-in-Some
returns-in-Some c =
    ap (λ xs. record { arms = xs; most = c.self.inside.most })
    (arms_renewed c.self.inside.rows (left_by c.self.inside.rows c.in-Some.key) c.renew.new.rows c.self.inside.index c.in-Some.key (row c).row.armed (record { address = c.args.a; due = c.args.due }) (dropped c) (renewed c) (row c).row.address c.self.invariant.indexed)
    ∙ ap (λ (w : Wheel). record { arms = with_due c.args.a.0 (Some c.args.due) w.arms; most = w.most }) c.self.view_is

pub put_in-key-requires-clause-room : goal.put_in-key-requires-clause-room
put_in-key-requires-clause-room c =
    omega (
      arith,
      room_for c.self.inside.rows c.self.inside.index c.self.inside.rings.later.items c.self.inside.rings.earlier.items c.self.inside.cursor c.self.inside.most c.args.a.0 c.args.self.now c.self.invariant c.self.view_is (sym c.in-None.ensures) c.requires,
      c.self.invariant.room.row_room,
    )

pub insert-requires-clause-room : goal.insert-requires-clause-room
insert-requires-clause-room c =
    omega (
      arith,
      room_for c.self.inside.rows c.self.inside.index c.self.inside.rings.later.items c.self.inside.rings.earlier.items c.self.inside.cursor c.self.inside.most c.args.a.0 c.args.self.now c.self.invariant c.self.view_is (sym c.in-None.ensures) c.requires,
      c.self.invariant.room.index_room,
      c.self.invariant.indexed.count,
    )

-- the row of an address that had none
added : (c : After-insert) → IsAdded c.self.inside.rows c.put_in-key.new.rows c.put_in-key.result (record { address = c.args.a; due = c.args.due })
added c = record {
  empty = c.put_in-key.ensures.vacant;
  updates = c.put_in-key.ensures.updates;
  len = c.put_in-key.ensures.len;
  capacity = c.put_in-key.ensures.capacity;
  absent = no_row c.self.inside.rows.slots c.args.a.0 (one_each c.self.inside.rows c.self.inside.index c.self.invariant.indexed) (none_due c.self.inside.rows c.self.inside.index c.args.a.0 c.self.invariant.indexed (sym c.in-None.ensures));
}

pub invariant_of-self-in-None : goal.invariant_of-self-in-None
invariant_of-self-in-None c =
    let cursor : c.min-self-inside.result ≡ min c.self.inside.cursor (slice_of (record { address = c.args.a; due = c.args.due })) = c.min-self-inside.ensures ∙ ap (min c.self.inside.cursor) c.slice.ensures in
    subst (λ n. IsKept c.put_in-key.new.rows c.insert.new.self c.put_in-key.new.rings.later.items c.put_in-key.new.rings.earlier.items n c.self.inside.most) (sym cursor)
    (kept_added c.self.inside.rows c.put_in-key.new.rows c.self.inside.index c.insert.new.self c.self.inside.rings.later.items c.put_in-key.new.rings.later.items c.self.inside.rings.earlier.items c.put_in-key.new.rings.earlier.items c.self.inside.cursor c.self.inside.most c.put_in-key.result (record { address = c.args.a; due = c.args.due }) (added c)
    c.put_in-key.ensures.wired c.insert.ensures.keys c.insert.ensures.len c.insert.ensures.most
    (room_for c.self.inside.rows c.self.inside.index c.self.inside.rings.later.items c.self.inside.rings.earlier.items c.self.inside.cursor c.self.inside.most c.args.a.0 c.args.self.now c.self.invariant c.self.view_is (sym c.in-None.ensures) c.requires) c.self.invariant)

pub returns-in-None : goal.returns-in-None
returns-in-None c =
    ap (λ xs. record { arms = xs; most = c.self.inside.most })
    (arms_added c.self.inside.rows.slots c.put_in-key.new.rows.slots c.put_in-key.result (record { address = c.args.a; due = c.args.due }) (adds_row c.self.inside.rows c.put_in-key.new.rows c.put_in-key.result (record { address = c.args.a; due = c.args.due }) (added c)) (one_each c.self.inside.rows c.self.inside.index c.self.invariant.indexed))
    ∙ ap (λ (w : Wheel). record { arms = with_due c.args.a.0 (Some c.args.due) w.arms; most = w.most }) c.self.view_is
