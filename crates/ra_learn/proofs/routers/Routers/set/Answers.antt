use Rattle.std.proofs.Common.{◌≤◌, ◌<◌, not, length, arith, sym, ◌∙◌, ap}
use Rattle.ra_learn.specs.Ordered.{left_beside}
use Rattle.ra_learn.specs.Tables.{router_before, router_stands}
use Rattle.ra_learn.proofs.Placing.{left_ordered, left_others, left_fewer, placed_ordered, sets_none, sets_full, sets_placed, many_full, many_placed}
use Rattle.ra_learn.proofs.Orders.{routers_ordered}
use Rattle.ra_learn.proofs.routers.Routers.set.Goals as goal

pub invariant_of-self : goal.invariant_of-self
invariant_of-self c =
    let fewer = left_fewer router_before (router_stands c.args.t) c.args.router c.self.inside.routers.items in
    rw c.keep_others.ensures.items (
      left_ordered router_before (router_stands c.args.t) c.args.router c.self.inside.routers.items c.self.invariant.0,
      omega (arith, fewer, c.self.invariant.1),
      omega (arith, c.keep_others.ensures.capacity, c.self.invariant.2),
    )

pub returns-then-not-stands-clause-entries : goal.returns-then-not-stands-clause-entries
returns-then-not-stands-clause-entries c =
    rw (c.keep_others.ensures.items, ← c.self.view_is) (sym (sets_none 64 router_before (router_stands c.args.t) c.args.router c.self.inside.routers.items (sym c.stands.ensures ∙ c.if-not-stands.true)))

pub invariant_of-self-then-len-ge-ROUTERS_MOST : goal.invariant_of-self-then-len-ge-ROUTERS_MOST
invariant_of-self-then-len-ge-ROUTERS_MOST c =
    let fewer = left_fewer router_before (router_stands c.args.t) c.args.router c.self.inside.routers.items in
    rw c.keep_others.ensures.items (
      left_ordered router_before (router_stands c.args.t) c.args.router c.self.inside.routers.items c.self.invariant.0,
      omega (arith, fewer, c.self.invariant.1),
      omega (arith, c.keep_others.ensures.capacity, c.self.invariant.2),
    )

pub returns-then-len-ge-ROUTERS_MOST-clause-entries : goal.returns-then-len-ge-ROUTERS_MOST-clause-entries
returns-then-len-ge-ROUTERS_MOST-clause-entries c =
    let full : 64 ≤ length (left_beside router_before (router_stands c.args.t) c.args.router c.self.inside.routers.items) = omega (arith, c.if-len-ge-ROUTERS_MOST.true, c.len.ensures, ap length c.keep_others.ensures.items) in
    rw (c.keep_others.ensures.items, ← c.self.view_is) (sym (sets_full 64 router_before (router_stands c.args.t) c.args.router c.self.inside.routers.items full))

pub returns-then-len-ge-ROUTERS_MOST-clause-room : goal.returns-then-len-ge-ROUTERS_MOST-clause-room
returns-then-len-ge-ROUTERS_MOST-clause-room c =
    let full : 64 ≤ length (left_beside router_before (router_stands c.args.t) c.args.router c.self.inside.routers.items) = omega (arith, c.if-len-ge-ROUTERS_MOST.true, c.len.ensures, ap length c.keep_others.ensures.items) in
    rw (← c.self.view_is) (sym (ap not (many_full 64 router_before (router_stands c.args.t) c.args.router c.self.inside.routers.items (sym c.stands.ensures ∙ c.if-not-stands.false) full)))

pub place-requires : goal.place-requires
place-requires c =
    rw c.keep_others.ensures.items (record {
      ordered = left_ordered router_before (router_stands c.args.t) c.args.router c.self.inside.routers.items c.self.invariant.0;
      others = left_others router_before (router_stands c.args.t) c.args.router c.self.inside.routers.items;
      room = omega (arith, c.if-len-ge-ROUTERS_MOST.false, c.len.ensures, ap length c.keep_others.ensures.items, c.keep_others.ensures.capacity, c.self.invariant.2);
    })

pub invariant_of-self-2 : goal.invariant_of-self-2
invariant_of-self-2 c =
    let left = left_beside router_before (router_stands c.args.t) c.args.router c.self.inside.routers.items in
    let ordered = placed_ordered router_before routers_ordered c.args.router left (left_ordered router_before (router_stands c.args.t) c.args.router c.self.inside.routers.items c.self.invariant.0) in
    let few : length c.place.new.routers.items ≤ 64 = omega (arith, c.place.ensures.len, c.if-len-ge-ROUTERS_MOST.false, c.len.ensures) in (
      rw (c.place.ensures.items, c.keep_others.ensures.items) ordered,
      few,
      omega (arith, c.place.ensures.capacity, c.keep_others.ensures.capacity, c.self.invariant.2),
    )

pub returns-clause-entries : goal.returns-clause-entries
returns-clause-entries c =
    let room : length (left_beside router_before (router_stands c.args.t) c.args.router c.self.inside.routers.items) < 64 = omega (arith, c.if-len-ge-ROUTERS_MOST.false, c.len.ensures, ap length c.keep_others.ensures.items) in
    rw (c.place.ensures.items, c.keep_others.ensures.items, ← c.self.view_is) (sym (sets_placed 64 router_before (router_stands c.args.t) c.args.router c.self.inside.routers.items (sym c.stands.ensures ∙ c.if-not-stands.false) room))

pub returns-clause-room : goal.returns-clause-room
returns-clause-room c =
    let room : length (left_beside router_before (router_stands c.args.t) c.args.router c.self.inside.routers.items) < 64 = omega (arith, c.if-len-ge-ROUTERS_MOST.false, c.len.ensures, ap length c.keep_others.ensures.items) in
    rw (← c.self.view_is) (sym (ap not (many_placed 64 router_before (router_stands c.args.t) c.args.router c.self.inside.routers.items room)))
