use Rattle.std.proofs.Common.{◌<◌, arith}
use Rattle.timer_wheel.specs.Rows.{others_than}
use Rattle.timer_wheel.specs.Kept.{IsWired}
use Rattle.timer_wheel.proofs.Keeping.{IsAdded, node_in, row_in}
use Rattle.timer_wheel.proofs.Renewing.{IsRowOf, left_by, added_left, wired_others, wired_renewed}
use Rattle.timer_wheel.proofs.buckets.renew.Goals as goal

pub unlink-requires-clause-after : goal.unlink-requires-clause-after
unlink-requires-clause-after c = (row_in c.args.rows.now c.args.rings.now.later.items c.args.rings.now.earlier.items c.args.key c.requires.there.armed c.requires.wired c.requires.there.there).behind

pub gap_for-gap-requires-clause-wired : goal.gap_for-gap-requires-clause-wired
gap_for-gap-requires-clause-wired c =
    let wired = wired_others c.args.rows.now c.args.rings.now.later.items c.args.rings.now.earlier.items c.args.key c.args.armed.address.0 (record { row = c.requires.there; alone = c.requires.alone }) c.requires.wired in
    rw (c.unlink.ensures.later, c.unlink.ensures.earlier) wired

pub overflow_add-key-2 : goal.overflow_add-key-2
overflow_add-key-2 c =
    let within : c.args.key < c.args.rows.now.capacity = c.requires.wired.within c.args.key c.requires.there.armed c.requires.there.there in
    omega (arith, within, c.requires.wired.limit)

-- the row that is renewed
row : (c : goal.After-link-arg-1) → IsRowOf c.args.rows.now c.args.key c.args.armed.address.0
row c = record { row = c.requires.there; alone = c.requires.alone }

-- the others are linked
linked : (c : goal.After-link-arg-1) → IsWired (others_than c.args.armed.address.0 c.args.rows.now) c.unlink.new.self.later.items c.unlink.new.self.earlier.items
linked c =
    let wired = wired_others c.args.rows.now c.args.rings.now.later.items c.args.rings.now.earlier.items c.args.key c.args.armed.address.0 (row c) c.requires.wired in
    rw (c.unlink.ensures.later, c.unlink.ensures.earlier) wired

pub link-requires-clause-node : goal.link-requires-clause-node
link-requires-clause-node c =
    let within : c.args.key < c.args.rows.now.capacity = c.requires.wired.within c.args.key c.requires.there.armed c.requires.there.there in
    (omega (arith, within, (linked c).later_nodes), omega (arith, within, (linked c).earlier_nodes))

pub link-requires-clause-before : goal.link-requires-clause-before
link-requires-clause-before c = (node_in (others_than c.args.armed.address.0 c.args.rows.now) c.unlink.new.self.later.items c.unlink.new.self.earlier.items c.gap_for-gap.result.before (linked c) c.gap_for-gap.ensures.before.there).in_later

pub link-requires-clause-behind : goal.link-requires-clause-behind
link-requires-clause-behind c = rw c.gap_for-gap.ensures.behind ((node_in (others_than c.args.armed.address.0 c.args.rows.now) c.unlink.new.self.later.items c.unlink.new.self.earlier.items c.gap_for-gap.result.before (linked c) c.gap_for-gap.ensures.before.there).behind)

pub returns-clause-wired : goal.returns-clause-wired
returns-clause-wired c =
    let row : IsRowOf c.args.rows.now c.args.key c.args.armed.address.0 = record { row = c.requires.there; alone = c.requires.alone } in
    let others = wired_others c.args.rows.now c.args.rings.now.later.items c.args.rings.now.earlier.items c.args.key c.args.armed.address.0 row c.requires.wired in
    let linked : IsWired (others_than c.args.armed.address.0 c.args.rows.now) c.unlink.new.self.later.items c.unlink.new.self.earlier.items = rw (c.unlink.ensures.later, c.unlink.ensures.earlier) others in
    let added : IsAdded (left_by c.args.rows.now c.args.key) c.postpone.new.rows c.args.key c.args.armed = added_left c.args.rows.now c.postpone.new.rows c.args.key c.requires.there.armed c.args.armed c.requires.there.there c.postpone.ensures.updates c.postpone.ensures.len c.postpone.ensures.capacity c.requires.alone in
    let within : c.args.key < c.args.rows.now.capacity = c.requires.wired.within c.args.key c.requires.there.armed c.requires.there.there in
    let low : c.args.key < c.postpone.new.rows.capacity = omega (arith, within, c.postpone.ensures.capacity) in
    let wired = wired_renewed c.args.rows.now c.postpone.new.rows c.unlink.new.self.later.items c.unlink.new.self.earlier.items c.args.key c.gap_for-gap.result.before c.args.armed row added low c.requires.fits c.gap_for-gap.ensures.before linked in
    rw (c.link.ensures.later, c.link.ensures.earlier, c.gap_for-gap.ensures.behind) wired
