use Rattle.std.proofs.Common.{◌≡◌, ◌+◌, Some, subst, ◌∙◌}
use Rattle.std.specs.Option.{OnSome}
use Rattle.slab.specs.Slab.{slab_len}
use Rattle.timer_wheel.specs.declared.armed.Armed.{Armed}
use Rattle.timer_wheel.specs.Rows.{armed_at}
use Rattle.timer_wheel.proofs.Keeping.{IsDropped, row_there, row_in, wired_dropped}
use Rattle.timer_wheel.proofs.buckets.take_out.Goals as goal

pub unlink-requires-clause-after : goal.unlink-requires-clause-after
unlink-requires-clause-after c =
    let row : (x : Armed) × (armed_at c.args.rows.now.slots c.args.key ≡ Some x) = row_there (armed_at c.args.rows.now.slots c.args.key) c.requires.there in
    (row_in c.args.rows.now c.args.rings.now.later.items c.args.rings.now.earlier.items c.args.key row.0 c.requires.wired row.1).behind

pub returns-clause-wired : goal.returns-clause-wired
returns-clause-wired c =
    let row : (x : Armed) × (armed_at c.args.rows.now.slots c.args.key ≡ Some x) = row_there (armed_at c.args.rows.now.slots c.args.key) c.requires.there in
    let dropped : IsDropped c.args.rows.now c.try_remove.new.self c.args.key row.0 =
    record {
      there = row.1;
      updates = c.try_remove.ensures.updates;
      len = subst (λ o. OnSome o (slab_len c.try_remove.new.self + 1 ≡ slab_len c.args.rows.now)) (c.try_remove.ensures.value ∙ row.1) c.try_remove.ensures.len;
      capacity = c.try_remove.ensures.capacity;
    } in
    let wired = wired_dropped c.args.rows.now c.try_remove.new.self c.args.rings.now.later.items c.args.rings.now.earlier.items c.args.key row.0 dropped c.requires.wired in
    rw (c.unlink.ensures.later, c.unlink.ensures.earlier) wired
