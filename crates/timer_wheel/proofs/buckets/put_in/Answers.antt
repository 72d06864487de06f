use Rattle.std.proofs.Common.{Some, sym, subst}
use Rattle.slab.specs.Slab.{Slab, Updates}
use Rattle.timer_wheel.specs.declared.armed.Armed.{Armed}
use Rattle.timer_wheel.specs.Kept.{IsWired}
use Rattle.timer_wheel.specs.Searches.{GoesBehind}
use Rattle.timer_wheel.proofs.Keeping.{IsAdded, wired_added, node_in}
use Rattle.timer_wheel.proofs.Renewing.{rows_all}
use Rattle.timer_wheel.proofs.buckets.put_in.Goals as goal

pub gap_for-gap-requires-clause-wired : goal.gap_for-gap-requires-clause-wired
gap_for-gap-requires-clause-wired c =
    subst (λ linked. IsWired linked c.args.rings.now.later.items c.args.rings.now.earlier.items) (sym (rows_all c.args.armed.address.0 c.args.rows.now c.requires.absent)) c.requires.wired

-- the place among all rows
goes : (c : goal.After-link-arg-1) → GoesBehind c.args.rows.now.slots c.args.rings.now.later.items c.args.armed c.gap_for-gap.result.before
goes c =
    subst (λ (linked : Slab Armed). GoesBehind linked.slots c.args.rings.now.later.items c.args.armed c.gap_for-gap.result.before) (rows_all c.args.armed.address.0 c.args.rows.now c.requires.absent) c.gap_for-gap.ensures.before

pub link-requires-clause-before : goal.link-requires-clause-before
link-requires-clause-before c = (node_in c.args.rows.now c.args.rings.now.later.items c.args.rings.now.earlier.items c.gap_for-gap.result.before c.requires.wired (goes c).there).in_later

pub link-requires-clause-behind : goal.link-requires-clause-behind
link-requires-clause-behind c = rw c.gap_for-gap.ensures.behind ((node_in c.args.rows.now c.args.rings.now.later.items c.args.rings.now.earlier.items c.gap_for-gap.result.before c.requires.wired (goes c).there).behind)

pub returns-clause-wired : goal.returns-clause-wired
returns-clause-wired c =
    let behind : GoesBehind c.args.rows.now.slots c.args.rings.now.later.items c.args.armed c.gap_for-gap.result.before =
    subst (λ (linked : Slab Armed). GoesBehind linked.slots c.args.rings.now.later.items c.args.armed c.gap_for-gap.result.before) (rows_all c.args.armed.address.0 c.args.rows.now c.requires.absent) c.gap_for-gap.ensures.before in
    let added : IsAdded c.args.rows.now c.insert_reserved-key.new.self c.insert_reserved-key.result c.args.armed =
    record {
      empty = c.insert_reserved-key.ensures.was_vacant;
      updates = subst (λ (row : Armed). Updates c.args.rows.now c.insert_reserved-key.new.self c.insert_reserved-key.result (Some row)) c.of.ensures c.insert_reserved-key.ensures.updates;
      len = c.insert_reserved-key.ensures.len;
      capacity = c.insert_reserved-key.ensures.capacity;
      absent = c.requires.absent;
    } in
    let wired = wired_added c.args.rows.now c.insert_reserved-key.new.self c.args.rings.now.later.items c.args.rings.now.earlier.items c.insert_reserved-key.result c.gap_for-gap.result.before c.args.armed added c.insert_reserved-key.ensures.key_in_range c.requires.fits behind c.requires.wired in
    rw (c.link.ensures.later, c.link.ensures.earlier, c.gap_for-gap.ensures.behind) wired
