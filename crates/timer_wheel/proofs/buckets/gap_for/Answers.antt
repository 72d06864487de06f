use Rattle.std.proofs.Common.{◌≡◌, ◌≢◌, ◌+◌, ◌-◌, ◌%◌, ◌^◌, ◌<◌, ◌≤◌, ap, sym, ◌∙◌, subst, length, get_or, Some, arith}
use Rattle.std.proofs.lemmas.List.{get_or_default}
use Rattle.timer_wheel.specs.Rows.{armed_at, others_than}
use Rattle.timer_wheel.specs.Rings.{node_row, bucket_of, rank_of, rank_in, rank_at}
use Rattle.timer_wheel.proofs.Nodes.{node-end, node_within, row_key}
use Rattle.timer_wheel.proofs.Walks.{IsBelow, starts, goes_back, ranks_fall, sooner_rank, later_rank, same_rank}
use Rattle.timer_wheel.proofs.Renewing.{address_others, shown}
use Rattle.timer_wheel.proofs.buckets.gap_for.Goals as goal

pub loop-row-init : goal.loop-row-init
loop-row-init c =
    let bucket : c.slice.result % c.from.result ≡ bucket_of c.args.armed = ap (λ n. c.slice.result % n) c.from.ensures ∙ ap (λ n. n % 1024) c.slice.ensures in
    let bound : bucket_of c.args.armed < 1024 = omega arith in
    let low : c.slice.result % c.from.result < 1024 = omega (arith, bucket, bound) in
    let within : c.slice.result % c.from.result < length c.args.rings.now.earlier.items = omega (arith, low, c.requires.wired.earlier_nodes) in
    let read : c.index-before.result.now ≡ get_or c.args.rings.now.earlier.items (c.slice.result % c.from.result) 0 = c.index-before.ensures ∙ get_or_default c.args.rings.now.earlier.items (c.slice.result % c.from.result) c.index-before.result.now 0 within in
    record {
      below =
          subst (IsBelow (others_than c.args.armed.address.0 c.args.rows.now).slots c.args.rings.now.later.items c.args.armed) (sym read)
          (starts (others_than c.args.armed.address.0 c.args.rows.now).slots c.args.rings.now.later.items c.args.rings.now.earlier.items c.args.armed (c.slice.result % c.from.result) c.requires.wired.ringed bucket low);
      behind =
          sym
          (ap (λ n. get_or c.args.rings.now.later.items n 0) read
          ∙ c.requires.wired.ringed.forth (c.slice.result % c.from.result) (node-end (others_than c.args.armed.address.0 c.args.rows.now).slots (c.slice.result % c.from.result) low));
    }

-- the node's row
found : (c : goal.After-row_known-in-Some-2-1) → node_row (others_than c.args.armed.address.0 c.args.rows.now).slots c.loop-row.before ≡ Some c.in-Some.row
found c = sym (shown c.args.armed.address.0 c.args.rows.now.slots c.loop-row.before c.loop-row.invariant.below.there) ∙ sym c.in-Some.ensures

-- the node that is read
read : (c : goal.After-row_known-in-Some-2-1) → c.index-before-in-Some.result.now ≡ get_or c.args.rings.now.earlier.items c.loop-row.before 0
read c =
    let node : c.loop-row.before < 1024 + c.args.rows.now.capacity = node_within (others_than c.args.armed.address.0 c.args.rows.now) c.args.rings.now.later.items c.args.rings.now.earlier.items c.loop-row.before c.requires.wired c.loop-row.invariant.below.there in
    c.index-before-in-Some.ensures ∙ get_or_default c.args.rings.now.earlier.items c.loop-row.before c.index-before-in-Some.result.now 0 (omega (arith, node, c.requires.wired.earlier_nodes))

pub index-before-requires-in-Some : goal.index-before-requires-in-Some
index-before-requires-in-Some c =
    let node : c.loop-row.before < 1024 + c.args.rows.now.capacity = node_within (others_than c.args.armed.address.0 c.args.rows.now) c.args.rings.now.later.items c.args.rings.now.earlier.items c.loop-row.before c.requires.wired c.loop-row.invariant.below.there in
    omega (arith, node, c.requires.wired.earlier_nodes)

pub returns-then-is_before : goal.returns-then-is_before
returns-then-is_before c =
    let found : node_row (others_than c.args.armed.address.0 c.args.rows.now).slots c.loop-row.before ≡ Some c.in-Some.row = sym (shown c.args.armed.address.0 c.args.rows.now.slots c.loop-row.before c.loop-row.invariant.below.there) ∙ sym c.in-Some.ensures in
    let there : armed_at (others_than c.args.armed.address.0 c.args.rows.now).slots (c.loop-row.before - 1024) ≡ Some c.in-Some.row = (row_key (others_than c.args.armed.address.0 c.args.rows.now).slots c.loop-row.before c.in-Some.row found).1 in
    let row_fits : c.in-Some.row.address.0 < 2 ^ 128 = c.requires.wired.fits (c.loop-row.before - 1024) c.in-Some.row there in
    let lower : rank_of c.in-Some.row < rank_of c.args.armed = sooner_rank c.in-Some.row c.args.armed row_fits (sym c.if-is_before.ensures) in
    record {
      before = record { there = c.loop-row.invariant.below.there; bucket = c.loop-row.invariant.below.bucket; above = omega (arith, lower, ap rank_in found); below = c.loop-row.invariant.below.below };
      behind = c.loop-row.invariant.behind;
    }

pub loop-row-smaller : goal.loop-row-smaller
loop-row-smaller c =
    subst (λ node. rank_at (others_than c.args.armed.address.0 c.args.rows.now).slots node < rank_at (others_than c.args.armed.address.0 c.args.rows.now).slots c.loop-row.before) (sym (read c))
    (ranks_fall (others_than c.args.armed.address.0 c.args.rows.now).slots c.args.rings.now.later.items c.args.rings.now.earlier.items c.in-Some.row c.loop-row.before c.requires.wired.ringed c.loop-row.invariant.below.there (found c))

pub loop-row-preserved : goal.loop-row-preserved
loop-row-preserved c =
    let there : armed_at (others_than c.args.armed.address.0 c.args.rows.now).slots (c.loop-row.before - 1024) ≡ Some c.in-Some.row = (row_key (others_than c.args.armed.address.0 c.args.rows.now).slots c.loop-row.before c.in-Some.row (found c)).1 in
    let row_fits : c.in-Some.row.address.0 < 2 ^ 128 = c.requires.wired.fits (c.loop-row.before - 1024) c.in-Some.row there in
    let le : rank_of c.args.armed ≤ rank_of c.in-Some.row = later_rank c.in-Some.row c.args.armed c.requires.fits (sym c.if-is_before.ensures) in
    let ne : rank_of c.args.armed ≢ rank_of c.in-Some.row = λ same. address_others c.args.armed.address.0 c.args.rows.now.slots (c.loop-row.before - 1024) c.in-Some.row there (sym (same_rank c.args.armed c.in-Some.row c.requires.fits row_fits same)) in
    record {
      below =
          subst (IsBelow (others_than c.args.armed.address.0 c.args.rows.now).slots c.args.rings.now.later.items c.args.armed) (sym (read c))
          (goes_back (others_than c.args.armed.address.0 c.args.rows.now).slots c.args.rings.now.later.items c.args.rings.now.earlier.items c.args.armed c.in-Some.row c.loop-row.before c.requires.wired.ringed c.loop-row.invariant.below (found c) (omega (arith, le, ne)));
      behind = sym (ap (λ n. get_or c.args.rings.now.later.items n 0) (read c) ∙ c.requires.wired.ringed.forth c.loop-row.before c.loop-row.invariant.below.there);
    }
