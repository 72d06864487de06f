use Rattle.std.proofs.Common.{◌≡◌, get_or}
use Rattle.timer_wheel.specs.Rows.{others_than}
use Rattle.timer_wheel.specs.Rings.{rank_at}
use Rattle.timer_wheel.proofs.Walks.{IsBelow}
use Rattle.timer_wheel.proofs.buckets.gap_for.Given as goal

abbrev pub invariant-loop-row : goal.invariant-loop-row
invariant-loop-row l = record {
  below : IsBelow (others_than l.armed.address.0 l.rows).slots l.rings.later.items l.armed l.before;
  behind : l.behind ≡ get_or l.rings.later.items l.before 0;
}

abbrev pub decreases-loop-row : goal.decreases-loop-row
decreases-loop-row l = rank_at (others_than l.armed.address.0 l.rows).slots l.before
