use Rattle.std.proofs.Common.{ℕ, ◌≤◌, ◌<◌}
use Rattle.bridge_fdb.specs.Kept.{LivesUntil, in_slot}
use Rattle.bridge_fdb.proofs.kept.Kept.find_free_within.Given as goal

abbrev pub invariant-loop-slot : goal.invariant-loop-slot
invariant-loop-slot l = (l.t < l.end) × ((k : ℕ) → l.from ≤ k → k < l.slot → LivesUntil l.end (in_slot l.self.stations.items k))
