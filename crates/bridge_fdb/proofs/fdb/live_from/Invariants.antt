use Rattle.std.proofs.Common.{◌≡◌, ◌≤◌, drop}
use Rattle.bridge_fdb.specs.Stations.{live_at}
use Rattle.bridge_fdb.specs.Kept.{listed}
use Rattle.bridge_fdb.proofs.fdb.live_from.Given as goal

abbrev pub invariant-loop-at : goal.invariant-loop-at
invariant-loop-at l = record {
  ahead : l.from ≤ l.at;
  ended : live_at l.t (drop l.from (listed l.kept)) ≡ live_at l.t (drop l.at (listed l.kept));
}
