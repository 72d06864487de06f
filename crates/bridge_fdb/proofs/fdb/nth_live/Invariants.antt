use Rattle.std.proofs.Common.{◌≡◌, ◌+◌, take, count_by}
use Rattle.bridge_fdb.specs.Stations.{is_live}
use Rattle.bridge_fdb.specs.Kept.{listed}
use Rattle.bridge_fdb.proofs.fdb.nth_live.Given as goal

abbrev pub invariant-loop-at : goal.invariant-loop-at
invariant-loop-at l = l.left + count_by (is_live l.t) (take l.at (listed l.kept)) ≡ l.i
