use Rattle.std.proofs.Common.{◌≡◌, ◌++◌, ◌-◌, length}
use Rattle.bridge_fdb.specs.Stations.{rows_from}
use Rattle.state_rows.proofs.bridge_fdb_rows.rows.Given as goal

abbrev pub invariant-loop-next : goal.invariant-loop-next
invariant-loop-next l = l.rows.items ++ rows_from l.t l.from l.fdb ≡ rows_from l.t 0 l.fdb

abbrev pub decreases-loop-next : goal.decreases-loop-next
decreases-loop-next l = length l.fdb - l.from
