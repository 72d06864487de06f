use Rattle.std.proofs.Common.{◌≡◌, ◌-◌, ◌≤◌, length, drop}
use Rattle.bridge_fdb.specs.Stations.{live_at}
use Rattle.savi_core.specs.Turns.{with_stations}
use Rattle.savi_core.proofs.Keeping.{each_of, with_left}
use Rattle.savi_core.proofs.turning.keep_stations_of.Given as goal

abbrev pub invariant-loop-station : goal.invariant-loop-station
invariant-loop-station l = record {
  kept : with_left l.vlan (live_at l.t (drop l.from l.fdb)) l.into ≡ with_stations (each_of l.vlan (live_at l.t l.fdb)) l.fn.into;
  within : l.from ≤ length l.fdb;
}

abbrev pub decreases-loop-station : goal.decreases-loop-station
decreases-loop-station l = length l.fdb - l.from
