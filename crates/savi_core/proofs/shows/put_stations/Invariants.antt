use Rattle.std.proofs.Common.{◌≡◌, ◌+◌, ◌*◌, ◌-◌, ◌≤◌, ◌++◌, length, map}
use Rattle.bridge_fdb.specs.Stations.{rows_from}
use Rattle.hist_store.specs.TextOfLines.{lines_text}
use Rattle.control_replies.specs.Shows.{station_fields}
use Rattle.savi_history.specs.Shown.{station_row}
use Rattle.savi_core.proofs.shows.put_stations.Given as goal

abbrev pub invariant-loop-next : goal.invariant-loop-next
invariant-loop-next l = record {
  text : l.into ++ lines_text (map station_fields (map (station_row l.vlan) (rows_from l.t l.from l.fdb))) ≡ l.fn.into ++ lines_text (map station_fields (map (station_row l.vlan) (rows_from l.t 0 l.fdb)));
  within : l.from ≤ length l.fdb;
  size : length l.into ≤ length l.fn.into + 46 * l.from;
}

abbrev pub decreases-loop-next : goal.decreases-loop-next
decreases-loop-next l = length l.fdb - l.from
