use Rattle.std.proofs.Common.{◌≡◌, ◌*◌, ◌≤◌, length, map, take}
use Rattle.hist_store.specs.TextOfLines.{lines_text}
use Rattle.control_replies.specs.Shows.{station_fields}
use Rattle.savi_core.specs.Shows.{stations_told}
use Rattle.savi_core.specs.VlanSets.{of_sets}
use Rattle.savi_core.proofs.ShownSets.{live_of}
use Rattle.savi_core.proofs.shows.show_stations.Given as goal

abbrev pub invariant-loop-set : goal.invariant-loop-set
invariant-loop-set l = record {
  text : l.into ≡ lines_text (map station_fields (stations_told (of_sets (live_of l.t) (take l.set-index l.sets))));
  size : length l.into ≤ 188416 * l.set-index;
}
