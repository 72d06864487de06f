use Rattle.std.proofs.Common.{◌≡◌, take}
use Rattle.bridge_fdb.specs.Stations.{live_at}
use Rattle.savi_core.specs.VlanSets.{of_sets}
use Rattle.savi_core.specs.Turns.{with_stations}
use Rattle.savi_core.proofs.turning.keep_stations.Given as goal

abbrev pub invariant-loop-set : goal.invariant-loop-set
invariant-loop-set l = l.into ≡ with_stations (of_sets (λ set. live_at l.t set.fdb) (take l.set-index l.sets)) l.fn.into
