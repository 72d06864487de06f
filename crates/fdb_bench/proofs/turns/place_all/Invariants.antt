use Rattle.std.proofs.Common.{◌≡◌, take}
use Rattle.bridge_fdb.specs.Stations.{live_at}
use Rattle.fdb_bench.specs.Learned.{count_live}
use Rattle.fdb_bench.proofs.turns.place_all.Given as goal

abbrev pub invariant-loop-source : goal.invariant-loop-source
invariant-loop-source l = l.live ≡ count_live (live_at l.t l.fdb) (take l.source-index l.sources)
