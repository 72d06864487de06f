use Rattle.std.proofs.Common.{◌≡◌, take}
use Rattle.bridge_fdb.specs.Stations.{live_at}
use Rattle.fdb_bench.specs.Learned.{learned_all}
use Rattle.fdb_bench.proofs.turns.learn_all.Given as goal

abbrev pub invariant-loop-source : goal.invariant-loop-source
invariant-loop-source l = live_at l.t l.fdb ≡ learned_all l.t (live_at l.t l.fn.fdb) (take l.source-index l.sources)
