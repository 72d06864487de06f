use Rattle.std.proofs.Common.{◌≡◌, ℕ, List, ap, take, sym, ◌∙◌, arith}
use Rattle.std.specs.List.{fold}
use Rattle.std.proofs.lemmas.List.Sums.{fold_more}
use Rattle.bridge_fdb.specs.declared.station.Station.{Station}
use Rattle.bridge_fdb.specs.Stations.{station_of, live_at}
use Rattle.bridge_fdb.specs.Learning.{learned}
use Rattle.fdb_bench.specs.declared.turns.Source.{Source}
use Rattle.fdb_bench.proofs.turns.learn_all.Goals as goal

pub loop-source-preserved : goal.loop-source-preserved
loop-source-preserved c =
    let f : List Station → Source → List Station = λ live source. learned (station_of source.mac source.port c.args.t) live in
    let start : List Station = live_at c.args.t c.args.fdb.now in
    let before : List Station = fold f start (take c.loop-source.source-index c.args.sources.now) in
    c.learn.ensures.learned ∙ ap (λ (live : List Station). f live c.source-item.result) c.loop-source.invariant ∙ ap (f before) c.source-item.is
    ∙ sym (fold_more f start c.args.sources.now c.loop-source.source-index c.source-item.result (omega (arith, c.loop-source-test.true)))
