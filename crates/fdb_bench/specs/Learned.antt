-- What the sources of frames make of the stations that are live.
use Rattle.std.specs.Prelude.{ℕ, Bool, List, Option, count_by, is_some}
use Rattle.std.specs.List.{fold}
use Rattle.bridge_fdb.specs.declared.station.Station.{Station}
use Rattle.bridge_fdb.specs.Stations.{station_of, learned_port}
use Rattle.bridge_fdb.specs.Learning.{learned}
use Rattle.fdb_bench.specs.declared.turns.Source.{Source}

-- what is live at t once each source was learned at t, one after the other
abbrev pub learned_all : ℕ → List Station → List Source → List Station
learned_all t stations sources = fold (λ live source. learned (station_of source.mac source.port t) live) stations sources

-- how many of the sources are live somewhere
abbrev pub count_live : List Station → List Source → ℕ
count_live stations sources = count_by (λ source. is_some (learned_port source.mac stations)) sources
