use Rattle.std.proofs.Common.{◌≡◌, ◌≤◌, ℕ, true, arith}
use Rattle.std.proofs.lemmas.Bool.{ltb-true, lt-ltb}
use Rattle.bridge_fdb.specs.declared.station.Station.{Station}
use Rattle.bridge_fdb.specs.Stations.{is_live, station_end}
use Rattle.savi_kinds.proofs.Filters.{filter-wider}
use Rattle.bridge_fdb.proofs.laws.stations_age_once.Goals as goal

earlier : (t u : ℕ) → t ≤ u → (s : Station) → is_live u s ≡ true → is_live t s ≡ true
earlier t u later s is = lt-ltb t (station_end s) (omega (arith, later, ltb-true u (station_end s) is))

pub returns : goal.returns
returns c = λ t u xs later. filter-wider (is_live t) (is_live u) (earlier t u later) xs
