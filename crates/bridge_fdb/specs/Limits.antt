-- How many stations there are: at most 256 at each port, and at most one with a MAC address, in order of MAC address.
use Rattle.std.specs.Prelude.{ℕ, ◌≤◌, ◌^◌, List}
use Rattle.std.specs.List.{All}
use Rattle.savi_kinds.specs.Orders.{IsRising}
use Rattle.bridge_fdb.specs.declared.station.Station.{Station}
use Rattle.bridge_fdb.specs.Stations.{station_number, stations_at}

-- no station was seen later than 2^62 ms
abbrev pub IsInTime : List Station → Type 0
IsInTime stations = All (λ station. station.last ≤ 2 ^ 62) stations

pub record IsWithinLimits (stations : List Station) : Type 0 where
  -- each station has a higher MAC address than those before it
  pub rising : IsRising station_number stations
  -- no port has more than 256
  pub room : (port : ℕ) → stations_at port stations ≤ 256
  pub in_time : IsInTime stations
