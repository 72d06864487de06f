-- Where the station of a MAC address stands in a list in order of MAC address, or would stand.
use Rattle.std.specs.Prelude.{ℕ, ◌≡◌, ◌+◌, ◌≤◌, ◌<◌, Result, None, List, find, filter, slice_get, take, drop, length}
use Rattle.std.specs.Result.{MatchResult}
use Rattle.bridge_fdb.specs.declared.station.Station.{Station}
use Rattle.savi_kinds.specs.Orders.{is_below, is_above}
use Rattle.bridge_fdb.specs.Stations.{station_number, is_of}

-- it stands at i, those of lower MAC addresses before it and those of higher ones behind it
pub record StandsAt (number : ℕ) (stations : List Station) (i : ℕ) : Type 0 where
  pub bound : i < length stations
  pub found : find (is_of number) stations ≡ slice_get stations i
  pub below : take i stations ≡ filter (is_below station_number number) stations
  pub above : drop (i + 1) stations ≡ filter (is_above station_number number) stations

-- there is none, and it would stand at i
pub record BelongsAt (number : ℕ) (stations : List Station) (i : ℕ) : Type 0 where
  pub bound : i ≤ length stations
  pub none : find (is_of number) stations ≡ None
  pub below : take i stations ≡ filter (is_below station_number number) stations
  pub above : drop i stations ≡ filter (is_above station_number number) stations

abbrev pub IsPlaceOf : ℕ → List Station → Result ℕ ℕ → Type 0
IsPlaceOf number stations place = MatchResult place (StandsAt number stations) (BelongsAt number stations)
