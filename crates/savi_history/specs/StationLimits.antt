-- What the stations of a VLAN are at a moment: one port for each MAC address, at most 256 at a port, none seen later than
-- then, and none that has ended (IEEE 802.1Q sections 8.8 and 8.8.3).
use Rattle.std.specs.Prelude.{ℕ, ◌<◌, ◌≤◌, List, All}
use Rattle.bridge_fdb.specs.declared.station.Station.{Station}
use Rattle.bridge_fdb.specs.Stations.{station_end}
use Rattle.bridge_fdb.specs.Limits.{IsWithinLimits as AreWithinLimits}

-- a station was seen by this moment and hasn't ended
abbrev pub IsKnownAt : ℕ → Station → Type 0
IsKnownAt moment station = (station.last ≤ moment) × (moment < station_end station)

pub record AreStationsAt (moment : ℕ) (stations : List Station) : Type 0 where
  pub limits : AreWithinLimits stations
  pub known : All (IsKnownAt moment) stations
