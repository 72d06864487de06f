-- What is kept of the ports that are full.
use Rattle.std.specs.Prelude.{ℕ, ◌+◌, ◌≤◌, ◌<◌, List, slice_index}
use Rattle.bridge_fdb.specs.declared.station.Station.{Station}
use Rattle.bridge_fdb.specs.declared.full.Full.{Full}
use Rattle.bridge_fdb.specs.Stations.{live_at, stations_at}

-- port k + 1 has 256 live stations before the moment that is kept for it
abbrev pub TellsFull : Full → List Station → Type 0
TellsFull full stations = (k t : ℕ) → k < 16 → t < slice_index full.until k → 256 ≤ stations_at (k + 1) (live_at t stations)
