-- What a bridge learns from the source MAC address of a frame (IEEE 802.1Q section 8.7).
use Rattle.std.specs.Prelude.{nat_le, Bool, not, ◌&&◌, if◌then◌else◌, List, ◌∷◌, ◌++◌, filter}
use Rattle.std.specs.List.{list_any}
use Rattle.savi_kinds.specs.Ports.{number_of}
use Rattle.bridge_fdb.specs.declared.station.Station.{Station}
use Rattle.savi_kinds.specs.Orders.{is_below, is_above}
use Rattle.bridge_fdb.specs.Stations.{station_number, mac_number, is_of, is_at, stations_at}

-- whether the station is among those of its port
abbrev pub is_known : Station → List Station → Bool
is_known station stations = list_any (λ other. is_at (number_of station.port) other && is_of (mac_number station.mac) other) stations

-- whether its port has 256 stations
abbrev pub is_full : Station → List Station → Bool
is_full station stations = nat_le 256 (stations_at (number_of station.port) stations)

-- the stations of lower MAC addresses, this one, and those of higher ones: one with its MAC address is gone
abbrev pub with_station : Station → List Station → List Station
with_station station stations = filter (is_below station_number (mac_number station.mac)) stations ++ station ∷ filter (is_above station_number (mac_number station.mac)) stations

-- the stations that are live once this one was seen, where these were: one that is live at its port is live anew, another
-- one is now at its port, unless the port has 256 already; then nothing changes, so that it stays where it is live elsewhere
abbrev pub learned : Station → List Station → List Station
learned station stations = if is_full station stations && not (is_known station stations) then stations else with_station station stations
