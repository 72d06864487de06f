-- The stations of a bridge, in order of MAC address, and which of them are live (IEEE 802.1Q sections 8.8 and 8.8.3).
use Rattle.std.specs.Prelude.{ℕ, ◌+◌, ◌==◌, nat_lt, Bool, Option, List, ◌∷◌, map, filter, drop, count_by, find}
use Rattle.std.specs.Int.{w64, from_be_bytes}
use Rattle.std.specs.Option.{option_map}
use Rattle.savi_kinds.specs.Ports.{number_of}
use Rattle.savi_kinds.specs.declared.address.Mac.{Mac}
use Rattle.savi_kinds.specs.declared.port.Port.{Port}
use Rattle.bridge_fdb.specs.declared.station.Station.{Station}

-- a MAC address as a number: its six octets as they stand in a frame, the first one the highest
unfoldable pub mac_number : Mac → ℕ
mac_number mac = from_be_bytes w64 (0 ∷ 0 ∷ mac.0)

-- the MAC address of a station as a number
abbrev pub station_number : Station → ℕ
station_number station = mac_number station.mac

-- the station that was seen at a port at moment t
abbrev pub station_of : Mac → Port → ℕ → Station
station_of mac port t = record { mac = mac; port = port; last = t }

-- the moment at which a station ends: 300 s after it was seen last, the recommended ageing time (IEEE 802.1Q table 8-6)
abbrev pub station_end : Station → ℕ
station_end station = station.last + 300000

-- a station is live before the moment at which it ends, and at that moment it is no longer
abbrev pub is_live : ℕ → Station → Bool
is_live t station = nat_lt t (station_end station)

-- the stations that are live at moment t
abbrev pub live_at : ℕ → List Station → List Station
live_at t stations = filter (is_live t) stations

-- whether a station's MAC address is the one with this number
abbrev pub is_of : ℕ → Station → Bool
is_of number station = station_number station == number

-- whether a station was seen last at the port of this number
abbrev pub is_at : ℕ → Station → Bool
is_at port station = number_of station.port == port

-- how many stations there are at a port
abbrev pub stations_at : ℕ → List Station → ℕ
stations_at port stations = count_by (is_at port) stations

-- the port of the station with this MAC address
abbrev pub learned_port : Mac → List Station → Option Port
learned_port mac stations = option_map (λ station. station.port) (find (is_of (mac_number mac)) stations)

-- what is told of a station: its MAC address, its port, and the moment at which it ends
abbrev pub station_told : Station → Mac × Port × ℕ
station_told station = (station.mac, station.port, station_end station)

-- what is told of those that are live at t, from a place in the list on
abbrev pub rows_from : ℕ → ℕ → List Station → List (Mac × Port × ℕ)
rows_from t from stations = map station_told (live_at t (drop from stations))
