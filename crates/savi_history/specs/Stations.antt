-- The stations that a switch knows in each VLAN, recomputed from the entries of a history: a frame that passes teaches that
-- the station of its source MAC address is at its port in its VLAN, and nothing else teaches (IEEE 802.1Q sections 8.7, 8.8
-- and 8.8.3).
use Rattle.std.specs.Prelude.{ℕ, ◌&&◌, nat_lt, Bool, if◌then◌else◌, List, [], ◌∷◌, length, Option, Some, None}
use Rattle.savi_kinds.specs.declared.port.Port.{Port}
use Rattle.savi_kinds.specs.declared.plan.Plan.{Plan}
use Rattle.savi_kinds.specs.declared.entry.Act.{Act}
use Rattle.savi_kinds.specs.declared.entry.Act.TheVariants.{Frame, Long, Tick, Command, Drain, End}
use Rattle.savi_kinds.specs.Ports.{number_of}
use Rattle.savi_kinds.specs.Macs.{is_group}
use Rattle.eth_frame.specs.declared.header.Eth.{Eth}
use Rattle.eth_frame.specs.Frame.{header_of}
use Rattle.eth_frame.specs.Tags.{inner}
use Rattle.bridge_fdb.specs.declared.station.Station.{Station}
use Rattle.bridge_fdb.specs.Stations.{station_of, live_at, learned_port}
use Rattle.bridge_fdb.specs.Learning.{learned}
use Rattle.hist_store.specs.Rows.{Row}
use Rattle.checkpoint.specs.Bases.{Base}
use Rattle.savi_history.specs.Vlans.{is_vlan, vlan_of_frame}
use Rattle.savi_history.specs.Summary.{is_pass}

-- the header of a frame; fewer than 14 octets have none (IEEE 802.3 section 3.1.1)
abbrev pub ethernet_of : List ℕ → Option Eth
ethernet_of octets = if nat_lt (length octets) 14 then None else Some (header_of octets)

-- the stations once a frame with this header passed from this port at this moment
abbrev pub taught : Port → ℕ → Option Eth → List Station → List Station
taught port moment None stations = stations
taught port moment (Some eth) stations = learned (station_of eth.src port moment) stations

-- a frame that came in at this port teaches in its VLAN, where it passed
abbrev pub teaches : ℕ → Plan → Port → Row → Bool
teaches vlan plan port r = is_pass r.entry.verdict && is_vlan vlan (vlan_of_frame plan (number_of port) r.octets)

-- the stations of a VLAN after an entry, by those that are live at its moment: no entry but that of a frame teaches
abbrev pub after_entry : ℕ → Plan → Row → Act → List Station → List Station
after_entry vlan plan r (Frame port stamp at len) live =
    if teaches vlan plan port r then taught port r.entry.moment (ethernet_of (inner r.octets)) live else live
after_entry vlan plan r (Long port stamp len) live = live
after_entry vlan plan r (Tick stamp) live = live
after_entry vlan plan r (Command stamp at len) live = live
after_entry vlan plan r (Drain port count) live = live
after_entry vlan plan r (End who how) live = live

-- the stations of a VLAN that are live at the moment of the last entry, after it
abbrev pub stations : ℕ → Plan → Base → List Row → List Station
stations vlan plan base [] = base.stations vlan
stations vlan plan base (r ∷ past) =
    after_entry vlan plan r r.entry.act (live_at r.entry.moment (stations vlan plan base past))

-- the port of the station for which a frame with this header is; a frame for a group address is for none
abbrev pub port_among : List Station → Option Eth → Option Port
port_among stations None = None
port_among stations (Some eth) = if is_group eth.dst then None else learned_port eth.dst stations

-- the port at which a frame's destination is known in a VLAN at a moment after this past
abbrev pub known_port : ℕ → Plan → Base → List Row → ℕ → List ℕ → Option Port
known_port vlan plan base past moment octets =
    port_among (live_at moment (stations vlan plan base past)) (ethernet_of (inner octets))
