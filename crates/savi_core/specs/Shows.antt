-- What is told of a port and of stations, by what a core keeps of addresses, requests, stations and queues.
use Rattle.std.specs.Prelude.{ℕ, Option, Some, None, List, length, map, slice_index_or}
use Rattle.savi_kinds.specs.declared.plan.Plan.{Plan}
use Rattle.savi_kinds.specs.declared.plan.PortPlan.{PortPlan}
use Rattle.savi_kinds.specs.declared.address.Mac.{Mac}
use Rattle.savi_kinds.specs.declared.port.Port.{Port}
use Rattle.savi_kinds.specs.Ports.{number_of}
use Rattle.savi_kinds.specs.Vlans.{access_vlan}
use Rattle.dhcp_states.specs.Requests.{open_at, requests_at_port}
use Rattle.savi_access.specs.Rows.{count_at}
use Rattle.bridge_fdb.specs.declared.station.Station.{Station}
use Rattle.bridge_fdb.specs.Stations.{station_told}
use Rattle.hist_store.specs.TextOfLines.{lines_text}
use Rattle.control_replies.specs.Shows.{station_fields}
use Rattle.control_replies.specs.declared.port_row.PortRow.{PortRow}
use Rattle.savi_history.specs.Passes.{place_of}
use Rattle.savi_core.specs.declared.vlan_set.VlanSet.{VlanSet}
use Rattle.savi_core.specs.VlanSets.{rows_by_vlan, requests_in}
use Rattle.savi_core.specs.Lanes.{no_lane}
use Rattle.savi_core.specs.Rings.{Rings, shut_in}

-- how many addresses a port of this VLAN holds: without a VLAN none
abbrev pub held_by : List VlanSet → ℕ → Option ℕ → ℕ
held_by sets number None = 0
held_by sets number (Some vlan) = count_at number (rows_by_vlan sets vlan)

-- how many requests of a port of this VLAN are open at moment t
abbrev pub pending_by : List VlanSet → ℕ → ℕ → Option ℕ → ℕ
pending_by sets t number None = 0
pending_by sets t number (Some vlan) = requests_at_port number (open_at t (requests_in sets vlan))

-- the row of a port at moment t; its queue is the one at its place in the plan
abbrev pub kept_row : List VlanSet → Rings → Plan → ℕ → PortPlan → PortRow
kept_row sets rings plan t port = record {
  number = port.number;
  role = port.role;
  is_shut = shut_in rings.shut (number_of port.number);
  held = held_by sets (number_of port.number) (access_vlan plan (number_of port.number));
  pending = pending_by sets t (number_of port.number) (access_vlan plan (number_of port.number));
  queued = length (slice_index_or rings.lanes (place_of plan (number_of port.number)) no_lane).items;
}

-- a station of a VLAN as it is told: the VLAN, its MAC address, its port, and the moment at which it ends
abbrev pub kept_station_row : ℕ × Station → ℕ × Mac × Port × ℕ
kept_station_row p = (p.0, (station_told p.1).0, (station_told p.1).1, (station_told p.1).2)

abbrev pub stations_told : List (ℕ × Station) → List (ℕ × Mac × Port × ℕ)
stations_told stations = map kept_station_row stations

-- the lines of stations of a VLAN
abbrev pub station_lines : ℕ → List Station → List ℕ
station_lines vlan stations = lines_text (map station_fields (stations_told (map (λ station. (vlan, station)) stations)))
