-- What is kept of a base beside its columns, so that each line is found at once: the parts of all states, and the order of
-- the requests.
use Rattle.std.specs.Prelude.{ℕ, ◌≡◌, ◌≤◌, ◌*◌, List, map, slice_get, Some}
use Rattle.std.specs.List.{flat_map}
use Rattle.savi_access.specs.declared.row.Row.{Row}
use Rattle.dhcp_states.specs.declared.request.Request.{Request}
use Rattle.bridge_fdb.specs.declared.station.Station.{Station}
use Rattle.checkpoint.specs.declared.part.Part.{Part}
use Rattle.checkpoint.specs.Columns.{IsByVlan}
use Rattle.checkpoint.specs.Orders.{requests_in_order}
use Rattle.checkpoint.specs.Parts.{parts_of}

-- these places of a column, one behind the other, have its requests in order
abbrev pub OrdersRequests : List (ℕ × Request) → List ℕ → Type 0
OrdersRequests requests places = map (slice_get requests) places ≡ map Some (requests_in_order requests)

pub record IsKept (rows : List (ℕ × Row)) (parts : List Part) (requests : List (ℕ × Request)) (places : List ℕ) (stations : List (ℕ × Station)) : Type 0 where
  pub parts_is : parts ≡ flat_map parts_of rows
  pub ordered : OrdersRequests requests places
  -- each column goes by VLAN
  pub rows_by : IsByVlan rows
  pub requests_by : IsByVlan requests
  pub stations_by : IsByVlan stations

-- no column has more than there is room for
pub record IsWithinRoom (row_room station_room rows requests stations ended : ℕ) : Type 0 where
  pub few_rows : rows ≤ row_room
  pub few_requests : requests ≤ 256
  pub few_stations : stations ≤ station_room
  pub few_ended : ended ≤ 34

-- there is room for so many rows, of which each has three parts at most, for so many stations, for 256 requests and 34 passes
pub record HasRoom (row_room station_room rows parts requests stations ended : ℕ) : Type 0 where
  pub for_rows : row_room ≤ rows
  pub for_parts : 3 * row_room ≤ parts
  pub for_requests : 256 ≤ requests
  pub for_stations : station_room ≤ stations
  pub for_ended : 34 ≤ ended
