-- What is kept of stations: each in a slot of its port, and beside them their MAC addresses as numbers in order, with the
-- slot of each.
use Rattle.std.specs.Prelude.{ℕ, ◌≡◌, ◌*◌, ◌-◌, ◌^◌, ◌≤◌, ◌<◌, Bool, false, Option, Some, None, List, ◌++◌, map, filter, length, get_or, count_by, vec_capacity}
use Rattle.std.specs.List.{filter_map}
use Rattle.savi_kinds.specs.Ports.{number_of}
use Rattle.bridge_fdb.specs.declared.station.Station.{Station}
use Rattle.bridge_fdb.specs.declared.kept.Kept.{Kept}
use Rattle.savi_kinds.specs.Orders.{is_below, is_above}
use Rattle.bridge_fdb.specs.Stations.{station_number, mac_number, is_live, station_end}

-- the MAC address of each as a number
abbrev pub mac_numbers : List Station → List ℕ
mac_numbers stations = map (λ station. mac_number station.mac) stations

-- what a slot has
abbrev pub in_slot : List (Option Station) → ℕ → Option Station
in_slot stations slot = get_or stations slot None

-- the stations that are kept, in order of MAC address
abbrev pub listed : Kept → List Station
listed kept = filter_map (in_slot kept.stations.items) kept.slots.items

-- the stations but for the one with this MAC address
abbrev pub without : ℕ → List Station → List Station
without number stations = filter (is_below station_number number) stations ++ filter (is_above station_number number) stations

-- a slot is one of a port's 256
abbrev pub IsSlotOf : ℕ → ℕ → Type 0
IsSlotOf port slot = (256 * (port - 1) ≤ slot) × (slot < 256 * port)

-- a station may be in a slot: the slot is one of its port's, and it was seen no later than 2^62 ms
pub record IsOwn (slot : ℕ) (station : Station) : Type 0 where
  pub place : IsSlotOf (number_of station.port) slot
  pub in_time : station.last ≤ 2 ^ 62

-- whether a slot has a station of a kind
abbrev pub has : (Station → Bool) → Option Station → Bool
has p None = false
has p (Some station) = p station

-- a slot of a port has no station that is live at t
pub record IsFree (stations : List (Option Station)) (port t slot : ℕ) : Type 0 where
  pub place : IsSlotOf port slot
  pub ended : (station : Station) → in_slot stations slot ≡ Some station → is_live t station ≡ false

-- a slot has a station that ends no earlier than at some moment
abbrev pub LivesUntil : ℕ → Option Station → Type 0
LivesUntil end None = ⊥
LivesUntil end (Some station) = end ≤ station_end station

-- the slots, the numbers and the list of the stations belong together
pub record IsTied (stations : List (Option Station)) (slots numbers : List ℕ) (all : List Station) : Type 0 where
  pub told : map (in_slot stations) slots ≡ map Some all
  pub matching : numbers ≡ mac_numbers all
  pub own : (slot : ℕ) (station : Station) → in_slot stations slot ≡ Some station → IsOwn slot station
  -- a slot has no station but those of the list
  pub counted : (p : Station → Bool) → count_by (has p) stations ≡ count_by p all
  -- 256 slots of each of 16 ports
  pub size : length stations ≡ 4096

pub record Keeps (kept : Kept) : Type 0 where
  pub tied : IsTied kept.stations.items kept.slots.items kept.numbers.items (listed kept)
  pub numbers_room : 4096 ≤ vec_capacity kept.numbers
  pub slots_room : 4096 ≤ vec_capacity kept.slots
