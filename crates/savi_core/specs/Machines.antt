-- A switch as contracts see it: its plan, what its history goes on from, as a copy keeps that, and the history with the newest
-- row first.
use Rattle.std.specs.Prelude.{◌≡◌, ◌≤◌, ◌*◌, true, length, ℕ, List, [], ◌∷◌, reverse, slice_get, slice_index, Option}
use Rattle.savi_kinds.specs.declared.plan.Plan.{Plan}
use Rattle.savi_kinds.specs.declared.port.Port.{Port}
use Rattle.savi_kinds.specs.Ports.{number_of}
use Rattle.savi_kinds.specs.ValidPlan.{numbers_of}
use Rattle.savi_kinds.specs.Vlans.{vlans_of}
use Rattle.hist_store.specs.Rows.{Row}
use Rattle.checkpoint.specs.Bases.{Base}
use Rattle.checkpoint.specs.Columns.{Columns, nothing_before}
use Rattle.checkpoint.specs.Columns as columns
use Rattle.savi_history.specs.Passes.{has_port}
use Rattle.savi_history.specs.Queues.{Item, queue}
use Rattle.savi_history.specs.Events.{Event, row_of}

pub record Machine : Type 0 where
  pub plan : Plan
  pub checkpoint : Columns
  pub past : List Row

-- for how many stations there is room: 256 for each pair of a port, of 16, and a VLAN of the plan
abbrev pub station_room : Plan → ℕ
station_room plan = 256 * (16 * length (vlans_of plan))

-- the switch at its start
abbrev pub started : Plan → Machine
started plan = record { plan = plan; checkpoint = nothing_before (16 * plan.per_port) (station_room plan); past = [] }

-- what its history goes on from
abbrev pub base_of : Machine → Base
base_of m = columns.kept_base m.checkpoint

-- the switch with the row of this event in front
abbrev pub with_event : Machine → Event → Machine
with_event m event = record m { past = row_of m.plan (base_of m) m.past event ∷ m.past }

-- the row with this number, counted from 0 and from the oldest on
abbrev pub row_at : Machine → ℕ → Option Row
row_at m n = slice_get (reverse m.past) n

-- what waits at a port
abbrev pub queue_at : Machine → Port → List Item
queue_at m port = queue m.plan (base_of m) (number_of port) m.past

-- no queue of a port of the plan is longer than the plan's depth
abbrev pub HasShortQueues : Machine → Type 0
HasShortQueues m = (port : Port) → has_port m.plan (number_of port) ≡ true → length (queue_at m port) ≤ m.plan.depth

-- the number of the port at a place of the plan
abbrev pub port_number_at : Plan → ℕ → ℕ
port_number_at plan place = slice_index (numbers_of plan.ports) place
