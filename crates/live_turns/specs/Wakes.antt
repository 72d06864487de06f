-- Which outputs a turn wakes, and when: those of the ports whose queues have grown in it, behind it.
use Rattle.std.specs.Prelude.{◌≡◌, ◌<◌, ◌==◌, ◌⊎◌, ℕ, Bool, true, false, List, Option, None, Some, length}
use Rattle.std.specs.List.{All, list_any}
use Rattle.savi_kinds.specs.declared.port.Port.{Port}
use Rattle.savi_kinds.specs.declared.port.PortSet.{PortSet}
use Rattle.savi_kinds.specs.declared.entry.Entry.{Entry}
use Rattle.savi_kinds.specs.declared.plan.Plan.{Plan}
use Rattle.savi_kinds.specs.Ports.{number_of}
use Rattle.savi_kinds.specs.PortSets.{is_member}
use Rattle.hist_store.specs.Rows.{Row}
use Rattle.table_lock.specs.declared.lock.sleeping.Woken.{Woken}
use Rattle.table_lock.specs.Wakings.{woken_place, woken_seen}
use Rattle.checkpoint.specs.Bases.{Base}
use Rattle.savi_history.specs.Passes.{has_port}
use Rattle.savi_history.specs.Queues.{queue}
use Rattle.core_keep.specs.Pasts.{decoded}

-- a wake at the place of this number, which is that where the egress of the port of this number sleeps (`sleeps_at`)
abbrev pub is_wake_at : ℕ → Option Woken → Bool
is_wake_at number None = false
is_wake_at number (Some wake) = woken_place wake == number

-- one of these is
abbrev pub was_woken : List (Option Woken) → ℕ → Bool
was_woken woken number = list_any (is_wake_at number) woken

-- each port of the set was woken
abbrev pub HasAll : PortSet → List (Option Woken) → Type 0
HasAll ports woken = (port : Port) → is_member ports (number_of port) ≡ true → was_woken woken (number_of port) ≡ true

-- more items wait at the port than waited before
abbrev pub HasGrown : Plan → Base → List Row → List Row → Port → Type 0
HasGrown plan base found now port =
    length (queue plan base (number_of port) found) < length (queue plan base (number_of port) now)

-- each port of the plan whose queue has grown is one of these
abbrev pub HasGrownPorts : PortSet → Plan → Base → List Row → List Row → Type 0
HasGrownPorts ports plan base found now =
    (port : Port) → has_port plan (number_of port) ≡ true → HasGrown plan base found now port → is_member ports (number_of port) ≡ true

-- these are the ports to which an entry may have queued something: all where it queued probes, and else those of its frame
abbrev pub MayHaveQueued : Entry → PortSet → Type 0
MayHaveQueued entry ports =
    (port : Port) → (0 < entry.probes) ⊎ (is_member entry.outs (number_of port) ≡ true) → is_member ports (number_of port) ≡ true

-- the egress of each port of the plan whose queue has grown was woken
abbrev pub WokeGrown : List (Option Woken) → Plan → Base → List Row → List Row → Type 0
WokeGrown woken plan base found now =
    (port : Port) → has_port plan (number_of port) ≡ true → HasGrown plan base found now port → was_woken woken (number_of port) ≡ true

-- a wake by a pass that had seen this history
abbrev pub IsBehind : List Row → Option Woken → Type 0
IsBehind now None = Unit {0}
IsBehind now (Some wake) = decoded (woken_seen wake) ≡ now

-- Each of these wakes was by a pass that had seen this history: none was made in front of its last entry.
abbrev pub AreBehind : List Row → List (Option Woken) → Type 0
AreBehind now woken = All (IsBehind now) woken

-- A turn did this, and by these wakes, each behind the turn, the egress of each port whose queue has grown in it was woken.
abbrev pub Wakes : (Plan → Base → List Row → List Row → Type 0) → List (Option Woken) → Plan → Base → List Row → List Row → Type 0
Wakes Did woken plan base found now = Did plan base found now × WokeGrown woken plan base found now × AreBehind now woken
