-- Whether the port of an event may hold one more address.
use Rattle.std.specs.Prelude.{ℕ, ◌≡◌, ◌⊎◌, nat_lt, Bool, true, false, Option, Some, None, List}
use Rattle.savi_kinds.specs.declared.port.Port.{Port}
use Rattle.savi_kinds.specs.Ports.{number_of}
use Rattle.fcfs_states.specs.declared.event.Ev.{Ev}
use Rattle.fcfs_states.specs.declared.event.Ev.TheVariants.{Sent, Dad, Na, TpDad, TpNa, Lease, Release, Fix, Clear}
use Rattle.mix_rules.specs.States.{IsHeldAt}
use Rattle.savi_access.specs.declared.row.Row.{Row}
use Rattle.savi_access.specs.Rows.{state_in, count_at}

-- the port of an event: none of what comes at a trusted port, nor of an operator's clearing
abbrev pub port_of : Ev → Option Port
port_of (Sent p) = Some p
port_of (Dad p) = Some p
port_of (Na p) = Some p
port_of TpDad = None
port_of TpNa = None
port_of (Lease p valid) = Some p
port_of (Release p) = Some p
port_of (Fix p) = Some p
port_of Clear = None

-- the port holds fewer addresses than it may
abbrev pub may_hold_more : ℕ → List Row → Port → Bool
may_hold_more per_port rows p = nat_lt (count_at (number_of p) rows) per_port

-- there is such a port, and it has room
abbrev pub may_hold_more_at : ℕ → List Row → Option Port → Bool
may_hold_more_at per_port rows None = false
may_hold_more_at per_port rows (Some p) = may_hold_more per_port rows p

-- the event's port has room
abbrev pub room_for : ℕ → List Row → Ev → Bool
room_for per_port rows event = may_hold_more_at per_port rows (port_of event)

-- the operator fixes an address to a port only where the port has room, or holds the address already
abbrev pub IsFixable : ℕ → List Row → ℕ → Ev → Type 0
IsFixable per_port rows a (Fix p) = (may_hold_more per_port rows p ≡ true) ⊎ IsHeldAt (state_in rows a) p
IsFixable per_port rows a (Sent r) = Unit {0}
IsFixable per_port rows a (Dad r) = Unit {0}
IsFixable per_port rows a (Na r) = Unit {0}
IsFixable per_port rows a TpDad = Unit {0}
IsFixable per_port rows a TpNa = Unit {0}
IsFixable per_port rows a (Lease p valid) = Unit {0}
IsFixable per_port rows a (Release p) = Unit {0}
IsFixable per_port rows a Clear = Unit {0}
