-- What an operator's commands come to: why one is refused, and what it makes of an address in its VLAN, by what was told
-- before it.
use Rattle.std.specs.Prelude.{ℕ, ◌||◌, not, Bool, if◌then◌else◌, is_some, List, Option, Some, None, Result, Ok, Err}
use Rattle.savi_kinds.specs.declared.plan.Plan.{Plan}
use Rattle.savi_kinds.specs.declared.port.Port.{Port}
use Rattle.savi_kinds.specs.Ports.{number_of}
use Rattle.savi_kinds.specs.Vlans.{access_vlan}
use Rattle.fcfs_states.specs.declared.event.Ev.{Ev}
use Rattle.fcfs_states.specs.declared.event.Ev.TheVariants.{Fix, Clear}
use Rattle.mix_rules.specs.States.{has_state, is_held_at}
use Rattle.savi_access.specs.declared.row.Row.{Row}
use Rattle.savi_access.specs.Rows.{state_in}
use Rattle.savi_access.specs.Rooms.{may_hold_more}
use Rattle.savi_access.specs.Tables.{rows_at}
use Rattle.cli_lang.specs.declared.kinds.Command.{Command}
use Rattle.cli_lang.specs.declared.kinds.Command.TheVariants as orders
use Rattle.cli_lang.specs.declared.kinds.CmdFault.{CmdFault}
use Rattle.cli_lang.specs.declared.kinds.CmdFault.TheVariants as faults
use Rattle.control_replies.specs.declared.refusal.Refusal.{Refusal}
use Rattle.control_replies.specs.declared.refusal.Refusal.TheVariants as refusals
use Rattle.savi_access.specs.Rules.{AccessBase}
use Rattle.savi_access.specs.Marks.{Mark, told, event_told}
use Rattle.savi_access.specs.Plans.{rules_of, has_port, method_in}
use Rattle.checkpoint.specs.BaseLines.{has_vlan}

-- the addresses of each VLAN that have a state at this moment after these marks
abbrev pub rows_told : Plan → AccessBase → List Mark → ℕ → ℕ → List Row
rows_told plan base marks moment vlan = rows_at (rules_of plan).addresses base.addresses (told marks) moment vlan

-- the port has room for the address, or holds it already
abbrev pub may_hold : Plan → List Row → Port → ℕ → Bool
may_hold plan rows port a = may_hold_more plan.per_port rows port || is_held_at (number_of port) (state_in rows a)

-- why an address isn't fixed to a port of the plan, if it isn't: the port is trusted, and so has no VLAN of its own; or the
-- first of these causes in its VLAN
abbrev pub static_refusal_in : Plan → (ℕ → List Row) → ℕ → Port → Option ℕ → Option Refusal
static_refusal_in plan rows a port None = Some refusals.TrustedPort
static_refusal_in plan rows a port (Some vlan) =
    if not (is_some (method_in plan vlan a)) then Some refusals.OffLink
    else if not (may_hold plan (rows vlan) port a) then Some refusals.PortFull
    else None

-- why an address isn't fixed to a port, if it isn't
abbrev pub static_refusal : Plan → (ℕ → List Row) → ℕ → Port → Option Refusal
static_refusal plan rows a port =
    if not (has_port plan (number_of port)) then Some refusals.NoSuchPort
    else static_refusal_in plan rows a port (access_vlan plan (number_of port))

-- why an address isn't cleared in a VLAN: no port has the VLAN, or the address has no state there
abbrev pub clear_refusal : Plan → (ℕ → List Row) → ℕ → ℕ → Option Refusal
clear_refusal plan rows vlan a =
    if not (has_vlan plan vlan) then Some refusals.BadAddress
    else if has_state (state_in (rows vlan) a) then None
    else Some refusals.NoBinding

-- why a port isn't shut or opened: it isn't in the plan
abbrev pub port_refusal : Plan → Port → Option Refusal
port_refusal plan port = if has_port plan (number_of port) then None else Some refusals.NoSuchPort

-- what a line is refused for that is no command
abbrev pub fault_refusal : CmdFault → Refusal
fault_refusal faults.Unknown = refusals.UnknownCommand
fault_refusal faults.Address = refusals.BadAddress
fault_refusal faults.PortNumber = refusals.BadPort

-- why a line is refused, where these addresses of each VLAN have a state
abbrev pub refusal_of : Plan → (ℕ → List Row) → Result Command CmdFault → Option Refusal
refusal_of plan rows (Err fault) = Some (fault_refusal fault)
refusal_of plan rows (Ok (orders.Static address port)) = static_refusal plan rows address.0 port
refusal_of plan rows (Ok (orders.Clear vlan address)) = clear_refusal plan rows vlan address.0
refusal_of plan rows (Ok (orders.Shut port)) = port_refusal plan port
refusal_of plan rows (Ok (orders.Reopen port)) = port_refusal plan port
refusal_of plan rows (Ok orders.ShowBindings) = None
refusal_of plan rows (Ok orders.ShowPorts) = None
refusal_of plan rows (Ok orders.ShowCounters) = None
refusal_of plan rows (Ok orders.ShowStations) = None
refusal_of plan rows (Ok orders.Quit) = None

-- the marks once an address is fixed to a port, in the VLAN of that
abbrev pub fixed_in : Plan → AccessBase → ℕ → Option ℕ → ℕ → Port → List Mark → List Mark
fixed_in plan base moment (Some vlan) a port marks = event_told (rules_of plan) base vlan moment marks a (Fix port)
fixed_in plan base moment None a port marks = marks

-- the marks behind a command that isn't refused: `static` fixes its address to its port, and `clear` leaves no state in its
-- VLAN
abbrev pub ordered : Plan → AccessBase → ℕ → Result Command CmdFault → List Mark → List Mark
ordered plan base moment (Err fault) marks = marks
ordered plan base moment (Ok (orders.Static address port)) marks =
    fixed_in plan base moment (access_vlan plan (number_of port)) address.0 port marks
ordered plan base moment (Ok (orders.Clear vlan address)) marks =
    event_told (rules_of plan) base vlan moment marks address.0 Clear
ordered plan base moment (Ok (orders.Shut port)) marks = marks
ordered plan base moment (Ok (orders.Reopen port)) marks = marks
ordered plan base moment (Ok orders.ShowBindings) marks = marks
ordered plan base moment (Ok orders.ShowPorts) marks = marks
ordered plan base moment (Ok orders.ShowCounters) marks = marks
ordered plan base moment (Ok orders.ShowStations) marks = marks
ordered plan base moment (Ok orders.Quit) marks = marks

-- one that is refused tells nothing
abbrev pub ordered_unless : Plan → AccessBase → ℕ → Result Command CmdFault → Option Refusal → List Mark → List Mark
ordered_unless plan base moment order (Some refusal) marks = marks
ordered_unless plan base moment order None marks = ordered plan base moment order marks

-- the marks behind a line at this moment, by those before it
abbrev pub commanded : Plan → AccessBase → ℕ → Result Command CmdFault → List Mark → List Mark
commanded plan base moment order marks =
    ordered_unless plan base moment order (refusal_of plan (rows_told plan base marks moment) order) marks
