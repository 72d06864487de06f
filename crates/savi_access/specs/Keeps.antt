-- What the states of all addresses always are: a table, within what each port may hold, and sound for their methods.
use Rattle.std.specs.Prelude.{ℕ, ◌≡◌, ◌≤◌, Option, Some, None, List}
use Rattle.savi_kinds.specs.declared.port.Port.{Port}
use Rattle.savi_kinds.specs.declared.plan.Method.{Method}
use Rattle.savi_kinds.specs.Ports.{number_of}
use Rattle.fcfs_states.specs.declared.times.Times.{Times}
use Rattle.fcfs_states.specs.Premises.{AreTimes}
use Rattle.mix_rules.specs.declared.state.AddrState.{AddrState}
use Rattle.mix_rules.specs.States.{nobody, IsSoundFor}
use Rattle.mix_rules.specs.Premises.{AllMomentsFit}
use Rattle.savi_access.specs.declared.row.Row.{Row}
use Rattle.savi_access.specs.Rows.{state_in, count_at, IsTable}

-- each moment in the state of any address is below 2^63
abbrev pub AllFit : List Row → Type 0
AllFit rows = (a : ℕ) → AllMomentsFit (state_in rows a)

-- no port holds more addresses than it may
abbrev pub IsWithinPorts : ℕ → List Row → Type 0
IsWithinPorts per_port rows = (port : Port) → count_at (number_of port) rows ≤ per_port

-- what holds of the rows of a switch whose ports may hold so many addresses each, by these times
pub record IsWithinRules (k : Times) (per_port : ℕ) (rows : List Row) : Type 0 where
  pub table : IsTable rows
  pub times : AreTimes k
  pub fit : AllFit rows
  pub within : IsWithinPorts per_port rows

-- a state that an address can have: none where it isn't on-link, and else one that is sound for the method of its prefix
abbrev pub IsSoundBy : Option Method → AddrState → Type 0
IsSoundBy None state = state ≡ nobody
IsSoundBy (Some m) state = IsSoundFor m state

-- each address has such a state, where this is the method of each that is on-link
abbrev pub AreSound : (ℕ → Option Method) → List Row → Type 0
AreSound method_of rows = (a : ℕ) → IsSoundBy (method_of a) (state_in rows a)

-- states that are sound stay so, whatever the method of each address is
abbrev pub StaySound : List Row → List Row → Type 0
StaySound old new = (method_of : ℕ → Option Method) → AreSound method_of old → AreSound method_of new
