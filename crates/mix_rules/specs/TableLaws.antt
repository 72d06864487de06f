-- What it is to meet one row of the table.
use Rattle.std.specs.Prelude.{ℕ, ◌≡◌, Bool}
use Rattle.savi_kinds.specs.declared.plan.Method.{Method}
use Rattle.fcfs_states.specs.declared.event.Ev.{Ev}
use Rattle.fcfs_states.specs.declared.times.Times.{Times}
use Rattle.mix_rules.specs.declared.state.AddrState.{AddrState}
use Rattle.mix_rules.specs.Table.{Row}
use Rattle.mix_rules.specs.Next.{Outcome}

-- a row gives this answer and this state, and no row gives another one
pub record IsOnlyRow (m : Method) (k : Times) (t : ℕ) (room : Bool) (s : AddrState) (event : Ev) (outcome : Outcome) : Type 0 where
  pub row : Row m k t room s event outcome.0 outcome.1
  pub only : (other : Outcome) → Row m k t room s event other.0 other.1 → other ≡ outcome
