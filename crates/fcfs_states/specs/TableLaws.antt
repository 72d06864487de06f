-- What it is to meet one row of the table.
use Rattle.std.specs.Prelude.{ℕ, ◌≡◌, Bool}
use Rattle.fcfs_states.specs.declared.event.Ev.{Ev}
use Rattle.fcfs_states.specs.declared.state.Fcfs.{Fcfs}
use Rattle.fcfs_states.specs.declared.times.Times.{Times}
use Rattle.fcfs_states.specs.Table.{Row}
use Rattle.fcfs_states.specs.Next.{Next}

-- a row gives this answer and this state, and no row gives another one
pub record IsOnlyRow (k : Times) (t : ℕ) (room : Bool) (state : Fcfs) (event : Ev) (outcome : Next) : Type 0 where
  pub row : Row k t room state event outcome.0 outcome.1
  pub only : (other : Next) → Row k t room state event other.0 other.1 → other ≡ outcome
