-- What is due first in the state of each address, and in all of them.
use Rattle.std.specs.Prelude.{ℕ, ◌<◌, ◌≤◌, nat_le, if◌then◌else◌, Option, Some, None, List, [], ◌∷◌}
use Rattle.std.specs.List.{flat_map}
use Rattle.fcfs_states.specs.declared.times.Times.{Times}
use Rattle.mix_rules.specs.Ageing.{due_next, sooner_moment}
use Rattle.savi_access.specs.declared.row.Row.{Row}
use Rattle.savi_access.specs.Rows.{address_of}
use Rattle.timer_wheel.specs.declared.armed.Armed.{Armed}
use Rattle.timer_wheel.specs.Arms.{pair_for}

-- each address with the moment at which something is due first in its state, where anything is
abbrev pub dues : Times → List Row → List Armed
dues k rows = flat_map (λ row. pair_for (address_of row) (due_next k row.state)) rows

-- the moment at which something is due first in the state of any address
abbrev pub first_due : Times → List Row → Option ℕ
first_due k [] = None
first_due k (row ∷ rows) = sooner_moment (due_next k row.state) (first_due k rows)

-- a moment, where it isn't after t
abbrev pub due_until : ℕ → Option ℕ → Option ℕ
due_until t None = None
due_until t (Some due) = if nat_le due t then Some due else None

-- this moment is before what falls due first up to t, and where nothing does it isn't after t
abbrev pub IsUndue : Option ℕ → ℕ → ℕ → Type 0
IsUndue None t u = u ≤ t
IsUndue (Some due) t u = u < due
