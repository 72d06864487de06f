-- What a contract sees of the table of all addresses: its rows, the times by which they age, what a port may hold.
use Rattle.std.specs.Prelude.{ℕ, List}
use Rattle.fcfs_states.specs.declared.times.Times.{Times}
use Rattle.savi_access.specs.declared.row.Row.{Row}

pub record Addresses : Type 0 where
  pub rows : List Row
  pub times : Times
  pub per_port : ℕ
