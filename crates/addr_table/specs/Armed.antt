-- What is armed: each address at the moment at which something is due first in its state.
use Rattle.std.specs.Prelude.{ℕ, ◌≡◌, ◌*◌}
use Rattle.fcfs_states.specs.declared.times.Times.{Times}
use Rattle.bind_table.specs.Bindings.{Bindings}
use Rattle.timer_wheel.specs.Arms.{Wheel}
use Rattle.addr_table.specs.Dues.{dues}

-- the wheel has the moments of these rows, and both have room for what 16 ports may hold
pub record IsArmed (k : Times) (per_port : ℕ) (table : Bindings) (wheel : Wheel) : Type 0 where
  pub arms : wheel.arms ≡ dues k table.rows
  pub rows_most : table.most ≡ 16 * per_port
  pub arms_most : wheel.most ≡ 16 * per_port
