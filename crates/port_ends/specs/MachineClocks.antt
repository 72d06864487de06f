-- The machine's clock.
use Rattle.std.specs.Prelude.{ℕ}
use Rattle.port_ends.specs.declared.clock_start.ClockStart.{ClockStart}
use Rattle.port_ends.specs.declared.machine_clock.MachineClock.{MachineClock}

-- the time of day from which the clocks of a run go on, in ms
abbrev pub began_at : ClockStart → ℕ
began_at start = start.time_of_day

-- what it read last, in ms
abbrev pub last_of : {T R : Type 0} → MachineClock T R → ℕ
last_of c = c.last
