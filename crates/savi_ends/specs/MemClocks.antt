-- A clock in memory.
use Rattle.std.specs.Prelude.{ℕ, zero, suc, ◌-◌, ◌^◌, List, [], ◌∷◌, ◌++◌, length, min, slice_index, nat_lt, Option, Some, None, if◌then◌else◌}
use Rattle.savi_ends.specs.declared.mem_clock.MemClock.{MemClock}
use Rattle.savi_ends.specs.Counts.{next_count}

-- the readings that were given to the clock, and how many it has made
pub record ClockState : Type 0 where
  pub given : List ℕ
  pub made : ℕ

abbrev pub clock_state : MemClock → ClockState
clock_state c = record { given = c.readings.items; made = c.made }

-- the reading with this index: the last one is repeated, and 0 stands for none
abbrev pub reading_at : List ℕ → ℕ → ℕ
reading_at given n = slice_index given (min n (length given - 1))

abbrev pub first_readings : List ℕ → ℕ → List ℕ
first_readings given zero = []
first_readings given (suc n) = first_readings given n ++ reading_at given n ∷ []

-- The readings that were made are told up to the end of their count.
abbrev pub told_readings : ClockState → Option (List ℕ)
told_readings c = if nat_lt c.made (2 ^ 64 - 1) then Some (first_readings c.given c.made) else None

-- A reading counts, up to the end of the count.
abbrev pub after_reading : ClockState → ClockState
after_reading c = record c { made = next_count c.made }
