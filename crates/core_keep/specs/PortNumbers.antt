-- The port that has a number.
use Rattle.std.specs.Prelude.{ℕ, ◌≤◌}
use Rattle.std.proofs.Common.{lit≤}
use native.Mathlib.Decide.{dec_le}
use Rattle.savi_kinds.specs.declared.port.Port.{Port}

-- port 1, for a number that no port has
abbrev pub first_port : Port
first_port = record { number = 1; low = lit≤ tt; high = lit≤ tt }

abbrev pub port_where : (number : ℕ) → Dec (1 ≤ number) → Dec (number ≤ 16) → Port
port_where number (yes low) (yes high) = record { number = number; low = low; high = high }
port_where number (yes low) (no not) = first_port
port_where number (no not) bound = first_port

abbrev pub port_at : ℕ → Port
port_at number = port_where number (dec_le 1 number) (dec_le number 16)
