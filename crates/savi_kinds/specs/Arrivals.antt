-- What comes in at a port: frames with the stamps that they carry, in order, and how the input ends.
use Rattle.std.specs.Prelude.{ℕ, nat_le, if◌then◌else◌, List, length}
use Rattle.savi_kinds.specs.declared.entry.How.{How}

pub data Arrival : Type 0 where
  -- a frame of at most 1,518 octets
  Frame : (stamp : ℕ) (octets : List ℕ) → Arrival
  -- a longer frame, whose octets aren't kept
  Long : (stamp len : ℕ) → Arrival

-- these octets as an arrival with this stamp
abbrev pub arrival_at : ℕ → List ℕ → Arrival
arrival_at stamp octets = if nat_le (length octets) 1518 then Frame stamp octets else Long stamp (length octets)

-- a whole input: its arrivals, and behind them its ending
pub record Input : Type 0 where
  pub arrivals : List Arrival
  pub ending : How
