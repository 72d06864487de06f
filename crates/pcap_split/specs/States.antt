-- How contracts see a splitter.
use Rattle.std.specs.Prelude.{◌≤◌}
use Rattle.pcapng_io.specs.Readers.{State, Reading, Ended, IsPlaced}
use Rattle.pcap_split.specs.declared.counts.Counts.{Counts}
use Rattle.pcap_split.specs.Counts.{counted}

-- what its reader is ready for, and what was counted so far
pub record Splitting : Type 0 where
  pub reading : State
  pub counts : Counts

-- no more was counted than octets were read
abbrev pub IsWithin : State → Counts → Type 0
IsWithin (Reading s) counts = IsPlaced (Reading s) × (counted counts ≤ s.place)
IsWithin (Ended ending) counts = IsPlaced (Ended ending)
