-- The records of a capture.
use Rattle.std.specs.Prelude.{◌≡◌, ℕ, ◌+◌, ◌*◌, ◌/◌, ◌<◌, ◌≤◌, List, length, drop}
use Rattle.savi_kinds.specs.Arrivals.{Arrival, Frame, Long}
use Rattle.pcap_io.specs.declared.kind.TimeUnit.{TimeUnit}
use Rattle.pcap_io.specs.declared.kind.TimeUnit.TheVariants.{Microseconds, Nanoseconds}
use Rattle.pcap_io.specs.declared.kind.HeaderKind.{HeaderKind}
use Rattle.pcap_io.specs.Numbers.{number_at}

-- how many of this unit are a millisecond
abbrev pub units_per_ms : TimeUnit → ℕ
units_per_ms Microseconds = 1000
units_per_ms Nanoseconds = 1000000

-- the stamp (ms): seconds, and a fraction of a second in the unit, rounded down; no fraction is refused
abbrev pub stamp_of : HeaderKind → List ℕ → ℕ
stamp_of kind octets = 1000 * number_at kind.order 0 octets + number_at kind.order 4 octets / units_per_ms kind.unit

-- how many octets of the frame were captured
abbrev pub captured_of : HeaderKind → List ℕ → ℕ
captured_of kind octets = number_at kind.order 8 octets

-- Seconds, fraction, captured length and original length, of 4 octets each, and then the captured octets.
-- The original length is free.
pub record IsRecord (kind : HeaderKind) (octets : List ℕ) (stamp len : ℕ) : Type 0 where
  pub size : length octets ≡ 16 + len
  pub captured : captured_of kind octets ≡ len
  pub seen : stamp ≡ stamp_of kind octets

-- These octets are the record of this arrival: a frame as it was captured, or one that is longer than a
-- frame may be and no longer than a record may be.
abbrev pub IsRecordOf : HeaderKind → List ℕ → Arrival → Type 0
IsRecordOf kind octets (Frame stamp frame) =
    IsRecord kind octets stamp (length frame) × (length frame ≤ 1518) × (frame ≡ drop 16 octets)
IsRecordOf kind octets (Long stamp len) = IsRecord kind octets stamp len × (1518 < len) × (len ≤ 262144)
