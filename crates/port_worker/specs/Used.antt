-- What became of three ends, as far as they tell.
use Rattle.std.specs.Prelude.{◌≡◌, ℕ, ◌≤◌, List, length, Option}
use Rattle.savi_ends.specs.declared.world.Ends.{Ends}
use Rattle.savi_ends.specs.Octets.{Takes}
use Rattle.pcap_io.specs.Readers.{IsNearFault}
use Rattle.port_worker.specs.SentFrames.{TookMore}

-- a source gave up at most so many octets
abbrev pub GaveFew : Option (List ℕ) → Option (List ℕ) → ℕ → Type 0
GaveFew before after most = (octets : List ℕ) × Takes before after octets × (length octets ≤ most)

-- a source gave up no more octets than are read of a capture that is at fault at this place
abbrev pub GaveNear : Option (List ℕ) → Option (List ℕ) → ℕ → Type 0
GaveNear before after at = (octets : List ℕ) × Takes before after octets × IsNearFault at (length octets) after

-- The ends of a port or of control, before and after: the source gave up octets from its front, the sink took octets behind
-- what it held, and the clock wasn't read.
pub record IsUsed {S K C : Type 0} (left : S → Option (List ℕ)) (written : K → Option (List ℕ)) (old new : Ends S K C) : Type 0 where
  pub gave : (octets : List ℕ) × Takes (left old.source) (left new.source) octets
  pub took : TookMore (written old.sink) (written new.sink)
  pub clock : new.clock ≡ old.clock
