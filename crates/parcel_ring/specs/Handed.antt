-- What goes from an input to those who judge it: its arrivals, and last how it ended.
use Rattle.std.specs.Prelude.{◌<◌, ◌≤◌, length}
use Rattle.savi_kinds.specs.declared.entry.How.{How}
use Rattle.savi_kinds.specs.declared.entry.How.TheVariants as hows
use Rattle.savi_kinds.specs.Arrivals.{Arrival, Frame, Long}

pub data Handed : Type 0 where
  -- an arrival of the input
  Arrived : (arrival : Arrival) → Handed
  -- the input ended so
  Ended : (how : How) → Handed

-- an input that is read ends so: at its end, at a place that is malformed, or by a read that failed
abbrev pub IsReadEnd : How → Type 0
IsReadEnd hows.End = Unit {0}
IsReadEnd (hows.Malformed at) = Unit {0}
IsReadEnd hows.Failed = Unit {0}
IsReadEnd hows.Quit = ⊥
IsReadEnd (hows.Overlong at) = ⊥
IsReadEnd hows.Unwritten = ⊥
IsReadEnd hows.Paused = ⊥

-- a frame has at most 1,518 octets, a longer one more
abbrev pub HasItsSize : Arrival → Type 0
HasItsSize (Frame stamp octets) = length octets ≤ 1518
HasItsSize (Long stamp len) = 1518 < len

abbrev pub MayBeHanded : Handed → Type 0
MayBeHanded (Arrived arrival) = HasItsSize arrival
MayBeHanded (Ended how) = IsReadEnd how
