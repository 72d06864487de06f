use Rattle.std.proofs.Common.{ℕ, ◌<◌}
use Rattle.pcap_split.specs.Going.{IsOutputOf}
use Rattle.pcap_split.proofs.places.place_of.Given as goal

-- the outputs so far are those of other interfaces
abbrev pub invariant-loop-place : goal.invariant-loop-place
invariant-loop-place g l = (k : ℕ) → k < l.place → IsOutputOf l.outputs k l.interface → ⊥
