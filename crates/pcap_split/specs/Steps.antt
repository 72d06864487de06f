-- What is done with one answer of the reader.
use Rattle.std.specs.Prelude.{◌≡◌, ℕ, ◌+◌, ◌^◌, ◌<◌, ◌≤◌, List, [], ◌∷◌, ◌++◌, take, Option, Some, None}
use Rattle.pcapng_io.specs.declared.next.NgNext.{NgNext}
use Rattle.pcapng_io.specs.declared.next.NgNext.TheVariants as next
use Rattle.pcapng_io.specs.Runs.{Event, Begins, Frame, Long}
use Rattle.pcap_split.specs.declared.split.SplitGot.{SplitGot}
use Rattle.pcap_split.specs.declared.split.SplitGot.TheVariants as got
use Rattle.pcap_split.specs.declared.counts.Counts.{Counts}
use Rattle.pcap_split.specs.declared.output.Output.{Output}
use Rattle.pcap_split.specs.Splits.{tallied}
use Rattle.pcap_split.specs.Counts.{interfaces_of, tally_of, counted}
use Rattle.pcap_split.specs.Going.{HasTaken, HasTakenBut, EachOutput, HasRisen}

-- there is room for one more in the counts, and a frame is as long as a frame may be
abbrev pub MayTake : NgNext → Counts → Type 0
MayTake (next.Interface link) counts = counted counts < 2 ^ 62
MayTake (next.Frame interface stamp len) counts = (len ≤ 1518) × (counted counts < 2 ^ 62)
MayTake (next.Long interface) counts = counted counts < 2 ^ 62
MayTake next.End counts = Unit {0}
MayTake (next.Malformed at) counts = Unit {0}
MayTake next.Failed counts = Unit {0}

-- an event was counted, and the outputs that there are and are to be opened are these
abbrev pub IsTallied : {K : Type 0} → Event → Counts → Counts → List (Output K) → List ℕ → Type 0
IsTallied event old new outputs more = (counted new ≡ counted old + 1) × (tally_of new (interfaces_of outputs ++ more) ≡ tallied (tally_of old (interfaces_of outputs)) event)

-- what was done with an event
abbrev pub DoesEvent : {K : Type 0} → (K → Option (List ℕ)) → (K → ℕ) → Event → Counts → Counts → List (Output K) → List (Output K) → Option SplitGot → Type 0
DoesEvent written faults event counts counts' old new None = EachOutput (HasTaken written faults (event ∷ [])) old new × IsTallied event counts counts' old []
DoesEvent written faults event counts counts' old new (Some (got.Opens interface)) = EachOutput (HasTaken written faults (event ∷ [])) old new × IsTallied event counts counts' old (interface ∷ []) × (event ≡ Begins 1) × (interface ≡ counts.interfaces)
DoesEvent written faults event counts counts' old new (Some (got.Unwritten interface)) =
    (stamp : ℕ) × (octets : List ℕ) × (event ≡ Frame interface stamp octets) × EachOutput (HasTakenBut written faults interface [] stamp octets) old new × IsTallied event counts counts' old [] × HasRisen faults interface old new
DoesEvent written faults event counts counts' old new (Some got.End) = ⊥
DoesEvent written faults event counts counts' old new (Some (got.Malformed at)) = ⊥
DoesEvent written faults event counts counts' old new (Some got.Failed) = ⊥

-- nothing was done, and this is where to stop
abbrev pub Rests : {K : Type 0} → SplitGot → Counts → Counts → List (Output K) → List (Output K) → Option SplitGot → Type 0
Rests got counts counts' old new result = (result ≡ Some got) × (counts' ≡ counts) × (new ≡ old)

-- what was done with an answer
abbrev pub Does : {K : Type 0} → (K → Option (List ℕ)) → (K → ℕ) → NgNext → List ℕ → Counts → Counts → List (Output K) → List (Output K) → Option SplitGot → Type 0
Does written faults (next.Interface link) buf counts counts' old new result = DoesEvent written faults (Begins link) counts counts' old new result
Does written faults (next.Frame interface stamp len) buf counts counts' old new result = DoesEvent written faults (Frame interface stamp (take len buf)) counts counts' old new result
Does written faults (next.Long interface) buf counts counts' old new result = DoesEvent written faults (Long interface) counts counts' old new result
Does written faults next.End buf counts counts' old new result = Rests got.End counts counts' old new result
Does written faults (next.Malformed at) buf counts counts' old new result = Rests (got.Malformed at) counts counts' old new result
Does written faults next.Failed buf counts counts' old new result = Rests got.Failed counts counts' old new result
