-- What a run has done with a capture that was to be split: which outputs it opened, and what each of them holds.
use Rattle.std.specs.Prelude.{◌≡◌, ◌≢◌, ◌+◌, ◌<◌, ◌≤◌, ℕ, List, ◌∷◌, [], ◌++◌, length, Option, Some, IfSome, IsSomeAnd, All}
use Rattle.savi_kinds.specs.declared.entry.How.{How}
use Rattle.savi_kinds.specs.declared.entry.How.TheVariants as how
use Rattle.savi_ends.specs.Faults.{Rose}
use Rattle.savi_ends.specs.Octets.{behind, IsFront, Takes}
use Rattle.savi_ends.specs.Places.{Place, Book, OthersStay}
use Rattle.pcap_io.specs.Captures.{header_text, record_text}
use Rattle.pcapng_io.specs.Runs.{Event, Begins, Frame, Long, Input, Arrive, at_start}
use Rattle.pcapng_io.specs.Readers.{State, Reading, longest_block}
use Rattle.pcap_split.specs.declared.counts.Counts.{Counts}
use Rattle.pcap_split.specs.Counts.{tally_of}
use Rattle.pcap_split.specs.Going.{BreaksOff, HasGone}
use Rattle.pcap_split.specs.Splits.{split_text, no_tally, tally}
use Rattle.split_run.specs.declared.outcome.Outcome.{Outcome}
use Rattle.split_run.specs.declared.outcome.Outcome.TheVariants as outcome
use Rattle.split_run.specs.Names.{output_name}

-- The end that was handed out of a place is the one that is told there, where one is; one is kept there again, and this
-- holds of both.
pub record Keeps {X : Type 0} (Holds : X → X → Type 0) (old new : Place X) : Type 0 where
  pub handed : X
  pub back : X
  pub told : IfSome old.stands (λ told. handed ≡ told)
  pub kept : new.stands ≡ Some back
  pub holds : Holds handed back

-- the text of a capture is one for which this holds, where the world tells it
abbrev pub OfTold : {S : Type 0} → (S → Option (List ℕ)) → Place S → (List ℕ → Type 0) → Type 0
OfTold left capture Holds = IfSome capture.stands (λ told. IfSome (left told) Holds)

-- the end that is kept in a place has a fault; it had none when it was handed out
abbrev pub IsFaulty : {X : Type 0} → (X → ℕ) → Place X → Type 0
IsFaulty faults place = IsSomeAnd place.stands (λ x. 0 < faults x)

-- a sink took these octets, and no write of it failed
abbrev pub AddedAll : {K : Type 0} → (K → Option (List ℕ)) → (K → ℕ) → List ℕ → K → K → Type 0
AddedAll written faults octets old new = (written new ≡ behind (written old) octets) × (faults new ≡ faults old)

-- a sink took these octets, and then a front of those, perhaps none or all, where a write of it failed
abbrev pub AddedFront : {K : Type 0} → (K → Option (List ℕ)) → (K → ℕ) → List ℕ → List ℕ → K → K → Type 0
AddedFront written faults octets next old new =
    (front : List ℕ) × IsFront front next × (written new ≡ behind (written old) (octets ++ front)) × Rose (faults old) (faults new)

-- The text of a capture tells these events first.
abbrev pub TellsFirst : List Event → List ℕ → Type 0
TellsFirst events text = (input : Input) → Arrive text input → (later : List Event) × (input.events ≡ events ++ later)

-- the outputs of these interfaces were opened and are kept; in each of them this holds of the octets that are the classic
-- capture of its interface; and no other output was touched
pub record AreCaptures {K : Type 0} (Holds : ℕ → List ℕ → K → K → Type 0) (file : List ℕ) (opened : List ℕ) (events : List Event) (old new : List ℕ → Place K) : Type 0 where
  pub captures : All (λ k. Keeps (Holds k (split_text k events)) (old (output_name file k)) (new (output_name file k))) opened
  pub others : (name : List ℕ) → All (λ k. output_name file k ≢ name) opened → new name ≡ old name

-- The capture tells these events and ends so, where it tells its text. They are counted; each interface that has a capture
-- of its own has an output, which took the whole of it.
pub record IsSplitToEnd {S K : Type 0} (left : S → Option (List ℕ)) (written : K → Option (List ℕ)) (faults : K → ℕ) (file : List ℕ) (counts : Counts) (ending : How) (capture : Place S) (old new : List ℕ → Place K) : Type 0 where
  pub events : List Event
  pub tells : OfTold left capture (λ text. Arrive text (record { events = events; ending = ending }))
  pub counted_is : tally_of counts (tally no_tally events).split ≡ tally no_tally events
  pub outputs : AreCaptures (λ k. AddedAll written faults) file (tally no_tally events).split events old new

-- The capture tells these events first, where it tells its text. Each interface that has a capture of its own by then has an
-- output, which took the whole of it so far.
pub record IsSplitInPart {S K : Type 0} (left : S → Option (List ℕ)) (written : K → Option (List ℕ)) (faults : K → ℕ) (file : List ℕ) (capture : Place S) (old new : List ℕ → Place K) : Type 0 where
  pub events : List Event
  pub tells : OfTold left capture (TellsFirst events)
  pub outputs : AreCaptures (λ k. AddedAll written faults) file (tally no_tally events).split events old new

-- behind these events this Ethernet interface begins
abbrev pub IsBeginning : ℕ → List Event → Event → Type 0
IsBeginning interface earlier last = (last ≡ Begins 1) × (interface ≡ (tally no_tally earlier).interfaces)

-- behind these events comes one for which the output of this interface is written: it begins, or this is a frame of it
abbrev pub IsToWrite : ℕ → List Event → Event → Type 0
IsToWrite interface earlier (Begins link) = IsBeginning interface earlier (Begins link)
IsToWrite interface earlier (Frame k stamp octets) = k ≡ interface
IsToWrite interface earlier (Long k) = ⊥

-- a sink took all up to the last event, and a front of what that adds, where a write of it failed: of the header where its
-- interface begins, and else, behind the capture of the earlier events, of the record of a frame
abbrev pub AddedUpTo : {K : Type 0} → (K → Option (List ℕ)) → (K → ℕ) → List Event → Event → ℕ → K → K → Type 0
AddedUpTo written faults earlier (Begins link) k old new = AddedFront written faults [] header_text old new
AddedUpTo written faults earlier (Frame i stamp octets) k old new = AddedFront written faults (split_text k earlier) (record_text stamp octets) old new
AddedUpTo written faults earlier (Long i) k old new = ⊥

-- a sink took these octets, but for that of one interface, a write of which failed at the last event
abbrev pub AddedAllBut : {K : Type 0} → (K → Option (List ℕ)) → (K → ℕ) → ℕ → List Event → Event → ℕ → List ℕ → K → K → Type 0
AddedAllBut written faults failed earlier last k octets old new =
    (k ≢ failed → AddedAll written faults octets old new) × (k ≡ failed → AddedUpTo written faults earlier last k old new)

-- The work stopped at the last of these events, which is of this kind. The capture tells them first, where it tells its text.
-- The interfaces that have a capture of their own by then are those that have an output, which took so much of it, and last of
-- all those that are missing.
pub record IsStoppedAt {S K : Type 0} (left : S → Option (List ℕ)) (Is : List Event → Event → Type 0) (Took : List Event → Event → ℕ → List ℕ → K → K → Type 0) (missing : List ℕ) (file : List ℕ) (capture : Place S) (old new : List ℕ → Place K) : Type 0 where
  pub earlier : List Event
  pub last : Event
  pub events : List Event
  pub all : events ≡ earlier ++ last ∷ []
  pub is : Is earlier last
  pub tells : OfTold left capture (TellsFirst events)
  pub opened : List ℕ
  pub among : (tally no_tally events).split ≡ opened ++ missing
  pub outputs : AreCaptures (Took earlier last) file opened events old new

-- a source gave some octets, and no read of it failed
abbrev pub GaveUnbroken : {S : Type 0} → (S → Option (List ℕ)) → (S → ℕ) → S → S → Type 0
GaveUnbroken left faults old new = ((gave : List ℕ) × Takes (left old) (left new) gave) × (faults new ≡ faults old)

-- a source gave the octets that tell these events, whatever comes behind them, up to the next block, and no read of it failed
abbrev pub GaveTold : {S : Type 0} → (S → Option (List ℕ)) → (S → ℕ) → List Event → S → S → Type 0
GaveTold left faults events old new =
    ((gave : List ℕ) × (next : State) × Takes (left old) (left new) gave × HasGone (Reading at_start) next gave events) × (faults new ≡ faults old)

-- a source gave octets, no more than the longest block has from this place on, and no read of it failed
abbrev pub GaveWithinBlock : {S : Type 0} → (S → Option (List ℕ)) → (S → ℕ) → ℕ → S → S → Type 0
GaveWithinBlock left faults at old new = ((gave : List ℕ) × Takes (left old) (left new) gave × (length gave ≤ at + longest_block)) × (faults new ≡ faults old)

-- a source gave octets that tell these events and then end in a block that wasn't read, and a read of it failed
abbrev pub GaveBroken : {S : Type 0} → (S → Option (List ℕ)) → (S → ℕ) → List Event → S → S → Type 0
GaveBroken left faults events old new = ((gave : List ℕ) × Takes (left old) (left new) gave × BreaksOff (Reading at_start) gave events) × Rose (faults old) (faults new)

-- the output of an interface from 0 to 15
abbrev pub IsNamed : Outcome → Type 0
IsNamed (outcome.Split counts) = Unit {0}
IsNamed (outcome.Malformed at counts) = Unit {0}
IsNamed outcome.Unread = Unit {0}
IsNamed (outcome.Unwritten interface) = interface < 16
IsNamed (outcome.NoOutput interface) = interface < 16
IsNamed outcome.NoInput = Unit {0}

-- all that was to be opened was
abbrev pub HasOpenedAll : Outcome → Type 0
HasOpenedAll (outcome.Split counts) = Unit {0}
HasOpenedAll (outcome.Malformed at counts) = Unit {0}
HasOpenedAll outcome.Unread = Unit {0}
HasOpenedAll (outcome.Unwritten interface) = Unit {0}
HasOpenedAll (outcome.NoOutput interface) = ⊥
HasOpenedAll outcome.NoInput = ⊥

-- what came of a capture, and why: its source was handed out and is kept again
abbrev pub CameTo : {S K C : Type 0} → (S → Option (List ℕ)) → (K → Option (List ℕ)) → (S → ℕ) → (K → ℕ) → List ℕ → Book S K C → Book S K C → Outcome → Type 0
CameTo left written source_faults sink_faults file old new (outcome.Split counts) =
    Keeps (GaveUnbroken left source_faults) (old.inputs file) (new.inputs file) × IsSplitToEnd left written sink_faults file counts how.End (old.inputs file) old.outputs new.outputs
CameTo left written source_faults sink_faults file old new (outcome.Malformed at counts) =
    Keeps (GaveWithinBlock left source_faults at) (old.inputs file) (new.inputs file) × IsSplitToEnd left written sink_faults file counts (how.Malformed at) (old.inputs file) old.outputs new.outputs
CameTo left written source_faults sink_faults file old new outcome.Unread =
    (part : IsSplitInPart left written sink_faults file (old.inputs file) old.outputs new.outputs)
    × Keeps (GaveBroken left source_faults part.events) (old.inputs file) (new.inputs file) × IsFaulty source_faults (new.inputs file)
CameTo left written source_faults sink_faults file old new (outcome.Unwritten interface) =
    (stop : IsStoppedAt left (IsToWrite interface) (AddedAllBut written sink_faults interface) [] file (old.inputs file) old.outputs new.outputs)
    × Keeps (GaveTold left source_faults stop.events) (old.inputs file) (new.inputs file) × IsFaulty sink_faults (new.outputs (output_name file interface))
CameTo left written source_faults sink_faults file old new (outcome.NoOutput interface) =
    (stop : IsStoppedAt left (IsBeginning interface) (λ earlier last k. AddedAll written sink_faults) (interface ∷ []) file (old.inputs file) old.outputs new.outputs)
    × Keeps (GaveTold left source_faults stop.events) (old.inputs file) (new.inputs file) × Rose old.faults new.faults × (new.outputs (output_name file interface) ≡ old.outputs (output_name file interface))
CameTo left written source_faults sink_faults file old new outcome.NoInput =
    Rose old.faults new.faults × (new.inputs file ≡ old.inputs file) × (new.outputs ≡ old.outputs)

-- A run that splits the capture of this name came to this, and where all was opened, no opening failed meanwhile. No other
-- input was touched, nor anything but inputs and outputs.
pub record IsSplitRun {S K C : Type 0} (left : S → Option (List ℕ)) (written : K → Option (List ℕ)) (source_faults : S → ℕ) (sink_faults : K → ℕ) (file : List ℕ) (old new : Book S K C) (result : Outcome) : Type 0 where
  pub came : CameTo left written source_faults sink_faults file old new result
  pub still : HasOpenedAll result → new.faults ≡ old.faults
  pub inputs : OthersStay old.inputs new.inputs file
  pub rest : new ≡ record old { faults = new.faults; inputs = new.inputs; outputs = new.outputs }
