-- What one call of a splitter did: what was told, and what each output was given.
use Rattle.std.specs.Prelude.{◌≡◌, ◌≢◌, ℕ, ◌+◌, ◌<◌, ◌≤◌, List, [], ◌∷◌, ◌++◌, length, slice_index_or, Option, Some, None, IfSome}
use Rattle.savi_kinds.specs.declared.entry.How.{How}
use Rattle.savi_kinds.specs.declared.entry.How.TheVariants as how
use Rattle.savi_ends.specs.Octets.{behind, IsFront}
use Rattle.savi_ends.specs.Faults.{Rose}
use Rattle.pcap_io.specs.Captures.{record_text, records_text}
use Rattle.pcapng_io.specs.Blocks.{Standing}
use Rattle.pcapng_io.specs.Runs.{Event, Begins, Frame}
use Rattle.pcapng_io.specs.Readers.{State, Reading, Ended, Comes, HasRead, IsUnread, block_place, longest_block}
use Rattle.pcap_split.specs.declared.split.SplitGot.{SplitGot}
use Rattle.pcap_split.specs.declared.split.SplitGot.TheVariants as got
use Rattle.pcap_split.specs.declared.output.Output.{Output}
use Rattle.pcap_split.specs.Splits.{frames_of, Tally, tally}

-- The capture has ended so: what was taken, alone and with what is left behind it, where that is told, tells these events
-- and has this ending. From a block at fault on no more was read than the longest block has.
pub record HasTold (old new : State) (gave : List ℕ) (left : Option (List ℕ)) (events : List Event) (ending : How) : Type 0 where
  pub state : new ≡ Ended ending
  pub taken : Comes old gave (record { events = events; ending = ending })
  pub whole : IfSome left (λ rest. Comes old (gave ++ rest) (record { events = events; ending = ending }))
  pub near : (at : ℕ) → ending ≡ how.Malformed at → block_place old + length gave ≤ at + longest_block

-- the reader stands at a block
abbrev pub IsAtBlock : State → Type 0
IsAtBlock state = (s : Standing) × (state ≡ Reading s)

-- These octets tell these events, and then end in a block that wasn't read. Of a capture that had ended before, this says
-- nothing.
abbrev pub BreaksOff : State → List ℕ → List Event → Type 0
BreaksOff (Reading first) octets events =
    (s : Standing) × (front : List ℕ) × (part : List ℕ) × (octets ≡ front ++ part) × HasRead (Reading first) (Reading s) front events × IsUnread s part
BreaksOff (Ended ending) octets events = Unit {0}

-- A read failed: what was taken tells these events, and the block in which it failed wasn't known to have a total length that
-- no block has.
pub record HasBroken (old new : State) (gave : List ℕ) (events : List Event) : Type 0 where
  pub state : new ≡ Ended how.Failed
  pub taken : (ending : How) × Comes old gave (record { events = events; ending = ending })
  pub unread : BreaksOff old gave events

-- What was taken tells these events, whatever comes behind it, and the reader stands at the next block.
pub record HasGone (old new : State) (gave : List ℕ) (events : List Event) : Type 0 where
  pub read : HasRead old new gave events
  pub reading : IsAtBlock new
  pub place : block_place new ≡ block_place old + length gave

-- what the octets that a call took tell
abbrev pub Tells : SplitGot → State → State → List ℕ → Option (List ℕ) → List Event → Type 0
Tells (got.Opens interface) old new gave left events = HasGone old new gave events
Tells (got.Unwritten interface) old new gave left events = HasGone old new gave events
Tells got.End old new gave left events = HasTold old new gave left events how.End
Tells (got.Malformed at) old new gave left events = HasTold old new gave left events (how.Malformed at)
Tells got.Failed old new gave left events = HasBroken old new gave events

-- Where an interface is to be opened it has just begun, behind these other events.
abbrev pub HasBegun : SplitGot → Tally → List Event → Type 0
HasBegun (got.Opens interface) t events = (earlier : List Event) × (events ≡ earlier ++ Begins 1 ∷ []) × (interface ≡ (tally t earlier).interfaces)
HasBegun (got.Unwritten interface) t events = Unit {0}
HasBegun got.End t events = Unit {0}
HasBegun (got.Malformed at) t events = Unit {0}
HasBegun got.Failed t events = Unit {0}

-- an output was given the records of its interface's frames, and no write of it failed
pub record HasTaken {K : Type 0} (written : K → Option (List ℕ)) (faults : K → ℕ) (events : List Event) (old new : Output K) : Type 0 where
  pub same : new.interface ≡ old.interface
  pub still : faults new.sink ≡ faults old.sink
  pub text : written new.sink ≡ behind (written old.sink) (records_text (frames_of old.interface events))

-- an output was given the records of its interface's frames, and then a front of the record of one more, where a write failed
pub record HasTakenFront {K : Type 0} (written : K → Option (List ℕ)) (faults : K → ℕ) (earlier : List Event) (stamp : ℕ) (octets : List ℕ) (old new : Output K) : Type 0 where
  pub same : new.interface ≡ old.interface
  pub rose : Rose (faults old.sink) (faults new.sink)
  pub text : (front : List ℕ) × IsFront front (record_text stamp octets) × (written new.sink ≡ behind (written old.sink) (records_text (frames_of old.interface earlier) ++ front))

-- The write of a frame to the output of its interface failed, behind these events: each other output was given all of its own.
abbrev pub HasTakenBut : {K : Type 0} → (K → Option (List ℕ)) → (K → ℕ) → ℕ → List Event → ℕ → List ℕ → Output K → Output K → Type 0
HasTakenBut written faults failed earlier stamp octets old new =
    (old.interface ≢ failed → HasTaken written faults (earlier ++ Frame failed stamp octets ∷ []) old new)
    × (old.interface ≡ failed → HasTakenFront written faults earlier stamp octets old new)

-- each output as it was and as it is now
abbrev pub EachOutput : {K : Type 0} → (Output K → Output K → Type 0) → List (Output K) → List (Output K) → Type 0
EachOutput {K} R old new = (length new ≡ length old) × ((k : ℕ) (d : Output K) → k < length old → R (slice_index_or old k d) (slice_index_or new k d))

-- What the outputs were given. Where a write failed, the last event is the frame whose record couldn't be written.
abbrev pub Writes : {K : Type 0} → (K → Option (List ℕ)) → (K → ℕ) → SplitGot → List Event → List (Output K) → List (Output K) → Type 0
Writes written faults (got.Opens interface) events old new = EachOutput (HasTaken written faults events) old new
Writes written faults (got.Unwritten interface) events old new =
    (earlier : List Event) × (stamp : ℕ) × (octets : List ℕ) × (events ≡ earlier ++ Frame interface stamp octets ∷ []) × EachOutput (HasTakenBut written faults interface earlier stamp octets) old new
Writes written faults got.End events old new = EachOutput (HasTaken written faults events) old new
Writes written faults (got.Malformed at) events old new = EachOutput (HasTaken written faults events) old new
Writes written faults got.Failed events old new = EachOutput (HasTaken written faults events) old new

-- the output of this interface stands at this place
abbrev pub IsOutputOf : {K : Type 0} → List (Output K) → ℕ → ℕ → Type 0
IsOutputOf {K} outputs place interface = (place < length outputs) × ((d : Output K) → (slice_index_or outputs place d).interface ≡ interface)

-- no two outputs are of one interface
abbrev pub Differ : {K : Type 0} → List (Output K) → Type 0
Differ {K} outputs =
    (j k : ℕ) (d : Output K) → j < length outputs → k < length outputs → (slice_index_or outputs j d).interface ≡ (slice_index_or outputs k d).interface → j ≡ k

-- the faults of that output's sink rose
abbrev pub HasRisen : {K : Type 0} → (K → ℕ) → ℕ → List (Output K) → List (Output K) → Type 0
HasRisen {K} faults interface old new =
    (place : ℕ) × IsOutputOf old place interface × ((d : Output K) → Rose (faults (slice_index_or old place d).sink) (faults (slice_index_or new place d).sink))

-- a write fails only where the faults of its output rose
abbrev pub WriteRose : {K : Type 0} → (K → ℕ) → SplitGot → List (Output K) → List (Output K) → Type 0
WriteRose faults (got.Opens interface) old new = Unit {0}
WriteRose faults (got.Unwritten interface) old new = HasRisen faults interface old new
WriteRose faults got.End old new = Unit {0}
WriteRose faults (got.Malformed at) old new = Unit {0}
WriteRose faults got.Failed old new = Unit {0}

-- the interfaces with a capture behind this answer: where one more is to be opened it is among them
abbrev pub split_behind : SplitGot → List ℕ → List ℕ
split_behind (got.Opens interface) split = split ++ interface ∷ []
split_behind (got.Unwritten interface) split = split
split_behind got.End split = split
split_behind (got.Malformed at) split = split
split_behind got.Failed split = split

-- the answer of a splitter where the capture has ended so
abbrev pub got_of : How → Option SplitGot
got_of how.End = Some got.End
got_of (how.Malformed at) = Some (got.Malformed at)
got_of how.Failed = Some got.Failed
got_of how.Quit = None
got_of (how.Overlong at) = None
got_of how.Unwritten = None
got_of how.Paused = None

-- what a splitter whose reader has ended answers again and again
abbrev pub last_got : State → Option SplitGot
last_got (Reading s) = None
last_got (Ended ending) = got_of ending
