-- Words of private contracts: what is held while a capture is split.
use Rattle.std.specs.Prelude.{◌≡◌, ◌≢◌, ◌<◌, ℕ, true, List, [], ◌∷◌, ◌++◌, slice_index_or, Option, Some, None, IfSome, All, AllPairs}
use Rattle.savi_kinds.specs.declared.entry.How.TheVariants as how
use Rattle.savi_ends.specs.Faults.{Rose}
use Rattle.savi_ends.specs.Octets.{Takes}
use Rattle.savi_ends.specs.Places.{Place, Book}
use Rattle.pcap_io.specs.Captures.{header_text}
use Rattle.pcapng_io.specs.Runs.{Event, at_start}
use Rattle.pcapng_io.specs.Readers.{State, Reading}
use Rattle.pcap_split.specs.declared.counts.Counts.{Counts}
use Rattle.pcap_split.specs.declared.output.Output.{Output}
use Rattle.pcap_split.specs.Counts.{interfaces_of}
use Rattle.pcap_split.specs.Going.{HasGone, EachOutput, IsOutputOf}
use Rattle.pcap_split.specs.Splits.{split_text, no_tally, tally}
use Rattle.pcap_split.specs.Wholes.{IsSplitWhole, IsSplitFront}
use Rattle.split_run.specs.declared.outcome.Outcome.{Outcome}
use Rattle.split_run.specs.declared.outcome.Outcome.TheVariants as outcome
use Rattle.split_run.specs.Runs.{AddedAll, AddedFront, AddedAllBut, IsBeginning, IsToWrite, HasOpenedAll}

-- no two of these outputs are of one interface
abbrev pub HaveOwnInterfaces : {K : Type 0} → List (Output K) → Type 0
HaveOwnInterfaces held = AllPairs (λ a b. a.interface ≢ b.interface) held

-- what was told of a place is handed out of it
pub record IsOut {X : Type 0} (old new : Place X) (x : X) : Type 0 where
  pub out : new.is_out ≡ true
  pub told : IfSome old.stands (λ told. x ≡ told)

-- An output more is held: the sink that was handed out of its place, of which this holds.
abbrev pub IsHeldMore : {K : Type 0} → (K → K → Type 0) → ℕ → Place K → Place K → List (Output K) → List (Output K) → Type 0
IsHeldMore {K} Holds interface old new held held' =
    (sink : K) × (begun : K) × IsOut old new sink × (held' ≡ held ++ record { interface = interface; sink = begun } ∷ []) × Holds sink begun

-- What came of an output that was to be opened and begun.
abbrev pub HasTried : {K : Type 0} → (K → Option (List ℕ)) → (K → ℕ) → ℕ → ℕ → ℕ → Place K → Place K → List (Output K) → List (Output K) → Option Outcome → Type 0
HasTried written faults interface before after old new held held' None = IsHeldMore (AddedAll written faults header_text) interface old new held held'
HasTried written faults interface before after old new held held' (Some (outcome.Unwritten k)) =
    (k ≡ interface) × IsHeldMore (AddedFront written faults [] header_text) interface old new held held'
HasTried written faults interface before after old new held held' (Some (outcome.NoOutput k)) =
    (k ≡ interface) × Rose before after × (new ≡ old) × (held' ≡ held)
HasTried written faults interface before after old new held held' (Some (outcome.Split counts)) = ⊥
HasTried written faults interface before after old new held held' (Some (outcome.Malformed at counts)) = ⊥
HasTried written faults interface before after old new held held' (Some outcome.Unread) = ⊥
HasTried written faults interface before after old new held held' (Some outcome.NoInput) = ⊥

-- These outputs were handed out, each of its own place, and no other place of an output was touched.
pub record AreOut {S K C : Type 0} (name : ℕ → List ℕ) (handed : List (Output K)) (old new : Book S K C) : Type 0 where
  pub each : All (λ o. IsOut (old.outputs (name o.interface)) (new.outputs (name o.interface)) o.sink) handed
  pub others : (other : List ℕ) → All (λ o. name o.interface ≢ other) handed → new.outputs other ≡ old.outputs other
  pub rest : new ≡ record old { faults = new.faults; outputs = new.outputs }

-- what an output took, by what its sink was when it was handed out
abbrev pub HasAdded : {K : Type 0} → (ℕ → List ℕ → K → K → Type 0) → List Event → Output K → Output K → Type 0
HasAdded Holds events handed now = (now.interface ≡ handed.interface) × Holds handed.interface (split_text handed.interface events) handed.sink now.sink

-- These octets tell these events, whatever comes behind them, and the work stopped at the last one, which is of this kind. The
-- interfaces that have a capture by then are those that have an output, which took so much of it, and those that are missing.
pub record IsStopped {K : Type 0} (Is : List Event → Event → Type 0) (Took : List Event → Event → ℕ → List ℕ → K → K → Type 0) (missing : List ℕ) (handed held : List (Output K)) (gave : List ℕ) : Type 0 where
  pub earlier : List Event
  pub last : Event
  pub events : List Event
  pub all : events ≡ earlier ++ last ∷ []
  pub is : Is earlier last
  pub next : State
  pub gone : HasGone (Reading at_start) next gave events
  pub among : (tally no_tally events).split ≡ interfaces_of handed ++ missing
  pub each : EachOutput (HasAdded (Took earlier last) events) handed held

-- the sink of this interface's output has a fault
abbrev pub HasSinkFault : {K : Type 0} → (K → ℕ) → ℕ → List (Output K) → Type 0
HasSinkFault {K} faults interface held = (place : ℕ) × IsOutputOf held place interface × ((d : Output K) → 0 < faults (slice_index_or held place d).sink)

-- no write of an output failed
abbrev pub SinksStay : {K : Type 0} → (K → ℕ) → List (Output K) → List (Output K) → Type 0
SinksStay faults handed held = EachOutput (λ o n. faults n.sink ≡ faults o.sink) handed held

-- what came of the octets that a source gave
abbrev pub EndsSplit : {K : Type 0} → (K → Option (List ℕ)) → (K → ℕ) → ℕ → ℕ → ℕ → ℕ → List (Output K) → List (Output K) → List ℕ → Option (List ℕ) → Outcome → Type 0
EndsSplit written faults world world' source source' handed held gave left (outcome.Split counts) =
    ((events : List Event) × IsSplitWhole written counts handed held gave left events how.End) × (source' ≡ source) × SinksStay faults handed held
EndsSplit written faults world world' source source' handed held gave left (outcome.Malformed at counts) =
    ((events : List Event) × IsSplitWhole written counts handed held gave left events (how.Malformed at)) × (source' ≡ source) × SinksStay faults handed held
EndsSplit written faults world world' source source' handed held gave left outcome.Unread =
    ((events : List Event) × (counts : Counts) × IsSplitFront written counts handed held gave events) × Rose source source' × SinksStay faults handed held
EndsSplit written faults world world' source source' handed held gave left (outcome.Unwritten interface) =
    IsStopped (IsToWrite interface) (AddedAllBut written faults interface) [] handed held gave × (interface < 16) × HasSinkFault faults interface held × (source' ≡ source)
EndsSplit written faults world world' source source' handed held gave left (outcome.NoOutput interface) =
    IsStopped (IsBeginning interface) (λ earlier last k. AddedAll written faults) (interface ∷ []) handed held gave × Rose world world' × (interface < 16) × All (λ o. o.interface ≢ interface) handed × (source' ≡ source)
EndsSplit written faults world world' source source' handed held gave left outcome.NoInput = ⊥

-- What a source had left was split, the outputs are held, and it came to this.
pub record HasSplit {S K C : Type 0} (left : S → Option (List ℕ)) (written : K → Option (List ℕ)) (source_faults : S → ℕ) (sink_faults : K → ℕ) (name : ℕ → List ℕ) (source source' : S) (old new : Book S K C) (held : List (Output K)) (result : Outcome) : Type 0 where
  pub gave : List ℕ
  pub takes : Takes (left source) (left source') gave
  pub handed : List (Output K)
  pub out : AreOut name handed old new
  pub unfailed : HasOpenedAll result → new.faults ≡ old.faults
  pub own : HaveOwnInterfaces held
  pub within : All (λ o. o.interface < 16) handed
  pub same : interfaces_of held ≡ interfaces_of handed
  pub ends : EndsSplit written sink_faults old.faults new.faults (source_faults source) (source_faults source') handed held gave (left source') result
