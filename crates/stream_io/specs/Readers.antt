-- What a reader of a stream is ready for, and what each of its answers says.
use Rattle.std.specs.Prelude.{◌≡◌, ℕ, ◌+◌, ◌^◌, ◌<◌, ◌≤◌, Bool, true, false, List, [], ◌∷◌, ◌++◌, length, take, Option, Some, None, ◌⊎◌}
use Rattle.savi_kinds.specs.declared.entry.How.{How}
use Rattle.savi_kinds.specs.declared.entry.How.TheVariants as how
use Rattle.savi_kinds.specs.declared.arrival.Next.{Next}
use Rattle.savi_kinds.specs.declared.arrival.Next.TheVariants as next
use Rattle.savi_kinds.specs.Arrivals.{Arrival, Frame, Long, Input}
use Rattle.savi_ends.specs.Octets.{NothingLeft}
use Rattle.savi_ends.specs.Readings.{AddsReading}
use Rattle.stream_io.specs.Records.{length_in}
use Rattle.stream_io.specs.Streams.{IsAtFault, IsRun}

pub data State : Type 0 where
  -- the next record begins at this place, and these octets were taken from the source and belong to no record yet
  Running : (place : ℕ) (held : List ℕ) → State
  -- the input has ended so, or a read has failed
  Ended : (ending : How) → State

-- an input without arrivals
abbrev pub ended : How → Input
ended ending = record { arrivals = []; ending = ending }

-- A reader in this state will give this input but for its stamps, where these octets are left in its source.
abbrev pub Comes : Bool → State → List ℕ → Input → Type 0
Comes seen (Running place held) octets input = IsRun seen place input.arrivals input.ending (held ++ octets)
Comes seen (Ended ending) octets input = input ≡ ended ending

-- where the next record begins
abbrev pub record_place : State → ℕ
record_place (Running place held) = place
record_place (Ended ending) = 0

-- how many octets were taken so far
abbrev pub octets_taken : State → ℕ
octets_taken (Running place held) = place + length held
octets_taken (Ended ending) = 0

-- the octets of the longest record: its length, and what that may count
abbrev pub longest_record : ℕ
longest_record = 4 + 262144

-- the most octets that are taken from a source at once
abbrev pub longest_piece : ℕ
longest_piece = 4096

-- the most octets that are taken from the front of a record on, before it is known how that record is
abbrev pub longest_reach : ℕ
longest_reach = longest_record + longest_piece

-- the octets of a length, by which a record is known at fault
abbrev pub front_octets : ℕ
front_octets = 4

-- So many octets were taken of an input that is at fault at this place: no more than up to the end of the longest record
-- there, and where octets are left no more than up to the end of its length, each with one piece. Else what is there was
-- cut short.
abbrev pub IsNearStreamFault : ℕ → ℕ → Option (List ℕ) → Type 0
IsNearStreamFault at taken left =
    (taken ≤ at + longest_reach) × (¬ NothingLeft left → taken ≤ at + (front_octets + longest_piece))

-- the state holds no place past 2^62
abbrev pub IsPlaced : State → Type 0
IsPlaced state = record_place state ≤ 2 ^ 62

-- From the first state to the second one these octets were taken and gave these arrivals: whatever comes behind them, the
-- arrivals come before it.
abbrev pub HasRead : State → State → List ℕ → List Arrival → Type 0
HasRead first now gave arrivals =
    (seen : Bool) (rest : List ℕ) (later : List Arrival) (ending : How)
    → Comes seen now rest (record { arrivals = later; ending = ending })
    → Comes seen first (gave ++ rest) (record { arrivals = arrivals ++ later; ending = ending })

-- One arrival was read, a record of at least 4 octets, and the reader stands behind it.
pub record HasReadOne (old new : State) (gave : List ℕ) (arrival : Arrival) : Type 0 where
  pub read : HasRead old new gave (arrival ∷ [])
  pub size : ℕ
  pub held : List ℕ
  pub running : new ≡ Running (record_place old + size) held
  pub some : 4 ≤ size
  pub placed : record_place old + size ≤ 2 ^ 62
  pub all : octets_taken new ≡ octets_taken old + length gave

-- The input ends so, whatever is left behind what was taken; or since nothing is left. From a place at fault on no more was
-- taken than the longest record and one piece have, and where octets are left no more than a length and one piece.
abbrev pub HasEnded : State → State → List ℕ → Option (List ℕ) → How → Type 0
HasEnded old new gave left ending =
    (new ≡ Ended ending)
    × (((seen : Bool) (rest : List ℕ) → Comes seen old (gave ++ rest) (ended ending))
    ⊎ (NothingLeft left × Comes true old gave (ended ending)))
    × ((at : ℕ) → ending ≡ how.Malformed at → IsNearStreamFault at (octets_taken old + length gave) left)

-- What an answer says of the octets that were taken for it, of the buffer, and of what is left.
abbrev pub Answers : State → State → List ℕ → List ℕ → Option (List ℕ) → Next → Type 0
Answers old new gave buf left (next.Frame stamp len) = (len ≤ 1518) × HasReadOne old new gave (Frame stamp (take len buf))
Answers old new gave buf left (next.Long stamp len) = (1518 < len) × (len ≤ 262144) × HasReadOne old new gave (Long stamp len)
Answers old new gave buf left next.End = HasEnded old new gave left how.End
Answers old new gave buf left (next.Malformed at) = HasEnded old new gave left (how.Malformed at)
Answers old new gave buf left next.Failed = (new ≡ Ended how.Failed) × Comes false old gave (ended how.Failed)

-- The stamp of an arrival is a reading of the clock, and for nothing else the clock is read.
abbrev pub Stamps : {C : Type 0} → (C → Option (List ℕ)) → C → C → Next → Type 0
Stamps readings old new (next.Frame stamp len) = AddsReading (readings old) (readings new) stamp
Stamps readings old new (next.Long stamp len) = AddsReading (readings old) (readings new) stamp
Stamps readings old new next.End = new ≡ old
Stamps readings old new (next.Malformed at) = new ≡ old
Stamps readings old new next.Failed = new ≡ old

-- These octets decide the record at their front: it is whole, or at fault.
abbrev pub DecideRecord : ℕ → List ℕ → Type 0
DecideRecord place held = IsAtFault place held ⊎ (4 + length_in held ≤ length held)

-- the answer of an input that has ended so
abbrev pub answer_of : How → Option Next
answer_of how.End = Some next.End
answer_of (how.Malformed at) = Some (next.Malformed at)
answer_of how.Failed = Some next.Failed
answer_of how.Quit = None
answer_of (how.Overlong at) = None
answer_of how.Unwritten = None
answer_of how.Paused = None

-- what a reader that has ended answers again and again
abbrev pub last_answer : State → Option Next
last_answer (Running place held) = None
last_answer (Ended ending) = answer_of ending
