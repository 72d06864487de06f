-- What a reader of a capture is ready for, and what each of its answers says.
use Rattle.std.specs.Prelude.{◌≡◌, ℕ, ◌+◌, ◌^◌, ◌<◌, ◌≤◌, Bool, true, false, List, [], ◌∷◌, ◌++◌, length, take, Option, Some, None, IfSome}
use Rattle.savi_kinds.specs.declared.entry.How.{How}
use Rattle.savi_kinds.specs.declared.entry.How.TheVariants as how
use Rattle.savi_kinds.specs.declared.arrival.Next.{Next}
use Rattle.savi_kinds.specs.declared.arrival.Next.TheVariants as next
use Rattle.savi_kinds.specs.Arrivals.{Arrival, Frame, Long, Input}
use Rattle.savi_ends.specs.Octets.{NothingLeft}
use Rattle.pcap_io.specs.declared.kind.HeaderKind.{HeaderKind}
use Rattle.pcap_io.specs.Runs.{IsRun, Arrive, ended}

pub data State : Type 0 where
  -- nothing was read yet, and headers of these kinds are accepted
  Fresh : (kinds : List HeaderKind) → State
  -- the next record begins at this place, the number of the octets that were read so far
  Running : (kind : HeaderKind) (place : ℕ) → State
  -- the input has ended so, or a read has failed
  Ended : (ending : How) → State

-- A reader in this state will give this input, where these octets are left in its source and it is seen to end behind them
-- or not.
abbrev pub Comes : State → Bool → List ℕ → Input → Type 0
Comes (Fresh kinds) seen octets input = Arrive kinds seen octets input
Comes (Running kind place) seen octets input = IsRun kind seen place input.arrivals input.ending octets
Comes (Ended ending) seen octets input = input ≡ ended ending

-- where the next record begins: how many octets were read so far
abbrev pub record_place : State → ℕ
record_place (Fresh kinds) = 0
record_place (Running kind place) = place
record_place (Ended ending) = 0

-- the octets of the longest record: its header, and what it may have captured
abbrev pub longest_record : ℕ
longest_record = 16 + 262144

-- the octets of the longest front, by which it is known at fault: the header of a capture, or that of a record
abbrev pub longest_front : ℕ
longest_front = 24

-- the state holds no place past 2^62
abbrev pub IsPlaced : State → Type 0
IsPlaced state = record_place state ≤ 2 ^ 62

-- So many octets were read of an input that is at fault at this place: no more than up to the end of the longest record
-- there, and no more than up to the end of its front where octets are left. Else what is there was cut short.
abbrev pub IsNearFault : ℕ → ℕ → Option (List ℕ) → Type 0
IsNearFault at read left = (read ≤ at + longest_record) × (¬ NothingLeft left → read ≤ at + longest_front)

-- From the first state to the second one these octets were taken and gave these arrivals: whatever comes
-- behind them, they come before it.
abbrev pub HasRead : State → State → List ℕ → List Arrival → Type 0
HasRead first now gave arrivals =
    (seen : Bool) (rest : List ℕ) (later : List Arrival) (ending : How)
    → Comes now seen rest (record { arrivals = later; ending = ending })
    → Comes first seen (gave ++ rest) (record { arrivals = arrivals ++ later; ending = ending })

-- One arrival was read, a record of at least 16 octets, and the reader stands behind it.
pub record HasReadOne (old new : State) (gave : List ℕ) (arrival : Arrival) : Type 0 where
  pub read : HasRead old new gave (arrival ∷ [])
  pub running : (kind : HeaderKind) × (new ≡ Running kind (record_place old + length gave))
  pub some : 16 ≤ length gave
  pub placed : record_place old + length gave ≤ 2 ^ 62

-- Nothing comes any more, and the input ends so: what was taken, alone and with what is left behind it,
-- where that is told, is no arrival and this ending. From a place at fault on no more was read than the
-- longest record has, and where octets are left no more than the front that is at fault.
pub record HasEnded (old new : State) (gave : List ℕ) (left : Option (List ℕ)) (ending : How) : Type 0 where
  pub state : new ≡ Ended ending
  pub taken : Comes old true gave (ended ending)
  pub whole : IfSome left (λ rest. Comes old true (gave ++ rest) (ended ending))
  pub near : (at : ℕ) → ending ≡ how.Malformed at → IsNearFault at (record_place old + length gave) left

-- A read failed: what was taken for this answer is no whole arrival, nor one that is at fault.
pub record HasFailed (old new : State) (gave : List ℕ) : Type 0 where
  pub state : new ≡ Ended how.Failed
  pub taken : Comes old false gave (ended how.Failed)

-- What an answer says of the octets that were taken for it, of the buffer, and of what is left.
abbrev pub Answers : State → State → List ℕ → List ℕ → Option (List ℕ) → Next → Type 0
Answers old new gave buf left (next.Frame stamp len) = (len ≤ 1518) × HasReadOne old new gave (Frame stamp (take len buf))
Answers old new gave buf left (next.Long stamp len) = (1518 < len) × (len ≤ 262144) × HasReadOne old new gave (Long stamp len)
Answers old new gave buf left next.End = HasEnded old new gave left how.End
Answers old new gave buf left (next.Malformed at) = HasEnded old new gave left (how.Malformed at)
Answers old new gave buf left next.Failed = HasFailed old new gave

-- the answer of an input that has ended so
abbrev pub answer_of : How → Option Next
answer_of how.End = Some next.End
answer_of (how.Malformed at) = Some (next.Malformed at)
answer_of how.Failed = Some next.Failed
answer_of how.Quit = None
answer_of (how.Overlong at) = None
answer_of how.Unwritten = None
answer_of how.Paused = None

-- what a reader that has ended answers again and again
abbrev pub last_answer : State → Option Next
last_answer (Fresh kinds) = None
last_answer (Running kind place) = None
last_answer (Ended ending) = answer_of ending
