-- Call after call of a reader, over one source and one clock.
use Rattle.std.specs.Prelude.{◌≡◌, ℕ, true, false, List, [], ◌∷◌, ◌++◌, take, Option, Some, None, IfSome}
use Rattle.savi_kinds.specs.declared.entry.How.{How}
use Rattle.savi_kinds.specs.declared.entry.How.TheVariants as how
use Rattle.savi_kinds.specs.declared.arrival.Next.{Next}
use Rattle.savi_kinds.specs.declared.arrival.Next.TheVariants as next
use Rattle.savi_kinds.specs.Arrivals.{Arrival, Frame, Long, Input}
use Rattle.savi_ends.specs.Octets.{Takes}
use Rattle.stream_io.specs.Streams.{IsRun}
use Rattle.stream_io.specs.Readers.{State, Running, Ended, Answers, Stamps, last_answer}

-- an answer, and what the buffer holds then
pub record Told : Type 0 where
  pub answer : Next
  pub buf : List ℕ

-- what a source has left and what a clock has read, where they tell it
pub record Outside : Type 0 where
  pub left : Option (List ℕ)
  pub readings : Option (List ℕ)

-- What each call says of the reader, of its source and of its clock, before and after.
pub record IsCall (old new : State) (before after : Outside) (told : Told) : Type 0 where
  pub octets : (gave : List ℕ) × Takes before.left after.left gave × Answers old new gave told.buf after.left told.answer
  pub stamps : Stamps (λ readings. readings) before.readings after.readings told.answer
  pub again : IfSome (last_answer old) (λ answer. (told.answer ≡ answer) × (new ≡ old) × (after.left ≡ before.left))

-- These are the answers of one call after another, in whatever pieces the source gives, and wherever it fails.
abbrev pub AreCalls : State → Outside → List Told → State → Outside → Type 0
AreCalls old before [] new after = (new ≡ old) × (after ≡ before)
AreCalls old before (told ∷ later) new after =
    (mid : State) × (between : Outside) × IsCall old mid before between told × AreCalls mid between later new after

-- each of them is this answer
abbrev pub AllAnswer : Next → List Told → Type 0
AllAnswer answer [] = Unit {0}
AllAnswer answer (told ∷ later) = (told.answer ≡ answer) × AllAnswer answer later

-- One answer, where these arrivals are still to come and then the input ends so: it is the first of them, behind which the
-- others go on; or none is left, it is the ending, and it stays so; or a read failed, and it stays so.
abbrev pub Tells : Next → List ℕ → (List Arrival → Type 0) → Type 0 → List Arrival → How → Type 0
Tells (next.Frame stamp len) buf GoOn Stays [] ending = ⊥
Tells (next.Frame stamp len) buf GoOn Stays (a ∷ arrivals) ending = (a ≡ Frame stamp (take len buf)) × GoOn arrivals
Tells (next.Long stamp len) buf GoOn Stays [] ending = ⊥
Tells (next.Long stamp len) buf GoOn Stays (a ∷ arrivals) ending = (a ≡ Long stamp len) × GoOn arrivals
Tells next.End buf GoOn Stays [] ending = (ending ≡ how.End) × Stays
Tells next.End buf GoOn Stays (a ∷ arrivals) ending = ⊥
Tells (next.Malformed at) buf GoOn Stays [] ending = (ending ≡ how.Malformed at) × Stays
Tells (next.Malformed at) buf GoOn Stays (a ∷ arrivals) ending = ⊥
Tells next.Failed buf GoOn Stays arrivals ending = Stays

-- The answers, one after the other, are the arrivals in their order and then the ending, as far as there were calls and
-- no read failed.
abbrev pub AnswersAre : List Told → List Arrival → How → Type 0
AnswersAre [] arrivals ending = Unit {0}
AnswersAre (told ∷ later) arrivals ending = Tells told.answer told.buf (λ rest. AnswersAre later rest ending) (AllAnswer told.answer later) arrivals ending

-- the arrivals that were told, one after the other, up to the first answer that is none
abbrev pub arrival_in : Next → List ℕ → List Arrival → List Arrival
arrival_in (next.Frame stamp len) buf arrivals = Frame stamp (take len buf) ∷ arrivals
arrival_in (next.Long stamp len) buf arrivals = Long stamp len ∷ arrivals
arrival_in next.End buf arrivals = []
arrival_in (next.Malformed at) buf arrivals = []
arrival_in next.Failed buf arrivals = []

abbrev pub arrivals_of : List Told → List Arrival
arrivals_of [] = []
arrivals_of (told ∷ later) = arrival_in told.answer told.buf (arrivals_of later)

-- and their stamps
abbrev pub stamp_of : Arrival → ℕ
stamp_of (Frame stamp octets) = stamp
stamp_of (Long stamp len) = stamp

abbrev pub stamps_in : List Arrival → List ℕ
stamps_in [] = []
stamps_in (a ∷ arrivals) = stamp_of a ∷ stamps_in arrivals

abbrev pub stamps_of : List Told → List ℕ
stamps_of calls = stamps_in (arrivals_of calls)

-- The answers of a new reader are the records of all the octets that its source had left, in their order, each with the
-- stamp that was told, and then how they end.
abbrev pub CallsGiveInput : Type 0
CallsGiveInput =
    (octets : List ℕ) (readings : Option (List ℕ)) (calls : List Told) (new : State) (after : Outside)
    → AreCalls (Running 0 []) (record { left = Some octets; readings = readings }) calls new after
    → (input : Input) × IsRun true 0 input.arrivals input.ending octets × AnswersAre calls input.arrivals input.ending

-- Where a read failed at last, the arrivals that a new reader told are all the records of the octets that its source gave,
-- which weren't seen to end.
abbrev pub CallsBeforeFault : Type 0
CallsBeforeFault =
    (before : Outside) (calls : List Told) (after : Outside) → AreCalls (Running 0 []) before calls (Ended how.Failed) after
    → (gave : List ℕ) × Takes before.left after.left gave × IsRun false 0 (arrivals_of calls) how.Failed gave

-- Where a new reader goes on, the arrivals that it told are the first records of the octets that its source gave, which
-- weren't seen to end.
abbrev pub CallsBeforeMore : Type 0
CallsBeforeMore =
    (before : Outside) (calls : List Told) (place : ℕ) (held : List ℕ) (after : Outside) → AreCalls (Running 0 []) before calls (Running place held) after
    → (gave : List ℕ) × Takes before.left after.left gave × ((behind : List Arrival) × (ending : How) × IsRun false 0 (arrivals_of calls ++ behind) ending gave)

-- these readings more, where the clock still tells its readings
abbrev pub AddsReadings : Option (List ℕ) → Option (List ℕ) → List ℕ → Type 0
AddsReadings old None readings = Unit {0}
AddsReadings old (Some new) readings = (before : List ℕ) × (old ≡ Some before) × (new ≡ before ++ readings)

-- The stamps that were told are the readings that the clock made, one after the other.
abbrev pub StampsAreReadings : Type 0
StampsAreReadings =
    (old new : State) (before after : Outside) (calls : List Told) → AreCalls old before calls new after
    → AddsReadings before.readings after.readings (stamps_of calls)
