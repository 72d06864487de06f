-- Call after call of a reader, over one source.
use Rattle.std.specs.Prelude.{◌≡◌, ℕ, true, List, [], ◌∷◌, take, Option, Some, IfSome}
use Rattle.savi_kinds.specs.declared.entry.How.{How}
use Rattle.savi_kinds.specs.declared.entry.How.TheVariants as how
use Rattle.savi_kinds.specs.declared.arrival.Next.{Next}
use Rattle.savi_kinds.specs.declared.arrival.Next.TheVariants as next
use Rattle.savi_kinds.specs.Arrivals.{Arrival, Frame, Long, Input}
use Rattle.savi_ends.specs.Octets.{Takes}
use Rattle.pcap_io.specs.declared.kind.HeaderKind.{HeaderKind}
use Rattle.pcap_io.specs.Runs.{Arrive}
use Rattle.pcap_io.specs.Readers.{State, Fresh, Answers, last_answer}

-- an answer, and what the buffer holds then
pub record Told : Type 0 where
  pub answer : Next
  pub buf : List ℕ

-- What each call says of the reader and of what its source has left, before and after.
pub record IsCall (old new : State) (before after : Option (List ℕ)) (told : Told) : Type 0 where
  pub octets : (gave : List ℕ) × Takes before after gave × Answers old new gave told.buf after told.answer
  pub again : IfSome (last_answer old) (λ answer. (told.answer ≡ answer) × (new ≡ old) × (after ≡ before))

-- These are the answers of one call after another, in whatever pieces the source gives, and wherever it fails.
abbrev pub AreCalls : State → Option (List ℕ) → List Told → State → Option (List ℕ) → Type 0
AreCalls old before [] new after = (new ≡ old) × (after ≡ before)
AreCalls old before (told ∷ later) new after = (mid : State) × (left : Option (List ℕ)) × IsCall old mid before left told × AreCalls mid left later new after

-- each of them is this answer
abbrev pub AllAnswer : Next → List Told → Type 0
AllAnswer answer [] = Unit {0}
AllAnswer answer (told ∷ later) = (told.answer ≡ answer) × AllAnswer answer later

-- One answer, where these arrivals are still to come and then the input ends so: it is the first of them, behind which the
-- others go on; or none is left, it is the ending, and it stays so; or a read failed, and it stays so.
abbrev pub Tells : Next → List ℕ → (List Arrival → Type 0) → Type 0 → List Arrival → How → Type 0
Tells (next.Frame stamp len) buf GoOn Stays [] ending = ⊥
Tells (next.Frame stamp len) buf GoOn Stays (a ∷ arrivals) ending = (a ≡ Frame stamp (take len buf)) × GoOn arrivals
Tells (next.Long stamp len) buf GoOn Stays [] ending = ⊥
Tells (next.Long stamp len) buf GoOn Stays (a ∷ arrivals) ending = (a ≡ Long stamp len) × GoOn arrivals
Tells next.End buf GoOn Stays [] ending = (ending ≡ how.End) × Stays
Tells next.End buf GoOn Stays (a ∷ arrivals) ending = ⊥
Tells (next.Malformed at) buf GoOn Stays [] ending = (ending ≡ how.Malformed at) × Stays
Tells (next.Malformed at) buf GoOn Stays (a ∷ arrivals) ending = ⊥
Tells next.Failed buf GoOn Stays arrivals ending = Stays

-- The answers, one after the other, are the arrivals in their order and then the ending, as far as there were calls and
-- no read failed.
abbrev pub AnswersAre : List Told → List Arrival → How → Type 0
AnswersAre [] arrivals ending = Unit {0}
AnswersAre (told ∷ later) arrivals ending = Tells told.answer told.buf (λ rest. AnswersAre later rest ending) (AllAnswer told.answer later) arrivals ending

-- The answers of a fresh reader are the input that its source's octets are.
abbrev pub CallsGiveInput : Type 0
CallsGiveInput =
    (kinds : List HeaderKind) (octets : List ℕ) (calls : List Told) (new : State) (after : Option (List ℕ)) → AreCalls (Fresh kinds) (Some octets) calls new after
    → (input : Input) × Arrive kinds true octets input × AnswersAre calls input.arrivals input.ending
