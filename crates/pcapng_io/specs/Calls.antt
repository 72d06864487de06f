-- Call after call of a reader, over one source.
use Rattle.std.specs.Prelude.{◌≡◌, ℕ, List, [], ◌∷◌, take, Option, Some, IfSome}
use Rattle.savi_kinds.specs.declared.entry.How.{How}
use Rattle.savi_kinds.specs.declared.entry.How.TheVariants as how
use Rattle.savi_ends.specs.Octets.{Takes}
use Rattle.pcapng_io.specs.declared.next.NgNext.{NgNext}
use Rattle.pcapng_io.specs.declared.next.NgNext.TheVariants as next
use Rattle.pcapng_io.specs.Runs.{Event, Begins, Frame, Long, Input, Arrive, at_start}
use Rattle.pcapng_io.specs.Readers.{State, Reading, Answers, last_answer}

-- an answer, and what the buffer holds then
pub record Told : Type 0 where
  pub answer : NgNext
  pub buf : List ℕ

-- What each call says of the reader and of what its source has left, before and after.
pub record IsCall (old new : State) (before after : Option (List ℕ)) (told : Told) : Type 0 where
  pub octets : (gave : List ℕ) × Takes before after gave × Answers old new gave told.buf after told.answer
  pub again : IfSome (last_answer old) (λ answer. (told.answer ≡ answer) × (new ≡ old) × (after ≡ before))

-- These are the answers of one call after another, in whatever pieces the source gives, and wherever it fails.
abbrev pub AreCalls : State → Option (List ℕ) → List Told → State → Option (List ℕ) → Type 0
AreCalls old before [] new after = (new ≡ old) × (after ≡ before)
AreCalls old before (told ∷ later) new after = (mid : State) × (left : Option (List ℕ)) × IsCall old mid before left told × AreCalls mid left later new after

-- each of them is this answer
abbrev pub AllAnswer : NgNext → List Told → Type 0
AllAnswer answer [] = Unit {0}
AllAnswer answer (told ∷ later) = (told.answer ≡ answer) × AllAnswer answer later

-- this event is the next one, and the others go on behind it
abbrev pub IsNext : Event → (List Event → Type 0) → List Event → Type 0
IsNext event GoOn [] = ⊥
IsNext event GoOn (e ∷ events) = (e ≡ event) × GoOn events

-- no event is left, and the capture ends so
abbrev pub IsLast : How → How → Type 0 → List Event → Type 0
IsLast ending is Stays [] = (ending ≡ is) × Stays
IsLast ending is Stays (e ∷ events) = ⊥

-- One answer, where these events are still to come and then the capture ends so: it is the first of them, behind which
-- the others go on; or none is left, it is the ending, and it stays so; or a read failed, and it stays so.
abbrev pub Tells : NgNext → List ℕ → (List Event → Type 0) → Type 0 → List Event → How → Type 0
Tells (next.Interface link) buf GoOn Stays events ending = IsNext (Begins link) GoOn events
Tells (next.Frame interface stamp len) buf GoOn Stays events ending = IsNext (Frame interface stamp (take len buf)) GoOn events
Tells (next.Long interface) buf GoOn Stays events ending = IsNext (Long interface) GoOn events
Tells next.End buf GoOn Stays events ending = IsLast ending how.End Stays events
Tells (next.Malformed at) buf GoOn Stays events ending = IsLast ending (how.Malformed at) Stays events
Tells next.Failed buf GoOn Stays events ending = Stays

-- The answers, one after the other, are the events in their order and then the ending, as far as there were calls and no
-- read failed.
abbrev pub AnswersAre : List Told → List Event → How → Type 0
AnswersAre [] events ending = Unit {0}
AnswersAre (told ∷ later) events ending = Tells told.answer told.buf (λ rest. AnswersAre later rest ending) (AllAnswer told.answer later) events ending

-- The answers of a new reader are what its source's octets are.
abbrev pub CallsGiveInput : Type 0
CallsGiveInput =
    (octets : List ℕ) (calls : List Told) (new : State) (after : Option (List ℕ)) → AreCalls (Reading at_start) (Some octets) calls new after
    → (input : Input) × Arrive octets input × AnswersAre calls input.events input.ending
