-- The answers of call after call are one input.
use Rattle.std.proofs.Common.{◌≡◌, ℕ, true, List, [], ◌∷◌, ◌++◌, refl, sym, subst, ◌∙◌, ap, append-nil, append_assoc, Option, Some, None, IfSome, take, inl, inr}
use Rattle.savi_kinds.specs.declared.entry.How.{How}
use Rattle.savi_kinds.specs.declared.entry.How.TheVariants as how
use Rattle.savi_kinds.specs.declared.arrival.Next.{Next}
use Rattle.savi_kinds.specs.declared.arrival.Next.TheVariants as next
use Rattle.savi_kinds.specs.Arrivals.{Frame, Long, Input}
use Rattle.savi_ends.specs.Octets.{Takes}
use Rattle.savi_ends.specs.Readings.{AddsReading}
use Rattle.stream_io.specs.Readers.{State, Running, Ended, Comes, Answers, Stamps, HasEnded, answer_of, ended}
use Rattle.stream_io.specs.Calls.{Told, Outside, IsCall, AreCalls, AllAnswer, AnswersAre, stamps_of, CallsGiveInput, AddsReadings, StampsAreReadings}
use Rattle.stream_io.proofs.Existence.{some_later}

-- what a call of a reader that has ended says
pub again_is : (ending : How) (last : Next) (mid : State) (before between : Outside) (told : Told) → answer_of ending ≡ Some last → IsCall (Ended ending) mid before between told → (told.answer ≡ last) × (mid ≡ Ended ending) × (between.left ≡ before.left)
again_is ending last mid before between told is call =
    subst (λ (o : Option Next). IfSome o (λ answer. (told.answer ≡ answer) × (mid ≡ Ended ending) × (between.left ≡ before.left))) is call.again

-- a reader that has ended answers the same
ended_stays : (ending : How) (last : Next) (calls : List Told) (before after : Outside) (new : State) → answer_of ending ≡ Some last → AreCalls (Ended ending) before calls new after → AllAnswer last calls
ended_stays ending last [] before after new is calls_are = tt
ended_stays ending last (told ∷ later) before after new is calls_are =
    let again = again_is ending last calls_are.0 before calls_are.1 told is calls_are.2 in
    (again.0, ended_stays ending last later calls_are.1 after new is (subst (λ (state : State). AreCalls state calls_are.1 later new after) again.1 calls_are.3))

-- what the calls from here on give
record Gives (state : State) (octets : List ℕ) (calls : List Told) : Type 0 where
  input : Input
  comes : Comes true state octets input
  are : AnswersAre calls input.arrivals input.ending

-- what holds of a call that ended the input
ending_comes : (state new : State) (gave rest : List ℕ) (ending : How) → HasEnded state new gave (Some rest) ending → Comes true state (gave ++ rest) (ended ending)
ending_comes state new gave rest ending has = elim has.1 [
  | inl whatever ↦ whatever true rest
  | inr nothing ↦ subst (λ (l : List ℕ). Comes true state l (ended ending)) (sym (ap (λ (l : List ℕ). gave ++ l) nothing.0 ∙ append-nil gave)) nothing.1
]

-- one call in front of others
one_call : (state mid : State) (gave rest buf : List ℕ) (readings : Option (List ℕ)) (answer : Next) (later : List Told) (new : State) (after : Outside) → Answers state mid gave buf (Some rest) answer → AreCalls mid (record { left = Some rest; readings = readings }) later new after → Gives mid rest later
    → Gives state (gave ++ rest) (record { answer = answer; buf = buf } ∷ later)
one_call state mid gave rest buf readings (next.Frame stamp len) later new after answers calls_are others = record {
  input = record { arrivals = Frame stamp (take len buf) ∷ others.input.arrivals; ending = others.input.ending };
  comes = answers.1.read true rest others.input.arrivals others.input.ending others.comes;
  are = (refl, others.are);
}
one_call state mid gave rest buf readings (next.Long stamp len) later new after answers calls_are others = record {
  input = record { arrivals = Long stamp len ∷ others.input.arrivals; ending = others.input.ending };
  comes = answers.2.read true rest others.input.arrivals others.input.ending others.comes;
  are = (refl, others.are);
}
one_call state mid gave rest buf readings next.End later new after answers calls_are others = record {
  input = ended how.End;
  comes = ending_comes state mid gave rest how.End answers;
  are = (refl, ended_stays how.End next.End later (record { left = Some rest; readings = readings }) after new refl (subst (λ (s : State). AreCalls s (record { left = Some rest; readings = readings }) later new after) answers.0 calls_are));
}
one_call state mid gave rest buf readings (next.Malformed at) later new after answers calls_are others = record {
  input = ended (how.Malformed at);
  comes = ending_comes state mid gave rest (how.Malformed at) answers;
  are = (refl, ended_stays (how.Malformed at) (next.Malformed at) later (record { left = Some rest; readings = readings }) after new refl (subst (λ (s : State). AreCalls s (record { left = Some rest; readings = readings }) later new after) answers.0 calls_are));
}
one_call state mid gave rest buf readings next.Failed later new after answers calls_are others =
    let some = some_later true state (gave ++ rest) in
    record {
      input = some.0;
      comes = some.1;
      are = ended_stays how.Failed next.Failed later (record { left = Some rest; readings = readings }) after new refl (subst (λ (s : State). AreCalls s (record { left = Some rest; readings = readings }) later new after) answers.0 calls_are);
    }

-- the octets that a call took from those that were left
taken : (octets gave : List ℕ) (left : Option (List ℕ)) → Takes (Some octets) left gave → (rest : List ℕ) × (left ≡ Some rest) × (octets ≡ gave ++ rest)
taken octets gave None takes = cc
taken octets gave (Some rest) takes = (rest, refl, cc)

calls_give : (calls : List Told) (state : State) (octets : List ℕ) (readings : Option (List ℕ)) (new : State) (after : Outside) → AreCalls state (record { left = Some octets; readings = readings }) calls new after → Gives state octets calls
calls_give [] state octets readings new after calls_are =
    let some = some_later true state octets in
    record { input = some.0; comes = some.1; are = tt }
calls_give (told ∷ later) state octets readings new after calls_are =
    let mid = calls_are.0 in
    let between = calls_are.1 in
    let call = calls_are.2.octets in
    let left = taken octets call.0 between.left call.1 in
    let answers : Answers state mid call.0 told.buf (Some left.0) told.answer = subst (λ (o : Option (List ℕ)). Answers state mid call.0 told.buf o told.answer) left.1 call.2 in
    let others_are : AreCalls mid (record { left = Some left.0; readings = between.readings }) later new after =
    subst (λ (o : Option (List ℕ)). AreCalls mid (record { left = o; readings = between.readings }) later new after) left.1 calls_are.3 in
    subst (λ (whole : List ℕ). Gives state whole (told ∷ later)) (sym left.2)
    (one_call state mid call.0 left.0 told.buf between.readings told.answer later new after answers others_are (calls_give later mid left.0 between.readings new after others_are))

pub calls_give_input : CallsGiveInput
calls_give_input octets readings calls new after calls_are =
    let all = calls_give calls (Running 0 []) octets readings new after calls_are in
    (all.input, all.comes, all.are)

-- for an answer that stays so the clock isn't read
unread : (ending : How) (last : Next) (old new : Option (List ℕ)) → answer_of ending ≡ Some last → Stamps (λ readings. readings) old new last → new ≡ old
unread ending (next.Frame stamp len) old new is stamps = absurd (no_frame ending stamp len is)
  where
    no_frame : (ending : How) (stamp len : ℕ) → answer_of ending ≡ Some (next.Frame stamp len) → ⊥
    no_frame how.End stamp len is = cc
    no_frame how.Quit stamp len is = cc
    no_frame (how.Malformed at) stamp len is = cc
    no_frame (how.Overlong at) stamp len is = cc
    no_frame how.Failed stamp len is = cc
    no_frame how.Unwritten stamp len is = cc
    no_frame how.Paused stamp len is = cc
unread ending (next.Long stamp len) old new is stamps = absurd (no_long ending stamp len is)
  where
    no_long : (ending : How) (stamp len : ℕ) → answer_of ending ≡ Some (next.Long stamp len) → ⊥
    no_long how.End stamp len is = cc
    no_long how.Quit stamp len is = cc
    no_long (how.Malformed at) stamp len is = cc
    no_long (how.Overlong at) stamp len is = cc
    no_long how.Failed stamp len is = cc
    no_long how.Unwritten stamp len is = cc
    no_long how.Paused stamp len is = cc
unread ending next.End old new is stamps = stamps
unread ending (next.Malformed at) old new is stamps = stamps
unread ending next.Failed old new is stamps = stamps

-- a reader that has ended reads no clock
ended_unread : (ending : How) (last : Next) (calls : List Told) (before after : Outside) (new : State) → answer_of ending ≡ Some last → AreCalls (Ended ending) before calls new after → after.readings ≡ before.readings
ended_unread ending last [] before after new is calls_are = ap (λ (o : Outside). o.readings) calls_are.1
ended_unread ending last (told ∷ later) before after new is calls_are =
    let between = calls_are.1 in
    let again = again_is ending last calls_are.0 before between told is calls_are.2 in
    let same = unread ending last before.readings between.readings is (subst (λ (answer : Next). Stamps (λ readings. readings) before.readings between.readings answer) again.0 calls_are.2.stamps) in
    ended_unread ending last later between after new is (subst (λ (state : State). AreCalls state between later new after) again.1 calls_are.3) ∙ same

adds_none_by : (old new : Option (List ℕ)) → new ≡ old → AddsReadings old new []
adds_none_by old None same = tt
adds_none_by old (Some new) same = (new, sym same, sym (append-nil new))

adds_in_front : (old mid new : Option (List ℕ)) (reading : ℕ) (readings : List ℕ) → AddsReading old mid reading → AddsReadings mid new readings → AddsReadings old new (reading ∷ readings)
adds_in_front old mid None reading readings first later = tt
adds_in_front old mid (Some new) reading readings first later =
    let one : AddsReading old (Some later.0) reading = subst (λ (o : Option (List ℕ)). AddsReading old o reading) later.1 first in
    (one.0, one.1, later.2 ∙ ap (λ (l : List ℕ). l ++ readings) one.2 ∙ append_assoc one.0 (reading ∷ []) readings)

-- the readings of one call in front of others
one_reading : (state mid : State) (gave buf : List ℕ) (left : Option (List ℕ)) (before between after : Outside) (answer : Next) (later : List Told) (new : State) → Answers state mid gave buf left answer → Stamps (λ readings. readings) before.readings between.readings answer → AreCalls mid between later new after → AddsReadings between.readings after.readings (stamps_of later)
    → AddsReadings before.readings after.readings (stamps_of (record { answer = answer; buf = buf } ∷ later))
one_reading state mid gave buf left before between after (next.Frame stamp len) later new answers stamps calls_are others =
    adds_in_front before.readings between.readings after.readings stamp (stamps_of later) stamps others
one_reading state mid gave buf left before between after (next.Long stamp len) later new answers stamps calls_are others =
    adds_in_front before.readings between.readings after.readings stamp (stamps_of later) stamps others
one_reading state mid gave buf left before between after next.End later new answers stamps calls_are others =
    adds_none_by before.readings after.readings (ended_unread how.End next.End later between after new refl (subst (λ (s : State). AreCalls s between later new after) answers.0 calls_are) ∙ stamps)
one_reading state mid gave buf left before between after (next.Malformed at) later new answers stamps calls_are others =
    adds_none_by before.readings after.readings (ended_unread (how.Malformed at) (next.Malformed at) later between after new refl (subst (λ (s : State). AreCalls s between later new after) answers.0 calls_are) ∙ stamps)
one_reading state mid gave buf left before between after next.Failed later new answers stamps calls_are others =
    adds_none_by before.readings after.readings (ended_unread how.Failed next.Failed later between after new refl (subst (λ (s : State). AreCalls s between later new after) answers.0 calls_are) ∙ stamps)

pub stamps_are_readings : StampsAreReadings
stamps_are_readings old new before after [] calls_are = adds_none_by before.readings after.readings (ap (λ (o : Outside). o.readings) calls_are.1)
stamps_are_readings old new before after (told ∷ later) calls_are =
    let call = calls_are.2.octets in
    one_reading old calls_are.0 call.0 told.buf calls_are.1.left before calls_are.1 after told.answer later new call.2 calls_are.2.stamps calls_are.3 (stamps_are_readings calls_are.0 new calls_are.1 after later calls_are.3)
