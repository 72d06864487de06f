-- The answers of call after call are one input.
use Rattle.std.proofs.Common.{◌≡◌, ℕ, true, List, [], ◌∷◌, ◌++◌, refl, sym, subst, Option, Some, None, IfSome, take}
use Rattle.savi_kinds.specs.declared.entry.How.{How}
use Rattle.savi_kinds.specs.declared.entry.How.TheVariants as how
use Rattle.savi_kinds.specs.declared.arrival.Next.{Next}
use Rattle.savi_kinds.specs.declared.arrival.Next.TheVariants as next
use Rattle.savi_kinds.specs.Arrivals.{Frame, Long, Input}
use Rattle.savi_ends.specs.Octets.{Takes}
use Rattle.pcap_io.specs.Runs.{ended}
use Rattle.pcap_io.specs.Readers.{State, Fresh, Ended, Comes, Answers, answer_of}
use Rattle.pcap_io.specs.Calls.{Told, AreCalls, AllAnswer, AnswersAre, CallsGiveInput}
use Rattle.pcap_io.proofs.Existence.{some_later}

-- a reader that has ended answers the same
ended_stays : (ending : How) (last : Next) (calls : List Told) (before after : Option (List ℕ)) (new : State) → answer_of ending ≡ Some last → AreCalls (Ended ending) before calls new after → AllAnswer last calls
ended_stays ending last [] before after new is calls_are = tt
ended_stays ending last (told ∷ later) before after new is calls_are =
    let again : (told.answer ≡ last) × (calls_are.0 ≡ Ended ending) × (calls_are.1 ≡ before) =
    subst (λ (o : Option Next). IfSome o (λ answer. (told.answer ≡ answer) × (calls_are.0 ≡ Ended ending) × (calls_are.1 ≡ before))) is calls_are.2.again in
    (again.0, ended_stays ending last later calls_are.1 after new is (subst (λ (state : State). AreCalls state calls_are.1 later new after) again.1 calls_are.3))

-- what the calls from here on give
record Gives (state : State) (octets : List ℕ) (calls : List Told) : Type 0 where
  input : Input
  comes : Comes state true octets input
  are : AnswersAre calls input.arrivals input.ending

-- one call in front of others
one_call : (state mid : State) (gave rest buf : List ℕ) (answer : Next) (later : List Told) (new : State) (after : Option (List ℕ)) → Answers state mid gave buf (Some rest) answer → AreCalls mid (Some rest) later new after → Gives mid rest later
    → Gives state (gave ++ rest) (record { answer = answer; buf = buf } ∷ later)
one_call state mid gave rest buf (next.Frame stamp len) later new after answers calls_are others = record {
  input = record { arrivals = Frame stamp (take len buf) ∷ others.input.arrivals; ending = others.input.ending };
  comes = answers.1.read true rest others.input.arrivals others.input.ending others.comes;
  are = (refl, others.are);
}
one_call state mid gave rest buf (next.Long stamp len) later new after answers calls_are others = record {
  input = record { arrivals = Long stamp len ∷ others.input.arrivals; ending = others.input.ending };
  comes = answers.2.read true rest others.input.arrivals others.input.ending others.comes;
  are = (refl, others.are);
}
one_call state mid gave rest buf next.End later new after answers calls_are others = record {
  input = ended how.End;
  comes = answers.whole;
  are = (refl, ended_stays how.End next.End later (Some rest) after new refl (subst (λ (s : State). AreCalls s (Some rest) later new after) answers.state calls_are));
}
one_call state mid gave rest buf (next.Malformed at) later new after answers calls_are others = record {
  input = ended (how.Malformed at);
  comes = answers.whole;
  are = (refl, ended_stays (how.Malformed at) (next.Malformed at) later (Some rest) after new refl (subst (λ (s : State). AreCalls s (Some rest) later new after) answers.state calls_are));
}
one_call state mid gave rest buf next.Failed later new after answers calls_are others =
    let some = some_later true state (gave ++ rest) in
    record {
      input = some.0;
      comes = some.1;
      are = ended_stays how.Failed next.Failed later (Some rest) after new refl (subst (λ (s : State). AreCalls s (Some rest) later new after) answers.state calls_are);
    }

-- the octets that a call took from those that were left
taken : (octets gave : List ℕ) (left : Option (List ℕ)) → Takes (Some octets) left gave → (rest : List ℕ) × (left ≡ Some rest) × (octets ≡ gave ++ rest)
taken octets gave None takes = cc
taken octets gave (Some rest) takes = (rest, refl, cc)

calls_give : (calls : List Told) (state : State) (octets : List ℕ) (new : State) (after : Option (List ℕ)) → AreCalls state (Some octets) calls new after → Gives state octets calls
calls_give [] state octets new after calls_are = let some = some_later true state octets in record { input = some.0; comes = some.1; are = tt }
calls_give (told ∷ later) state octets new after calls_are =
    let call = calls_are.2.octets in
    let left = taken octets call.0 calls_are.1 call.1 in
    let answers : Answers state calls_are.0 call.0 told.buf (Some left.0) told.answer = subst (λ (o : Option (List ℕ)). Answers state calls_are.0 call.0 told.buf o told.answer) left.1 call.2 in
    let others_are : AreCalls calls_are.0 (Some left.0) later new after = subst (λ (o : Option (List ℕ)). AreCalls calls_are.0 o later new after) left.1 calls_are.3 in
    subst (λ (whole : List ℕ). Gives state whole (told ∷ later)) (sym left.2)
    (one_call state calls_are.0 call.0 left.0 told.buf told.answer later new after answers others_are (calls_give later calls_are.0 left.0 new after others_are))

pub calls_give_input : CallsGiveInput
calls_give_input kinds octets calls new after calls_are = let all = calls_give calls (Fresh kinds) octets new after calls_are in (all.input, all.comes, all.are)
