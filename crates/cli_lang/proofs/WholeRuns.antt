-- The answers of call after call are one input.
use Rattle.std.proofs.Common.{◌≡◌, ℕ, Bool, true, false, List, [], ◌∷◌, ◌++◌, refl, sym, subst, ◌∙◌, ap, append-nil, Option, Some, None, IfSome, take, inl, inr}
use Rattle.savi_kinds.specs.declared.entry.How.{How}
use Rattle.savi_kinds.specs.declared.entry.How.TheVariants as how
use Rattle.savi_ends.specs.Octets.{Takes}
use Rattle.cli_lang.specs.declared.kinds.LineGot.{LineGot}
use Rattle.cli_lang.specs.declared.kinds.LineGot.TheVariants as got
use Rattle.cli_lang.specs.Arrivals.{Line, Input}
use Rattle.cli_lang.specs.Readers.{State, Running, Ended, Comes, Answers, HasReadOne, HasEnded, answer_of, ended}
use Rattle.cli_lang.specs.Calls.{Told, AreCalls, AllAnswer, AnswersAre, CallsGiveInput}
use Rattle.cli_lang.proofs.Existence.{some_later}

-- a reader that has ended answers the same
ended_stays : (live : Bool) (ending : How) (last : LineGot) (calls : List Told) (before after : Option (List ℕ)) (new : State) → answer_of ending ≡ Some last → AreCalls live (Ended ending) before calls new after → AllAnswer last calls
ended_stays live ending last [] before after new is calls_are = tt
ended_stays live ending last (told ∷ later) before after new is calls_are =
    let again : (told.answer ≡ last) × (calls_are.0 ≡ Ended ending) × (calls_are.1 ≡ before) =
    subst (λ (o : Option LineGot). IfSome o (λ answer. (told.answer ≡ answer) × (calls_are.0 ≡ Ended ending) × (calls_are.1 ≡ before))) is calls_are.2.again in
    (again.0, ended_stays live ending last later calls_are.1 after new is (subst (λ (state : State). AreCalls live state calls_are.1 later new after) again.1 calls_are.3))

-- what the calls from here on give
record Gives (live : Bool) (state : State) (octets : List ℕ) (calls : List Told) : Type 0 where
  input : Input
  comes : Comes live true state octets input
  are : AnswersAre calls input.arrivals input.ending

-- what a reader in any state will give
some_gives : (live : Bool) (state : State) (octets : List ℕ) → (input : Input) × Comes live true state octets input
some_gives live (Running place held) octets =
    let later = some_later live true place (held ++ octets) in
    (record { arrivals = later.0; ending = later.1 }, later.2)
some_gives live (Ended ending) octets = (ended ending, refl)

-- what holds of a call that ended the input
ending_comes : (live : Bool) (state new : State) (gave rest : List ℕ) (ending : How) → HasEnded live state new gave (Some rest) ending → Comes live true state (gave ++ rest) (ended ending)
ending_comes live state new gave rest ending has = elim has.1 [
  | inl whatever ↦ whatever true rest
  | inr nothing ↦ subst (λ (l : List ℕ). Comes live true state l (ended ending)) (sym (ap (λ (l : List ℕ). gave ++ l) nothing.0 ∙ append-nil gave)) nothing.1
]

-- one call in front of others
one_call : (live : Bool) (state mid : State) (gave rest buf : List ℕ) (answer : LineGot) (later : List Told) (new : State) (after : Option (List ℕ)) → Answers live state mid gave buf (Some rest) answer → AreCalls live mid (Some rest) later new after → Gives live mid rest later
    → Gives live state (gave ++ rest) (record { answer = answer; buf = buf } ∷ later)
one_call live state mid gave rest buf (got.Line stamp len) later new after answers calls_are others = line_call answers.1
  where
    line_call : HasReadOne live state mid gave (Some rest) (record { stamp = stamp; command = take len buf }) → Gives live state (gave ++ rest) (record { answer = got.Line stamp len; buf = buf } ∷ later)
    line_call (inl read) = record {
      input = record { arrivals = record { stamp = stamp; command = take len buf } ∷ others.input.arrivals; ending = others.input.ending };
      comes = read.1 true rest others.input.arrivals others.input.ending others.comes;
      are = (refl, others.are);
    }
    line_call (inr last) =
        let none : others.input ≡ ended how.End = subst (λ (s : State). Comes live true s rest others.input) last.0 others.comes in
        let stays : AnswersAre later [] how.End = subst (λ (i : Input). AnswersAre later i.arrivals i.ending) none others.are in
        record {
          input = record { arrivals = record { stamp = stamp; command = take len buf } ∷ []; ending = how.End };
          comes = subst (λ (l : List ℕ). Comes live true state l (record { arrivals = record { stamp = stamp; command = take len buf } ∷ []; ending = how.End })) (sym (ap (λ (l : List ℕ). gave ++ l) last.1 ∙ append-nil gave)) last.2;
          are = (refl, stays);
        }
one_call live state mid gave rest buf got.End later new after answers calls_are others = record {
  input = ended how.End;
  comes = ending_comes live state mid gave rest how.End answers;
  are = (refl, ended_stays live how.End got.End later (Some rest) after new refl (subst (λ (s : State). AreCalls live s (Some rest) later new after) answers.0 calls_are));
}
one_call live state mid gave rest buf (got.Malformed at) later new after answers calls_are others = record {
  input = ended (how.Malformed at);
  comes = ending_comes live state mid gave rest (how.Malformed at) answers;
  are = (refl, ended_stays live (how.Malformed at) (got.Malformed at) later (Some rest) after new refl (subst (λ (s : State). AreCalls live s (Some rest) later new after) answers.0 calls_are));
}
one_call live state mid gave rest buf (got.Overlong at) later new after answers calls_are others = record {
  input = ended (how.Overlong at);
  comes = ending_comes live state mid gave rest (how.Overlong at) answers;
  are = (refl, ended_stays live (how.Overlong at) (got.Overlong at) later (Some rest) after new refl (subst (λ (s : State). AreCalls live s (Some rest) later new after) answers.0 calls_are));
}
one_call live state mid gave rest buf got.Failed later new after answers calls_are others =
    let some = some_gives live state (gave ++ rest) in
    record {
      input = some.0;
      comes = some.1;
      are = ended_stays live how.Failed got.Failed later (Some rest) after new refl (subst (λ (s : State). AreCalls live s (Some rest) later new after) answers.0 calls_are);
    }

-- the octets that a call took from those that were left
taken : (octets gave : List ℕ) (left : Option (List ℕ)) → Takes (Some octets) left gave → (rest : List ℕ) × (left ≡ Some rest) × (octets ≡ gave ++ rest)
taken octets gave None takes = cc
taken octets gave (Some rest) takes = (rest, refl, cc)

calls_give : (live : Bool) (calls : List Told) (state : State) (octets : List ℕ) (new : State) (after : Option (List ℕ)) → AreCalls live state (Some octets) calls new after → Gives live state octets calls
calls_give live [] state octets new after calls_are =
    let some = some_gives live state octets in
    record { input = some.0; comes = some.1; are = tt }
calls_give live (told ∷ later) state octets new after calls_are =
    let call = calls_are.2.octets in
    let left = taken octets call.0 calls_are.1 call.1 in
    let answers : Answers live state calls_are.0 call.0 told.buf (Some left.0) told.answer = subst (λ (o : Option (List ℕ)). Answers live state calls_are.0 call.0 told.buf o told.answer) left.1 call.2 in
    let others_are : AreCalls live calls_are.0 (Some left.0) later new after = subst (λ (o : Option (List ℕ)). AreCalls live calls_are.0 o later new after) left.1 calls_are.3 in
    subst (λ (whole : List ℕ). Gives live state whole (told ∷ later)) (sym left.2)
    (one_call live state calls_are.0 call.0 left.0 told.buf told.answer later new after answers others_are (calls_give live later calls_are.0 left.0 new after others_are))

pub calls_give_input : CallsGiveInput
calls_give_input live octets calls new after calls_are =
    let all = calls_give live calls (Running 0 []) octets new after calls_are in
    (all.input, all.comes, all.are)
