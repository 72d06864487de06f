-- The arrivals that were told before a read failed.
use Rattle.std.proofs.Common.{◌≡◌, ℕ, false, List, [], ◌∷◌, ◌++◌, refl, sym, subst, ◌∙◌, ap, Option, Some}
use Rattle.savi_kinds.specs.declared.entry.How.{How}
use Rattle.savi_kinds.specs.declared.entry.How.TheVariants as how
use Rattle.savi_kinds.specs.declared.arrival.Next.{Next}
use Rattle.savi_kinds.specs.declared.arrival.Next.TheVariants as next
use Rattle.savi_ends.specs.Octets.{Takes}
use Rattle.savi_ends.proofs.Octets.{takes_more}
use Rattle.stream_io.specs.Readers.{State, Running, Ended, Comes, Answers, answer_of, ended}
use Rattle.stream_io.specs.Calls.{Told, Outside, AreCalls, arrivals_of, CallsBeforeFault}
use Rattle.stream_io.proofs.AheadHeld.{takes_none}
use Rattle.stream_io.proofs.WholeRuns.{again_is}

-- a reader that has ended stays so, and takes nothing
pub ended_stays : (ending : How) (last : Next) (calls : List Told) (before after : Outside) (new : State) → answer_of ending ≡ Some last → AreCalls (Ended ending) before calls new after → (new ≡ Ended ending) × (after.left ≡ before.left)
ended_stays ending last [] before after new is calls_are = (calls_are.0, ap (λ (o : Outside). o.left) calls_are.1)
ended_stays ending last (told ∷ later) before after new is calls_are =
    let again = again_is ending last calls_are.0 before calls_are.1 told is calls_are.2 in
    let rest = ended_stays ending last later calls_are.1 after new is (subst (λ (state : State). AreCalls state calls_are.1 later new after) again.1 calls_are.3) in
    (rest.0, rest.1 ∙ again.2)

-- what was given before the failed read
record Gave (state : State) (before after : Option (List ℕ)) (calls : List Told) : Type 0 where
  gave : List ℕ
  takes : Takes before after gave
  comes : Comes false state gave (record { arrivals = arrivals_of calls; ending = how.Failed })

-- after no call the reader has ended otherwise
otherwise : (ending : How) (last : Next) (mid : State) (later : List Told) (between after : Outside) → answer_of ending ≡ Some last → (Ended how.Failed ≡ Ended ending → ⊥) → mid ≡ Ended ending → AreCalls mid between later (Ended how.Failed) after → ⊥
otherwise ending last mid later between after is other state calls_are =
    other (ended_stays ending last later between after (Ended how.Failed) is (subst (λ (s : State). AreCalls s between later (Ended how.Failed) after) state calls_are)).0

not_end : Ended how.Failed ≡ Ended how.End → ⊥
not_end same = cc

not_malformed : (at : ℕ) → Ended how.Failed ≡ Ended (how.Malformed at) → ⊥
not_malformed at same = cc

one_call : (state mid : State) (gave buf : List ℕ) (answer : Next) (later : List Told) (before between after : Outside) → Takes before.left between.left gave → Answers state mid gave buf between.left answer → AreCalls mid between later (Ended how.Failed) after → Gave mid between.left after.left later
    → Gave state before.left after.left (record { answer = answer; buf = buf } ∷ later)
one_call state mid gave buf (next.Frame stamp len) later before between after takes answers calls_are others = record {
  gave = gave ++ others.gave;
  takes = takes_more gave others.gave _ _ _ takes others.takes;
  comes = answers.1.read false others.gave (arrivals_of later) how.Failed others.comes;
}
one_call state mid gave buf (next.Long stamp len) later before between after takes answers calls_are others = record {
  gave = gave ++ others.gave;
  takes = takes_more gave others.gave _ _ _ takes others.takes;
  comes = answers.2.read false others.gave (arrivals_of later) how.Failed others.comes;
}
one_call state mid gave buf next.End later before between after takes answers calls_are others =
    absurd (otherwise how.End next.End mid later between after refl not_end answers.0 calls_are)
one_call state mid gave buf (next.Malformed at) later before between after takes answers calls_are others =
    absurd (otherwise (how.Malformed at) (next.Malformed at) mid later between after refl (not_malformed at) answers.0 calls_are)
one_call state mid gave buf next.Failed later before between after takes answers calls_are others =
    let stays = ended_stays how.Failed next.Failed later between after (Ended how.Failed) refl (subst (λ (s : State). AreCalls s between later (Ended how.Failed) after) answers.0 calls_are) in
    record { gave = gave; takes = subst (λ (o : Option (List ℕ)). Takes before.left o gave) (sym stays.1) takes; comes = answers.1 }

calls_gave : (calls : List Told) (state : State) (before after : Outside) → AreCalls state before calls (Ended how.Failed) after → Gave state before.left after.left calls
calls_gave [] state before after calls_are = record {
  gave = [];
  takes = subst (λ (o : Outside). Takes before.left o.left []) (sym calls_are.1) (takes_none before.left);
  comes = subst (λ (s : State). Comes false s [] (ended how.Failed)) calls_are.0 refl;
}
calls_gave (told ∷ later) state before after calls_are =
    let call = calls_are.2.octets in
    one_call state calls_are.0 call.0 told.buf told.answer later before calls_are.1 after call.1 call.2 calls_are.3 (calls_gave later calls_are.0 calls_are.1 after calls_are.3)

pub calls_before_fault : CallsBeforeFault
calls_before_fault before calls after calls_are =
    let all = calls_gave calls (Running 0 []) before after calls_are in
    (all.gave, all.takes, all.comes)
