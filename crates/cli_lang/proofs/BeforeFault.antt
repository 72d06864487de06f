-- The lines that were told before a read failed.
use Rattle.std.proofs.Common.{◌≡◌, ℕ, Bool, true, false, List, [], ◌∷◌, ◌++◌, refl, ap, sym, subst, ◌∙◌, Option, Some, None, IfSome, take, inl, inr}
use Rattle.savi_kinds.specs.declared.entry.How.{How}
use Rattle.savi_kinds.specs.declared.entry.How.TheVariants as how
use Rattle.savi_ends.specs.Octets.{Takes}
use Rattle.savi_ends.proofs.Octets.{takes_more}
use Rattle.cli_lang.specs.declared.kinds.LineGot.{LineGot}
use Rattle.cli_lang.specs.declared.kinds.LineGot.TheVariants as got
use Rattle.cli_lang.specs.Arrivals.{Line, stamped_by}
use Rattle.cli_lang.specs.Readers.{State, Running, Ended, Comes, Answers, HasReadOne, answer_of, ended}
use Rattle.cli_lang.specs.Calls.{Told, AreCalls, lines_of, stamps_of, CallsBeforeFault}

-- a call that read nothing took nothing
takes_none : (left : Option (List ℕ)) → Takes left left []
takes_none None = refl
takes_none (Some rest) = refl

-- a reader that has ended stays so, and takes nothing
ended_stays : (live : Bool) (ending : How) (last : LineGot) (calls : List Told) (before after : Option (List ℕ)) (new : State) → answer_of ending ≡ Some last → AreCalls live (Ended ending) before calls new after → (new ≡ Ended ending) × (after ≡ before)
ended_stays live ending last [] before after new is calls_are = calls_are
ended_stays live ending last (told ∷ later) before after new is calls_are =
    let again : (told.answer ≡ last) × (calls_are.0 ≡ Ended ending) × (calls_are.1 ≡ before) =
    subst (λ (o : Option LineGot). IfSome o (λ answer. (told.answer ≡ answer) × (calls_are.0 ≡ Ended ending) × (calls_are.1 ≡ before))) is calls_are.2.again in
    let rest = ended_stays live ending last later calls_are.1 after new is (subst (λ (state : State). AreCalls live state calls_are.1 later new after) again.1 calls_are.3) in
    (rest.0, rest.1 ∙ again.2)

-- what was given before the failed read
record Gave (live : Bool) (state : State) (before after : Option (List ℕ)) (calls : List Told) : Type 0 where
  gave : List ℕ
  takes : Takes before after gave
  comes : Comes live false state gave (record { arrivals = lines_of calls; ending = how.Failed })

-- a call after which the reader has ended otherwise
otherwise : (live : Bool) (ending : How) (last : LineGot) (mid : State) (later : List Told) (left after : Option (List ℕ)) → answer_of ending ≡ Some last → (Ended how.Failed ≡ Ended ending → ⊥) → mid ≡ Ended ending → AreCalls live mid left later (Ended how.Failed) after → ⊥
otherwise live ending last mid later left after is other state calls_are =
    other (ended_stays live ending last later left after (Ended how.Failed) is (subst (λ (s : State). AreCalls live s left later (Ended how.Failed) after) state calls_are)).0

not_end : Ended how.Failed ≡ Ended how.End → ⊥
not_end same = cc

not_malformed : (at : ℕ) → Ended how.Failed ≡ Ended (how.Malformed at) → ⊥
not_malformed at same = cc

not_overlong : (at : ℕ) → Ended how.Failed ≡ Ended (how.Overlong at) → ⊥
not_overlong at same = cc

one_call : (live : Bool) (state mid : State) (gave buf : List ℕ) (answer : LineGot) (later : List Told) (before left after : Option (List ℕ)) → Takes before left gave → Answers live state mid gave buf left answer → AreCalls live mid left later (Ended how.Failed) after → Gave live mid left after later
    → Gave live state before after (record { answer = answer; buf = buf } ∷ later)
one_call live state mid gave buf (got.Line stamp len) later before left after takes answers calls_are others = line_call answers.1
  where
    line_call : HasReadOne live state mid gave left (record { stamp = stamp; command = take len buf }) → Gave live state before after (record { answer = got.Line stamp len; buf = buf } ∷ later)
    line_call (inl read) = record {
      gave = gave ++ others.gave;
      takes = takes_more gave others.gave _ _ _ takes others.takes;
      comes = read.1 false others.gave (lines_of later) how.Failed others.comes;
    }
    line_call (inr last) = absurd (otherwise live how.End got.End mid later left after refl not_end last.0 calls_are)
one_call live state mid gave buf got.End later before left after takes answers calls_are others =
    absurd (otherwise live how.End got.End mid later left after refl not_end answers.0 calls_are)
one_call live state mid gave buf (got.Malformed at) later before left after takes answers calls_are others =
    absurd (otherwise live (how.Malformed at) (got.Malformed at) mid later left after refl (not_malformed at) answers.0 calls_are)
one_call live state mid gave buf (got.Overlong at) later before left after takes answers calls_are others =
    absurd (otherwise live (how.Overlong at) (got.Overlong at) mid later left after refl (not_overlong at) answers.0 calls_are)
one_call live state mid gave buf got.Failed later before left after takes answers calls_are others =
    let stays = ended_stays live how.Failed got.Failed later left after (Ended how.Failed) refl (subst (λ (s : State). AreCalls live s left later (Ended how.Failed) after) answers.0 calls_are) in
    record { gave = gave; takes = subst (λ (o : Option (List ℕ)). Takes before o gave) (sym stays.1) takes; comes = answers.1 }

calls_gave : (live : Bool) (calls : List Told) (state : State) (before after : Option (List ℕ)) → AreCalls live state before calls (Ended how.Failed) after → Gave live state before after calls
calls_gave live [] state before after calls_are = record {
  gave = [];
  takes = subst (λ (o : Option (List ℕ)). Takes before o []) (sym calls_are.1) (takes_none before);
  comes = subst (λ (s : State). Comes live false s [] (ended how.Failed)) calls_are.0 refl;
}
calls_gave live (told ∷ later) state before after calls_are =
    let call = calls_are.2.octets in
    one_call live state calls_are.0 call.0 told.buf told.answer later before calls_are.1 after call.1 call.2 calls_are.3 (calls_gave live later calls_are.0 calls_are.1 after calls_are.3)

-- each line was told with its stamp
stamped_one : (answer : LineGot) (buf : List ℕ) (later : List Told) → lines_of later ≡ stamped_by true (stamps_of later) (lines_of later) → lines_of (record { answer = answer; buf = buf } ∷ later) ≡ stamped_by true (stamps_of (record { answer = answer; buf = buf } ∷ later)) (lines_of (record { answer = answer; buf = buf } ∷ later))
stamped_one (got.Line stamp len) buf later others = ap (λ (l : List Line). let x : Line = record { stamp = stamp; command = take len buf } in x ∷ l) others
stamped_one got.End buf later others = refl
stamped_one (got.Malformed at) buf later others = refl
stamped_one (got.Overlong at) buf later others = refl
stamped_one got.Failed buf later others = refl

stamped : (live : Bool) (calls : List Told) → lines_of calls ≡ stamped_by live (stamps_of calls) (lines_of calls)
stamped false calls = refl
stamped true [] = refl
stamped true (told ∷ later) = stamped_one told.answer told.buf later (stamped true later)

pub calls_before_fault : CallsBeforeFault
calls_before_fault live before calls after calls_are =
    let all = calls_gave live calls (Running 0 []) before after calls_are in
    (all.gave, all.takes, record { whole = lines_of calls; run = all.comes; stamps = stamped live calls })
