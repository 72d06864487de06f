-- The arrivals that were told by a reader that goes on.
use Rattle.std.proofs.Common.{◌≡◌, ℕ, false, List, [], ◌∷◌, ◌++◌, refl, sym, subst, append-nil, append_assoc, Option, Some, take}
use Rattle.savi_kinds.specs.declared.entry.How.{How}
use Rattle.savi_kinds.specs.declared.entry.How.TheVariants as how
use Rattle.savi_kinds.specs.declared.arrival.Next.{Next}
use Rattle.savi_kinds.specs.declared.arrival.Next.TheVariants as next
use Rattle.savi_kinds.specs.Arrivals.{Arrival, Frame, Long}
use Rattle.savi_ends.specs.Octets.{Takes}
use Rattle.savi_ends.proofs.Octets.{takes_more}
use Rattle.stream_io.specs.Streams.{IsRun}
use Rattle.stream_io.specs.Readers.{State, Running, Ended, Comes, Answers, HasRead, answer_of}
use Rattle.stream_io.specs.Calls.{Told, Outside, AreCalls, arrivals_of, CallsBeforeMore}
use Rattle.stream_io.proofs.AheadHeld.{takes_none}
use Rattle.stream_io.proofs.BeforeFault.{ended_stays}
use Rattle.stream_io.proofs.Existence.{some_later}

-- what was given and told from one state to another
record Reads (state new : State) (before after : Option (List ℕ)) (calls : List Told) : Type 0 where
  gave : List ℕ
  takes : Takes before after gave
  read : HasRead state new gave (arrivals_of calls)

-- one arrival in front of others
read_more : (a b c : State) (gave more : List ℕ) (x : Arrival) (arrivals : List Arrival) → HasRead a b gave (x ∷ []) → HasRead b c more arrivals → HasRead a c (gave ++ more) (x ∷ arrivals)
read_more a b c gave more x arrivals first then seen rest later ending comes =
    subst (λ (octets : List ℕ). Comes seen a octets (record { arrivals = x ∷ (arrivals ++ later); ending = ending })) (sym (append_assoc gave more rest))
    (first seen (more ++ rest) (arrivals ++ later) ending (then seen rest later ending comes))

-- a reader that has ended doesn't go on
never_on : (ending : How) (last : Next) (mid : State) (later : List Told) (between after : Outside) (place : ℕ) (held : List ℕ) → answer_of ending ≡ Some last → mid ≡ Ended ending → AreCalls mid between later (Running place held) after → ⊥
never_on ending last mid later between after place held is state calls_are =
    let same = (ended_stays ending last later between after (Running place held) is (subst (λ (s : State). AreCalls s between later (Running place held) after) state calls_are)).0 in cc

one_call : (state mid : State) (gave buf : List ℕ) (answer : Next) (later : List Told) (before between after : Outside) (place : ℕ) (held : List ℕ) → Takes before.left between.left gave → Answers state mid gave buf between.left answer → AreCalls mid between later (Running place held) after → Reads mid (Running place held) between.left after.left later
    → Reads state (Running place held) before.left after.left (record { answer = answer; buf = buf } ∷ later)
one_call state mid gave buf (next.Frame stamp len) later before between after place held takes answers calls_are others = record {
  gave = gave ++ others.gave;
  takes = takes_more gave others.gave _ _ _ takes others.takes;
  read = read_more state mid (Running place held) gave others.gave (Frame stamp (take len buf)) (arrivals_of later) answers.1.read others.read;
}
one_call state mid gave buf (next.Long stamp len) later before between after place held takes answers calls_are others = record {
  gave = gave ++ others.gave;
  takes = takes_more gave others.gave _ _ _ takes others.takes;
  read = read_more state mid (Running place held) gave others.gave (Long stamp len) (arrivals_of later) answers.2.read others.read;
}
one_call state mid gave buf next.End later before between after place held takes answers calls_are others =
    absurd (never_on how.End next.End mid later between after place held refl answers.0 calls_are)
one_call state mid gave buf (next.Malformed at) later before between after place held takes answers calls_are others =
    absurd (never_on (how.Malformed at) (next.Malformed at) mid later between after place held refl answers.0 calls_are)
one_call state mid gave buf next.Failed later before between after place held takes answers calls_are others =
    absurd (never_on how.Failed next.Failed mid later between after place held refl answers.0 calls_are)

reads_on : (calls : List Told) (state : State) (before after : Outside) (place : ℕ) (held : List ℕ) → AreCalls state before calls (Running place held) after → Reads state (Running place held) before.left after.left calls
reads_on [] state before after place held calls_are = record {
  gave = [];
  takes = subst (λ (o : Outside). Takes before.left o.left []) (sym calls_are.1) (takes_none before.left);
  read = subst (λ (s : State). HasRead state s [] []) (sym calls_are.0) (λ seen rest later ending comes. comes);
}
reads_on (told ∷ later) state before after place held calls_are =
    let call = calls_are.2.octets in
    one_call state calls_are.0 call.0 told.buf told.answer later before calls_are.1 after place held call.1 call.2 calls_are.3 (reads_on later calls_are.0 calls_are.1 after place held calls_are.3)

pub calls_before_more : CallsBeforeMore
calls_before_more before calls place held after calls_are =
    let all = reads_on calls (Running 0 []) before after place held calls_are in
    let some = some_later false (Running place held) [] in
    let run = all.read false [] some.0.arrivals some.0.ending some.1 in (
      all.gave,
      all.takes,
      (
        some.0.arrivals,
        some.0.ending,
        subst (λ (octets : List ℕ). IsRun false 0 (arrivals_of calls ++ some.0.arrivals) some.0.ending octets) (append-nil all.gave) run,
      ),
    )
