-- The ends of the ticker and of each egress.
use Rattle.std.proofs.Common.{◌≡◌, ◌≢◌, ℕ, suc, ◌+◌, ◌<◌, ◌≤◌, ◌==◌, Bool, true, false, if◌then◌else◌, List, [], ◌∷◌, length, drop, refl, sym, ap, ◌∙◌, subst, arith, ◌⊎◌, inl, inr, add-one, Some}
use Rattle.std.proofs.lemmas.Bool.{cases_eq}
use Rattle.std.proofs.lemmas.Bool.Decides.{nat_tests}
use Rattle.std.proofs.lemmas.List.{drop_all}
use Rattle.std.specs.List.Sorted.{IsStrictlyIncreasing}
use Rattle.savi_kinds.specs.declared.port.Port.{Port}
use Rattle.savi_kinds.specs.declared.plan.Plan.{Plan}
use Rattle.savi_kinds.specs.declared.plan.PortPlan.{PortPlan}
use Rattle.savi_kinds.specs.declared.entry.Who.{Who}
use Rattle.savi_kinds.specs.declared.entry.Who.TheVariants.{Egress, Ticker}
use Rattle.savi_kinds.specs.declared.entry.How.{How}
use Rattle.savi_kinds.specs.Ports.{number_of}
use Rattle.savi_kinds.specs.ValidPlan.{numbers_of}
use Rattle.hist_store.specs.Rows.{Row}
use Rattle.checkpoint.specs.Bases.{Base}
use Rattle.savi_history.specs.Passes.{AllEnded, control_pass, ticker_pass, egress_pass, has_ended, has_port, has_pass, place_of}
use Rattle.savi_history.specs.PortOutputs.{output_end}
use Rattle.savi_history.specs.Queues.{queue}
use Rattle.savi_history.specs.Events.{End}
use Rattle.savi_history.specs.Legal.{IsFinished}
use Rattle.savi_history.specs.Replay as replay
use Rattle.savi_history.specs.Replay.{closed, closing, with_end, egress_ended}
use Rattle.savi_history.proofs.Ends.{later_event}
use Rattle.savi_history.proofs.Waiting.{ended_now, empty_end, sent_end}
use Rattle.savi_history.proofs.PassNumbers.{number_at, place_at, known_at}
use Rattle.savi_core.specs.Machines.{Machine, base_of, with_event}
use Rattle.savi_core.specs.Steps.{Did}
use Rattle.port_worker.specs.Outputs.{IsOutputEnded}
use Rattle.port_worker.proofs.Planned.{numbers_differ}
use Rattle.port_worker.proofs.KeptOutputs.{KeepsOutput, keeps_then, keeps_ticker, keeps_egress, end_here}
use Rattle.savi_core.specs.declared.event.Stepped.{Stepped}
use Rattle.savi_core.specs.declared.event.Stepped.TheVariants as stepped

-- an end is always entered
pub did_end : (old : Machine) (who : Who) (how : How) (new : Machine) (answer : Stepped) → Did old (End who how) new answer → new ≡ with_event old (End who how)
did_end old who how new (stepped.Done entry) did = did.2
did_end old who how new (stepped.Full len) did = absurd did.0
did_end old who how new stepped.Nothing did = absurd did.1

pub record FinishesSoFar (plan : Plan) (place : ℕ) (first now : Machine) : Type 0 where
  pub plan_is : now.plan ≡ plan
  pub base_is : base_of now ≡ base_of first
  pub whole : now ≡ record first { past = now.past }
  pub closing_is : closing now.past ≡ closing first.past
  pub past : egress_ended plan (base_of first) (drop place plan.ports) now.past ≡ closed plan (base_of first) first.past
  pub ended : AllEnded (base_of first) (ticker_pass plan + 1 + place) now.past
  pub quiet : (q : ℕ) → queue plan (base_of first) q first.past ≡ [] → queue plan (base_of first) q now.past ≡ []
  pub outputs : (k : ℕ) → k < place → IsOutputEnded plan (base_of first) first.past now.past (number_at plan k)
  pub keeps : (k : ℕ) → place ≤ k → k < length plan.ports → KeepsOutput plan (base_of first) (number_at plan k) first.past now.past
  pub end_same : (k : ℕ) → place ≤ k → k < length plan.ports → output_end (number_at plan k) now.past ≡ output_end (number_at plan k) first.past

ended_at : (plan : Plan) (base : Base) (past : List Row) (how : How) (pass : ℕ) → AllEnded base (control_pass plan + 1) past → pass < ticker_pass plan + 1 → (pass ≡ ticker_pass plan) ⊎ (pass ≢ ticker_pass plan) → has_ended base pass (replay.with_event plan base past (End Ticker how)) ≡ true
ended_at plan base past how pass inputs below (inl same) = subst (λ (n : ℕ). has_ended base n (replay.with_event plan base past (End Ticker how)) ≡ true) (sym same) (ended_now plan base past Ticker how)
ended_at plan base past how pass inputs below (inr other) = later_event plan base past (End Ticker how) pass (inputs pass (omega arith))

pub finish_start : (first now : Machine) (how : How) → how ≡ closing first.past → AllEnded (base_of first) (control_pass first.plan + 1) first.past → now ≡ with_event first (End Ticker how) → FinishesSoFar first.plan 0 first now
finish_start first now how how_is inputs made =
    let base = base_of first in
    let past_is : now.past ≡ replay.with_event first.plan base first.past (End Ticker (closing first.past)) =
    ap (λ (m : Machine). m.past) made ∙ ap (λ (h : How). replay.with_event first.plan base first.past (End Ticker h)) how_is in
    record {
      plan_is = ap (λ (m : Machine). m.plan) made;
      base_is = ap base_of made;
      whole = made ∙ ap (λ (l : List Row). record first { past = l }) (sym (ap (λ (m : Machine). m.past) made));
      closing_is = ap closing past_is;
      past = ap (λ (l : List Row). egress_ended first.plan base first.plan.ports l) past_is;
      ended = λ pass below. rw past_is (ended_at first.plan base first.past (closing first.past) pass inputs (omega (arith, below)) (cases_eq pass (ticker_pass first.plan)));
      quiet = λ q none. rw past_is (empty_end first.plan base first.past Ticker (closing first.past) q none);
      outputs = λ k below. absurd (omega (arith, below));
      keeps = λ k above inside. subst (λ (l : List Row). KeepsOutput first.plan base (number_at first.plan k) first.past l) (sym past_is) (keeps_ticker first.plan base first.past (closing first.past) (number_at first.plan k));
      end_same = λ k above inside. ap (λ (l : List Row). output_end (number_at first.plan k) l) past_is;
    }

apart_test : (m n : ℕ) → m ≢ n → (m == n) ≡ false
apart_test m n other = grind (arith, nat_tests)

-- the end of the egress of another port
end_other : (plan : Plan) (base : Base) (past : List Row) (port : Port) (how : How) (n : ℕ) → number_of port ≢ n → output_end n (replay.with_event plan base past (End (Egress port) how)) ≡ output_end n past
end_other plan base past port how n other = rw (apart_test (number_of port) n other) refl

module _ (plan : Plan) (place : ℕ) (first now : Machine) (port : Port) (rising : IsStrictlyIncreasing (numbers_of plan.ports)) (inside : place < length plan.ports) (number_is : number_of port ≡ number_at plan place) (so_far : FinishesSoFar plan place first now) where
  abbrev base : Base
  base = base_of first

  known : has_port plan (number_of port) ≡ true
  known = ap (has_port plan) number_is ∙ known_at plan place inside

  ended_before : AllEnded base (ticker_pass plan + 1) now.past
  ended_before = λ pass below. so_far.ended pass (omega (arith, below))

  keeps_here : KeepsOutput plan base (number_of port) first.past now.past
  keeps_here = subst (λ (n : ℕ). KeepsOutput plan base n first.past now.past) (sym number_is) (so_far.keeps place (omega arith) inside)

  end_kept : output_end (number_of port) now.past ≡ output_end (number_of port) first.past
  end_kept = subst (λ (n : ℕ). output_end n now.past ≡ output_end n first.past) (sym number_is) (so_far.end_same place (omega arith) inside)

  pass_is : egress_pass plan (number_of port) ≡ ticker_pass plan + 1 + place
  pass_is =
      let here : place_of plan (number_at plan place) ≡ place = place_at plan place rising inside in
      let same : place_of plan (number_of port) ≡ place = ap (place_of plan) number_is ∙ here in
      omega (arith, same)

  below_it : (pass : ℕ) → pass < ticker_pass plan + 1 + (place + 1) → pass ≢ egress_pass plan (number_of port) → pass < ticker_pass plan + 1 + place
  below_it pass below other = elim (cases_eq pass (ticker_pass plan + 1 + place)) [ inl same ↦ absurd (other (same ∙ sym pass_is)) | inr apart_from ↦ omega (arith, below, apart_from) ]

  pub known_here : has_pass now.plan (Egress port) ≡ true
  known_here = ap (λ (p : Plan). has_port p (number_of port)) so_far.plan_is ∙ known

  pub last_now : AllEnded (base_of now) (ticker_pass now.plan + 1) now.past
  last_now =
      subst (λ (b : Base). AllEnded b (ticker_pass now.plan + 1) now.past) (sym so_far.base_is)
      (subst (λ (p : Plan). AllEnded base (ticker_pass p + 1) now.past) (sym so_far.plan_is) ended_before)

  apart : (k : ℕ) → k ≢ place → k < length plan.ports → egress_pass plan (number_of port) ≢ egress_pass plan (number_at plan k)
  apart k other below same =
      let here = place_at plan place rising inside in
      let there = place_at plan k rising below in
      let same_here : egress_pass plan (number_at plan place) ≡ egress_pass plan (number_at plan k) = ap (egress_pass plan) (sym number_is) ∙ same in
      other (omega arith)

  numbers_apart : (k : ℕ) → k ≢ place → k < length plan.ports → number_of port ≢ number_at plan k
  numbers_apart k other below same = numbers_differ plan k place rising below inside other (sym same ∙ number_is)

  -- the next history is this one, or that with the end of this egress
  rest_by : (past : List Row) (q : PortPlan) → drop place plan.ports ≡ q ∷ drop (suc place) plan.ports → q.number ≡ port → with_end plan base port now.past ≡ past → egress_ended plan base (drop (place + 1) plan.ports) past ≡ closed plan base first.past
  rest_by past q split port_is is =
      let one : egress_ended plan base (drop place plan.ports) now.past ≡ egress_ended plan base (drop (suc place) plan.ports) past =
      ap (λ (l : List PortPlan). egress_ended plan base l now.past) split
      ∙ ap (λ (p : Port). egress_ended plan base (drop (suc place) plan.ports) (with_end plan base p now.past)) port_is
      ∙ ap (λ (l : List Row). egress_ended plan base (drop (suc place) plan.ports) l) is in
      rw add-one (sym one ∙ so_far.past)

  -- where the egress had ended
  module _ (over : has_ended base (egress_pass plan (number_of port)) now.past ≡ true) where
    still_ended : (pass : ℕ) → pass < ticker_pass plan + 1 + (place + 1) → (pass ≡ egress_pass plan (number_of port)) ⊎ (pass ≢ egress_pass plan (number_of port)) → has_ended base pass now.past ≡ true
    still_ended pass below (inl same) = ap (λ (n : ℕ). has_ended base n now.past) same ∙ over
    still_ended pass below (inr other) = so_far.ended pass (below_it pass below other)

    output_over : IsOutputEnded plan base first.past now.past (number_of port)
    output_over = record {
      sent_same = keeps_here.sent_same;
      sure_same = keeps_here.sure_same;
      ended = λ running. let e : false ≡ true = sym running ∙ sym keeps_here.ended_same ∙ over in cc;
      still = λ ended. end_kept;
    }

    outputs_over : (k : ℕ) → k < place + 1 → (k ≡ place) ⊎ (k ≢ place) → IsOutputEnded plan base first.past now.past (number_at plan k)
    outputs_over k below (inl same) = subst (λ (n : ℕ). IsOutputEnded plan base first.past now.past n) (number_is ∙ ap (number_at plan) (sym same)) output_over
    outputs_over k below (inr other) = so_far.outputs k (omega (arith, below, other))

    finish_over : (q : PortPlan) → drop place plan.ports ≡ q ∷ drop (suc place) plan.ports → q.number ≡ port → FinishesSoFar plan (place + 1) first (record now { past = now.past })
    finish_over q split port_is = record {
      plan_is = so_far.plan_is;
      base_is = so_far.base_is;
      whole = so_far.whole;
      closing_is = so_far.closing_is;
      past = rest_by now.past q split port_is (rw over refl);
      ended = λ pass below. still_ended pass below (cases_eq pass (egress_pass plan (number_of port)));
      quiet = so_far.quiet;
      outputs = λ k below. outputs_over k below (cases_eq k place);
      keeps = λ k above below. so_far.keeps k (omega (arith, above)) below;
      end_same = λ k above below. so_far.end_same k (omega (arith, above)) below;
    }

  -- where the egress ends now
  module _ (running : has_ended base (egress_pass plan (number_of port)) now.past ≡ false) where
    abbrev ended_row : List Row
    ended_row = replay.with_event plan base now.past (End (Egress port) (closing now.past))

    ended_then : (pass : ℕ) → pass < ticker_pass plan + 1 + (place + 1) → (pass ≡ egress_pass plan (number_of port)) ⊎ (pass ≢ egress_pass plan (number_of port)) → has_ended base pass ended_row ≡ true
    ended_then pass below (inl same) = subst (λ (n : ℕ). has_ended base n ended_row ≡ true) (sym same) (ended_now plan base now.past (Egress port) (closing now.past))
    ended_then pass below (inr other) = later_event plan base now.past (End (Egress port) (closing now.past)) pass (so_far.ended pass (below_it pass below other))

    keeps_next : (k : ℕ) → k ≢ place → k < length plan.ports → KeepsOutput plan base (number_at plan k) now.past ended_row
    keeps_next k other below = keeps_egress plan base now.past port (closing now.past) (number_at plan k) (numbers_apart k other below) (apart k other below)

    end_next : (k : ℕ) → k ≢ place → k < length plan.ports → output_end (number_at plan k) ended_row ≡ output_end (number_at plan k) now.past
    end_next k other below = end_other plan base now.past port (closing now.past) (number_at plan k) (numbers_apart k other below)

    output_now : IsOutputEnded plan base first.past ended_row (number_of port)
    output_now = record {
      sent_same = sent_end plan base now.past (Egress port) (closing now.past) (number_of port) ∙ keeps_here.sent_same;
      sure_same = keeps_here.sure_same;
      ended = λ open_first. end_here plan base now.past port (closing now.past) ∙ ap (λ (h : How). Some h) so_far.closing_is;
      still = λ ended. let e : true ≡ false = sym ended ∙ sym keeps_here.ended_same ∙ running in cc;
    }

    output_later : (k : ℕ) → k ≢ place → k < length plan.ports → IsOutputEnded plan base first.past now.past (number_at plan k) → IsOutputEnded plan base first.past ended_row (number_at plan k)
    output_later k other below was =
        let keeps = keeps_next k other below in
        record {
          sent_same = keeps.sent_same ∙ was.sent_same;
          sure_same = λ early text. keeps.sure_same early text ∙ was.sure_same early text;
          ended = λ open_first. end_next k other below ∙ was.ended open_first;
          still = λ ended. end_next k other below ∙ was.still ended;
        }

    outputs_now : (k : ℕ) → k < place + 1 → (k ≡ place) ⊎ (k ≢ place) → IsOutputEnded plan base first.past ended_row (number_at plan k)
    outputs_now k below (inl same) = subst (λ (n : ℕ). IsOutputEnded plan base first.past ended_row n) (number_is ∙ ap (number_at plan) (sym same)) output_now
    outputs_now k below (inr other) = output_later k other (omega (arith, below, inside)) (so_far.outputs k (omega (arith, below, other)))

    finish_step : (q : PortPlan) → drop place plan.ports ≡ q ∷ drop (suc place) plan.ports → q.number ≡ port → FinishesSoFar plan (place + 1) first (record now { past = ended_row })
    finish_step q split port_is = record {
      plan_is = so_far.plan_is;
      base_is = so_far.base_is;
      whole = ap (λ (m : Machine). record m { past = ended_row }) so_far.whole;
      closing_is = so_far.closing_is;
      past = rest_by ended_row q split port_is (rw running refl);
      ended = λ pass below. ended_then pass below (cases_eq pass (egress_pass plan (number_of port)));
      quiet = λ n none. empty_end plan base now.past (Egress port) (closing now.past) n (so_far.quiet n none);
      outputs = λ k below. outputs_now k below (cases_eq k place);
      keeps = λ k above below. keeps_then plan base (number_at plan k) first.past now.past ended_row (so_far.keeps k (omega (arith, above)) below) (keeps_next k (λ same. absurd (omega (arith, above, same))) below);
      end_same = λ k above below. end_next k (λ same. absurd (omega (arith, above, same))) below ∙ so_far.end_same k (omega (arith, above)) below;
    }

  finish_by : (b : Bool) → has_ended base (egress_pass plan (number_of port)) now.past ≡ b → (q : PortPlan) → drop place plan.ports ≡ q ∷ drop (suc place) plan.ports → q.number ≡ port
      → FinishesSoFar plan (place + 1) first (record now { past = if b then now.past else replay.with_event plan base now.past (End (Egress port) (closing now.past)) })
  finish_by true is q split port_is = finish_over is q split port_is
  finish_by false is q split port_is = finish_step is q split port_is

  pub finish_more : (next : Machine) → next ≡ record now { past = with_end now.plan (base_of now) port now.past } → (q : PortPlan) → drop place plan.ports ≡ q ∷ drop (suc place) plan.ports → q.number ≡ port → FinishesSoFar plan (place + 1) first next
  finish_more next made q split port_is =
      let ends : with_end now.plan (base_of now) port now.past ≡ with_end plan base port now.past =
      ap (λ (p : Plan). with_end p (base_of now) port now.past) so_far.plan_is ∙ ap (λ (b : Base). with_end plan b port now.past) so_far.base_is in
      let next_is : next ≡ record now { past = with_end plan base port now.past } = made ∙ ap (λ (l : List Row). record now { past = l }) ends in
      subst (λ (m : Machine). FinishesSoFar plan (place + 1) first m) (sym next_is)
      (finish_by (has_ended base (egress_pass plan (number_of port)) now.past) refl q split port_is)

-- behind the last port every pass has ended
pub all_finished : (plan : Plan) (place : ℕ) (first now : Machine) → place ≡ length plan.ports → FinishesSoFar plan place first now → IsFinished plan (base_of first) now.past
all_finished plan place first now all so_far = λ pass below. so_far.ended pass (omega (arith, below, all))

-- every output has ended, or had failed
pub outputs_ended : (plan : Plan) (place : ℕ) (first now : Machine) (k : ℕ) → place ≡ length plan.ports → FinishesSoFar plan place first now → k < length plan.ports → IsOutputEnded plan (base_of first) first.past now.past (number_at plan k)
outputs_ended plan place first now k all so_far within = so_far.outputs k (omega arith)

-- the segment is closed, and nothing else has changed
pub all_made : (place : ℕ) (first now : Machine) → place ≡ length first.plan.ports → FinishesSoFar first.plan place first now → now ≡ record first { past = closed first.plan (base_of first) first.past }
all_made place first now all so_far =
    let none : drop place first.plan.ports ≡ [] = drop_all place first.plan.ports (omega arith) in
    so_far.whole
    ∙ ap (λ (l : List Row). record first { past = l }) (ap (λ (l : List PortPlan). egress_ended first.plan (base_of first) l now.past) (sym none) ∙ so_far.past)
