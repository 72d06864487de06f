-- Runs that tell the same: a run and what it is once room was made.
use Rattle.std.proofs.Common.{◌≡◌, ℕ, suc, ◌+◌, ◌<◌, Bool, true, false, if◌then◌else◌, List, [], ◌++◌, length, get_or, refl, ap, ◌∙◌, subst, arith, append-nil, inl, inr}
use Rattle.std.proofs.lemmas.Bool.{cases_lt}
use Rattle.std.specs.List.Sorted.{IsStrictlyIncreasing}
use Rattle.savi_kinds.specs.declared.plan.Plan.{Plan}
use Rattle.savi_kinds.specs.ValidPlan.{numbers_of}
use Rattle.hist_store.specs.Rows.{Row}
use Rattle.checkpoint.specs.Bases.{Base}
use Rattle.savi_history.specs.ControlInputs.{control_end, entered_lines}
use Rattle.savi_history.specs.Endings.{has_pause}
use Rattle.savi_history.specs.Limits.{has_room}
use Rattle.savi_history.specs.Passes.{control_pass, egress_pass, has_ended, pass_count, place_of}
use Rattle.savi_history.specs.PortOutputs.{output_end}
use Rattle.savi_history.specs.Queues.{Item, queue}
use Rattle.savi_history.specs.Replay.{Stops}
use Rattle.savi_history.specs.Turns.{Turn, Arrives, Commands, Ends}
use Rattle.savi_history.proofs.PassNumbers.{number_at, place_at}
use Rattle.savi_segments.specs.Replay.{Run, base_in, has_ended_in, inputs_paused, pieces_in, room_made, segments_of, turned}
use Rattle.savi_segments.specs.Sent.{before_last_drain_in, replies_in, sent_in}
use Rattle.savi_segments.proofs.Turning.{control_shows, ended_turned, ingress_shows}
use Rattle.port_worker.specs.ControlOutputs.{AreAllowed}
use Rattle.port_worker.specs.Outputs.{Allows}
use Rattle.port_worker.proofs.KeptOutputs.{KeepsIn}
use Rattle.port_worker.proofs.RowsHeld.{ControlKept, rows_of}
use Rattle.port_worker.proofs.Unbroken.{IsUnpaused}
use Rattle.port_worker.proofs.Unpaused.{sends_turned, turned_unbroken}

pub record IsAlike (plan : Plan) (run now : Run) : Type 0 where
  pub rows_same : rows_of now ≡ rows_of run
  pub sent_same : (q : ℕ) → sent_in plan q (segments_of now) ≡ sent_in plan q (segments_of run)
  pub sure_same : (q : ℕ) → before_last_drain_in plan q (segments_of now) ≡ before_last_drain_in plan q (segments_of run)
  pub replies_same : replies_in plan (segments_of now) ≡ replies_in plan (segments_of run)
  pub over_same : (pass : ℕ) → pass < pass_count plan → has_ended_in plan pass now ≡ has_ended_in plan pass run
  pub quiet : (q : ℕ) → queue plan (base_in plan run) q run.past ≡ [] → queue plan (base_in plan now) q now.past ≡ []
  pub plain : IsUnpaused run.past → IsUnpaused now.past

pub alike_self : (plan : Plan) (run : Run) → IsAlike plan run run
alike_self plan run = record {
  rows_same = refl;
  sent_same = λ q. refl;
  sure_same = λ q. refl;
  replies_same = refl;
  over_same = λ pass below. refl;
  quiet = λ q none. none;
  plain = λ none. none;
}

pub alike_turned : (plan : Plan) (run : Run) → has_pause (inputs_paused plan (base_in plan run) run.past) ≡ true → IsAlike plan run (turned plan run)
alike_turned plan run shows =
    let base = base_in plan run in
    let sends = sends_turned plan base run.past in
    record {
      rows_same = turned_unbroken plan run shows;
      sent_same = λ q. append-nil (sent_in plan q (turned plan run).closed) ∙ ap (λ (l : List Item). sent_in plan q run.closed ++ l) (sends.sent_same q);
      sure_same = λ q. sends.sure_same q (sent_in plan q run.closed) (before_last_drain_in plan q run.closed);
      replies_same = append-nil (replies_in plan (turned plan run).closed) ∙ ap (λ (l : List (List ℕ)). replies_in plan run.closed ++ l) sends.replies_same;
      over_same = λ pass below. ended_turned plan run pass below shows;
      quiet = λ q none. refl;
      plain = λ none. refl;
    }

alike_at : (plan : Plan) (run : Run) (b : Bool) → has_room plan run.past ≡ b → (has_room plan run.past ≡ false → has_pause (inputs_paused plan (base_in plan run) run.past) ≡ true) → IsAlike plan run (if b then run else turned plan run)
alike_at plan run true room shows = alike_self plan run
alike_at plan run false room shows = alike_turned plan run (shows room)

pub alike_room : (plan : Plan) (turn : Turn) (run : Run) → (has_room plan run.past ≡ false → has_pause (inputs_paused plan (base_in plan run) run.past) ≡ true) → IsAlike plan run (room_made plan turn run)
alike_room plan (Arrives port arrival) run shows = alike_at plan run (has_room plan run.past) refl shows
alike_room plan (Commands line) run shows = alike_at plan run (has_room plan run.past) refl shows
alike_room plan (Ends who how) run shows = alike_self plan run

-- where an input is open, one is paused
pub open_shows : (plan : Plan) (base : Base) (past : List Row) (pass : ℕ) → IsStrictlyIncreasing (numbers_of plan.ports) → pass < control_pass plan + 1 → has_ended base pass past ≡ false → has_pause (inputs_paused plan base past) ≡ true
open_shows plan base past pass rising below running = elim (cases_lt pass (length plan.ports)) [
  | inl inside ↦
      let place = place_at plan pass rising inside in
      ingress_shows plan base past pass inside (ap (λ (n : ℕ). has_ended base n past) place ∙ running)
  | inr outside ↦
      let is : control_pass plan ≡ pass = omega (arith, outside, below) in
      control_shows plan base past (ap (λ (n : ℕ). has_ended base n past) is ∙ running)
]

module _ (plan : Plan) (run now : Run) (alike : IsAlike plan run now) where
  pub keeps_alike : IsStrictlyIncreasing (numbers_of plan.ports) → (n k : ℕ) → k < length plan.ports → n ≡ number_at plan k → KeepsIn plan n run now
  keeps_alike rising n k inside number =
      let place : place_of plan n ≡ k = ap (place_of plan) number ∙ place_at plan k rising inside in
      record {
        sent_same = alike.sent_same n;
        over_same = alike.over_same (egress_pass plan n) (omega (arith, place, inside));
        end_same = ap (λ (l : List Row). output_end n l) alike.rows_same;
        sure_same = alike.sure_same n;
        quiet = λ over none. alike.quiet n none;
      }

  pub control_alike : ControlKept plan run now
  control_alike = record {
    lines_same = ap (λ (l : List Row). entered_lines l) alike.rows_same;
    end_same = ap (λ (l : List Row). control_end l) alike.rows_same;
    replies_same = alike.replies_same;
    over_same = alike.over_same (control_pass plan) (omega arith);
  }

  pub pieces_alike : (q : ℕ) → pieces_in plan q now ≡ pieces_in plan q run
  pieces_alike q = ap (λ (l : List Item). suc (length l)) (alike.sent_same q)

  -- what is allowed of the one is allowed of the other
  pub allowed_alike : (known stops : Stops) → AreAllowed plan known stops now → AreAllowed plan known stops run
  allowed_alike known stops allowed = record {
    ports = λ k d within.
        let q = get_or (numbers_of plan.ports) k d in
        subst (λ (c : ℕ). Allows (known.ports q) (stops.ports q) c) (pieces_alike q) (allowed.ports k d within);
    replies = subst (λ (l : List (List ℕ)). Allows known.control stops.control (length l)) alike.replies_same allowed.replies;
  }
