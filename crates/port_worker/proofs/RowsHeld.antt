-- What a turn within a segment makes of what all segments hold.
use Rattle.std.proofs.Common.{◌≡◌, ℕ, Bool, List, [], ◌∷◌, ◌++◌, sym, ap, ◌∙◌, append_assoc, Option, Some}
use Rattle.savi_kinds.specs.declared.plan.Plan.{Plan}
use Rattle.savi_kinds.specs.declared.entry.Who.TheVariants as passes
use Rattle.savi_kinds.specs.declared.entry.How.{How}
use Rattle.savi_kinds.specs.Ports.{number_of}
use Rattle.savi_kinds.specs.Arrivals.{Arrival}
use Rattle.cli_lang.specs.Arrivals.{Line}
use Rattle.hist_store.specs.Rows.{Row}
use Rattle.checkpoint.specs.Bases.{Base}
use Rattle.savi_history.specs.ControlInputs.{control_end, entered_lines}
use Rattle.savi_history.specs.PortInputs.{arrived, input_end}
use Rattle.savi_history.specs.Passes.{control_pass, has_ended}
use Rattle.savi_history.specs.Replay.{Stops, entered}
use Rattle.savi_history.specs.Turns.{Turn, Arrives, Commands, Ends}
use Rattle.savi_history.proofs.ControlSame.{ControlSame}
use Rattle.savi_history.proofs.PortInputs.{HoldsEnd, HoldsMore, HoldsSame, end_entered, more_entered}
use Rattle.savi_segments.specs.Replay.{Run, base_in, has_ended_in, run_with, segments_of}
use Rattle.savi_segments.specs.Segments.{joined}
use Rattle.savi_segments.specs.Sent.{replies_in}
use Rattle.savi_segments.specs.Unbroken.{unbroken, without_pauses}
use Rattle.savi_segments.proofs.Adjoined.{said_over}
use Rattle.port_worker.proofs.Unbroken.{IsUnpaused, alike_in, arrived_said, control_said, input_said, lines_said}

-- what all segments hold of inputs: their rows, but for pauses
abbrev pub rows_of : Run → List Row
rows_of run = unbroken (segments_of run)

-- what a turn of a port adds to what rows hold of it
abbrev pub IsHeld : Turn → List Row → List Row → Type 0
IsHeld (Arrives port arrival) old new = HoldsMore (number_of port) old new arrival
IsHeld (Commands line) old new = Unit {0}
IsHeld (Ends (passes.Ingress port) how) old new = HoldsEnd (number_of port) old new how
IsHeld (Ends passes.Control how) old new = Unit {0}
IsHeld (Ends passes.Ticker how) old new = Unit {0}
IsHeld (Ends (passes.Egress port) how) old new = Unit {0}

pub held_entered : (plan : Plan) (base : Base) (stops : Stops) (turn : Turn) (past : List Row) → IsHeld turn past (entered plan base stops turn past)
held_entered plan base stops (Arrives port arrival) past = more_entered plan base stops past port arrival
held_entered plan base stops (Commands line) past = tt
held_entered plan base stops (Ends (passes.Ingress port) how) past = end_entered plan base past port how
held_entered plan base stops (Ends passes.Control how) past = tt
held_entered plan base stops (Ends passes.Ticker how) past = tt
held_entered plan base stops (Ends (passes.Egress port) how) past = tt

-- two runs hold the same of control
pub record ControlKept (plan : Plan) (run now : Run) : Type 0 where
  pub lines_same : entered_lines (rows_of now) ≡ entered_lines (rows_of run)
  pub end_same : control_end (rows_of now) ≡ control_end (rows_of run)
  pub replies_same : replies_in plan (segments_of now) ≡ replies_in plan (segments_of run)
  pub over_same : has_ended_in plan (control_pass plan) now ≡ has_ended_in plan (control_pass plan) run

-- What is so within a segment in which nothing is paused is so of all segments.
module _ (run : Run) (now : List Row) (none_run : IsUnpaused run.past) (none_now : IsUnpaused now) where
  abbrev early : List Row
  early = joined run.closed

  abbrev after : Run
  after = run_with run now

  pub same_in : (n : ℕ) → HoldsSame n run.past now → HoldsSame n (rows_of run) (rows_of after)
  same_in n same = record {
    arrivals_same = arrived_said now early none_now n ∙ ap (λ (l : List Arrival). arrived n (without_pauses early) ++ l) same.arrivals_same ∙ sym (arrived_said run.past early none_run n);
    end_same = input_said now early none_now n ∙ ap (λ (e : Option How). said_over e (input_end n (without_pauses early))) same.end_same ∙ sym (input_said run.past early none_run n);
  }

  more_in : (n : ℕ) (arrival : Arrival) → HoldsMore n run.past now arrival → HoldsMore n (rows_of run) (rows_of after) arrival
  more_in n arrival more = record {
    arrivals_more = arrived_said now early none_now n
        ∙ ap (λ (l : List Arrival). arrived n (without_pauses early) ++ l) more.arrivals_more
        ∙ sym (append_assoc (arrived n (without_pauses early)) (arrived n run.past) (arrival ∷ []))
        ∙ ap (λ (l : List Arrival). l ++ arrival ∷ []) (sym (arrived_said run.past early none_run n));
    end_same = input_said now early none_now n ∙ ap (λ (e : Option How). said_over e (input_end n (without_pauses early))) more.end_same ∙ sym (input_said run.past early none_run n);
  }

  end_in : (n : ℕ) (how : How) → HoldsEnd n run.past now how → HoldsEnd n (rows_of run) (rows_of after) how
  end_in n how ends = record {
    arrivals_same = arrived_said now early none_now n ∙ ap (λ (l : List Arrival). arrived n (without_pauses early) ++ l) ends.arrivals_same ∙ sym (arrived_said run.past early none_run n);
    ended_so = input_said now early none_now n ∙ ap (λ (e : Option How). said_over e (input_end n (without_pauses early))) ends.ended_so;
  }

  pub held_in : (turn : Turn) → IsHeld turn run.past now → IsHeld turn (rows_of run) (rows_of after)
  held_in (Arrives port arrival) held = more_in (number_of port) arrival held
  held_in (Commands line) held = tt
  held_in (Ends (passes.Ingress port) how) held = end_in (number_of port) how held
  held_in (Ends passes.Control how) held = tt
  held_in (Ends passes.Ticker how) held = tt
  held_in (Ends (passes.Egress port) how) held = tt

  -- of lines and of how control ended
  pub lines_in : (more : List Line) → entered_lines now ≡ entered_lines run.past ++ more → entered_lines (rows_of after) ≡ entered_lines (rows_of run) ++ more
  lines_in more is =
      lines_said now early none_now
      ∙ ap (λ (l : List Line). entered_lines (without_pauses early) ++ l) is
      ∙ sym (append_assoc (entered_lines (without_pauses early)) (entered_lines run.past) more)
      ∙ ap (λ (l : List Line). l ++ more) (sym (lines_said run.past early none_run))

  pub control_in : control_end now ≡ control_end run.past → control_end (rows_of after) ≡ control_end (rows_of run)
  control_in same =
      control_said now early none_now ∙ ap (λ (e : Option How). said_over e (control_end (without_pauses early))) same ∙ sym (control_said run.past early none_run)

  pub control_ended_in : (how : How) → control_end now ≡ Some how → control_end (rows_of after) ≡ Some how
  control_ended_in how is = control_said now early none_now ∙ ap (λ (e : Option How). said_over e (control_end (without_pauses early))) is

  pub over_in : (plan : Plan) (pass : ℕ) → has_ended (base_in plan run) pass now ≡ has_ended (base_in plan run) pass run.past → has_ended_in plan pass after ≡ has_ended_in plan pass run
  over_in plan pass same = sym (alike_in plan after pass none_now) ∙ same ∙ alike_in plan run pass none_run

  pub over_as : (plan : Plan) (pass : ℕ) (b : Bool) → has_ended (base_in plan run) pass now ≡ b → has_ended_in plan pass after ≡ b
  over_as plan pass b is = sym (alike_in plan after pass none_now) ∙ is

  pub kept_in : (plan : Plan) → ControlSame plan (base_in plan run) run.past now → ControlKept plan run after
  kept_in plan same = record {
    lines_same = lines_said now early none_now ∙ ap (λ (l : List Line). entered_lines (without_pauses early) ++ l) same.lines_same ∙ sym (lines_said run.past early none_run);
    end_same = control_in same.end_same;
    replies_same = ap (λ (l : List (List ℕ)). replies_in plan run.closed ++ l) same.replies_same;
    over_same = over_in plan (control_pass plan) same.ended_same;
  }
