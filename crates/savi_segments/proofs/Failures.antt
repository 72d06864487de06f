-- A read or a write that failed in legal segments is one of a port of the plan, or of control, and it says so how the pass
-- ended.
use Rattle.std.proofs.Common.{◌≡◌, ◌≢◌, ℕ, ◌<◌, ◌==◌, ◌||◌, not, Bool, true, false, List, [], ◌∷◌, ◌++◌, get_or, length, refl, sym, ap, ◌∙◌, subst, arith, if◌then◌else◌, ◌⊎◌, inl, inr, Option, Some, IsSome}
use Rattle.std.specs.Option.{is_some}
use Rattle.std.proofs.lemmas.Bool.{cases_eq, cond-false, cond-true, eq-eqb, false≢true, ne_eqb, or_right}
use Rattle.savi_kinds.specs.declared.port.Port.{Port}
use Rattle.savi_kinds.specs.declared.plan.Plan.{Plan}
use Rattle.savi_kinds.specs.declared.entry.Act.{Act}
use Rattle.savi_kinds.specs.declared.entry.Act.TheVariants as acts
use Rattle.savi_kinds.specs.declared.entry.Who.{Who}
use Rattle.savi_kinds.specs.declared.entry.Who.TheVariants as passes
use Rattle.savi_kinds.specs.declared.entry.How.{How}
use Rattle.savi_kinds.specs.declared.entry.How.TheVariants as hows
use Rattle.savi_kinds.specs.Ports.{number_of}
use Rattle.savi_kinds.specs.ValidPlan.{numbers_of}
use Rattle.hist_store.specs.Rows.{Row}
use Rattle.checkpoint.specs.Bases.{Base}
use Rattle.savi_history.specs.ControlInputs.{control_end, control_ended_by, control_ended_behind}
use Rattle.savi_history.specs.Endings.{has_failed, has_failed_write, is_failed_reason, is_failed_write, is_failed_write_of, is_paused_reason, is_unwritten_reason}
use Rattle.savi_history.specs.Events.{Event, Frame, Long, Command, Tick, Drain, End, row_of}
use Rattle.savi_history.specs.Legal.{IsLegal, IsOpen, MayCome}
use Rattle.savi_history.specs.Passes.{control_pass, egress_pass, has_ended, has_port, pass_count, pass_of, place_of}
use Rattle.savi_history.specs.PortInputs.{input_end}
use Rattle.savi_history.specs.PortOutputs.{output_end, output_ended_by, output_ended_behind}
use Rattle.savi_history.proofs.PassNumbers.{known_at, number_at}
use Rattle.savi_history.proofs.PortPlaces.{placed, place_within}
use Rattle.savi_segments.specs.Checkpoints.{end_of, up_to}
use Rattle.savi_segments.specs.Segments.{AreLegal, base_after, joined}
use Rattle.savi_segments.specs.Unbroken.{unbroken, without_pauses}
use Rattle.savi_segments.proofs.Passing.{below_in, in_ends}
use Rattle.savi_segments.proofs.Turning.{ended_first}

-- what failed is the input of a port of the plan, or control's
abbrev pub IsOfInput : Plan → List Row → Type 0
IsOfInput plan rows = ((k : ℕ) × (k < length plan.ports) × (input_end (get_or (numbers_of plan.ports) k 0) rows ≡ Some hows.Failed)) ⊎ (control_end rows ≡ Some hows.Failed)

-- the output of a port of the plan, or control's
abbrev pub IsOfOutput : Plan → List Row → Type 0
IsOfOutput plan rows = ((k : ℕ) × (k < length plan.ports) × (output_end (get_or (numbers_of plan.ports) k 0) rows ≡ Some hows.Failed)) ⊎ (control_end rows ≡ Some hows.Unwritten)

failed_how : (how : How) → is_failed_reason how ≡ true → how ≡ hows.Failed
failed_how hows.End is = cc
failed_how hows.Quit is = cc
failed_how (hows.Malformed at) is = cc
failed_how (hows.Overlong at) is = cc
failed_how hows.Failed is = refl
failed_how hows.Unwritten is = cc
failed_how hows.Paused is = cc

unwritten_how : (how : How) → is_unwritten_reason how ≡ true → how ≡ hows.Unwritten
unwritten_how hows.End is = cc
unwritten_how hows.Quit is = cc
unwritten_how (hows.Malformed at) is = cc
unwritten_how (hows.Overlong at) is = cc
unwritten_how hows.Failed is = cc
unwritten_how hows.Unwritten is = refl
unwritten_how hows.Paused is = cc

itself : (n : ℕ) → (n == n) ≡ true
itself n = eq-eqb n n refl

module _ (plan : Plan) (base : Base) where
  -- what has ended for good in a history has ended there

  end_shows : (paused here was : Bool) (how : How) (before : Option How) → (is_some before ≡ true → was ≡ true) → is_some (if paused then before else if here then Some how else before) ≡ true → (here || was) ≡ true
  end_shows true here was how before step is = or_right here was (step is)
  end_shows false true was how before step is = refl
  end_shows false false was how before step is = step is

  shows_event : (past : List Row) (event : Event) (pass : ℕ) → (is_some (end_of base pass past) ≡ true → has_ended base pass past ≡ true)
      → is_some (end_of base pass (row_of plan base past event ∷ past)) ≡ true → has_ended base pass (row_of plan base past event ∷ past) ≡ true
  shows_event past (Frame port stamp octets) pass step is = step is
  shows_event past (Long port stamp len) pass step is = step is
  shows_event past (Command stamp line) pass step is = step is
  shows_event past (Tick stamp) pass step is = step is
  shows_event past (Drain port count) pass step is = step is
  shows_event past (End who how) pass step is = end_shows (is_paused_reason how) (pass_of plan who == pass) (has_ended base pass past) how (end_of base pass past) step is

  shows : (past : List Row) (pass : ℕ) → IsLegal plan base past → is_some (end_of base pass past) ≡ true → has_ended base pass past ≡ true
  shows [] pass legal is = ended_first base pass ∙ is
  shows (r ∷ past) pass legal is =
      subst (λ (x : Row). has_ended base pass (x ∷ past) ≡ true) (sym legal.0.2)
      (shows_event past legal.0.0 pass (shows past pass legal.1) (subst (λ (x : Row). is_some (end_of base pass (x ∷ past)) ≡ true) legal.0.2 is))

  -- Rows of which the newest are this past: where they say how an input, control or an output ended, its pass has ended for
  -- good. What failed there is the input of a port or control's, or the output of one or a reply.
  pub record Tells (past rows : List Row) : Type 0 where
    pub inputs : (n : ℕ) → has_port plan n ≡ true → IsSome (input_end n rows) → is_some (end_of base (place_of plan n) past) ≡ true
    pub outputs : (n : ℕ) → has_port plan n ≡ true → IsSome (output_end n rows) → is_some (end_of base (egress_pass plan n) past) ≡ true
    pub control : IsSome (control_end rows) → is_some (end_of base (control_pass plan) past) ≡ true
    pub failed : has_failed rows ≡ true → IsOfInput plan rows
    pub unwritten : has_failed_write rows ≡ true → IsOfOutput plan rows

  -- an end that is no pause

  module _ (past rows : List Row) (who : Who) (how : How) (not_paused : is_paused_reason how ≡ false) where
    abbrev row : Row
    row = row_of plan base past (End who how)

    still : (pass : ℕ) → is_some (end_of base pass past) ≡ true → is_some (end_of base pass (row ∷ past)) ≡ true
    still pass is = rw not_paused (some_if (pass_of plan who == pass) (end_of base pass past) is)
      where
        some_if : (here : Bool) (before : Option How) → is_some before ≡ true → is_some (if here then Some how else before) ≡ true
        some_if true before is = refl
        some_if false before is = is

    now : (pass : ℕ) → pass_of plan who ≡ pass → is_some (end_of base pass (row ∷ past)) ≡ true
    now pass same = rw (not_paused, eq-eqb (pass_of plan who) pass same) refl

  -- a pass that ends now hadn't ended for good
  pub apart_now : (past : List Row) (f : ℕ → ℕ) (m n : ℕ) → IsLegal plan base past → has_ended base (f m) past ≡ false → is_some (end_of base (f n) past) ≡ true → m ≢ n
  apart_now past f m n legal running over same =
      false≢true (sym (subst (λ (x : ℕ). has_ended base (f x) past ≡ false) same running) ∙ shows past (f n) legal over)

  some_from : {end : Option How} {how : How} → end ≡ Some how → IsSome end
  some_from is = subst (λ (o : Option How). IsSome o) (sym is) refl

  either : (b rest : Bool) (P : Type 0) → (b ≡ true → P) → (rest ≡ true → P) → (b || rest) ≡ true → P
  either true rest P here before is = here refl
  either false rest P here before is = before is

  tells_end : (past rows : List Row) (who : Who) (how : How) → is_paused_reason how ≡ false → IsLegal plan base past → IsOpen plan base past who → Tells past rows → Tells (row_of plan base past (End who how) ∷ past) (row_of plan base past (End who how) ∷ rows)
  tells_end past rows (passes.Ingress p) how not_paused legal is_open tells = record {
    inputs = λ n known is. elim (cases_eq (number_of p) n) [
      | inl same ↦ now past rows (passes.Ingress p) how not_paused (place_of plan n) (ap (place_of plan) same)
      | inr other ↦ still past rows (passes.Ingress p) how not_paused (place_of plan n)
          (tells.inputs n known (subst (λ (b : Bool). IsSome (if b then Some how else input_end n rows)) (ne_eqb (number_of p) n other) is))
    ];
    outputs = λ n known is. still past rows (passes.Ingress p) how not_paused (egress_pass plan n) (tells.outputs n known is);
    control = λ is. still past rows (passes.Ingress p) how not_paused (control_pass plan) (tells.control is);
    failed = either (is_failed_reason how) (has_failed rows) (IsOfInput plan (row_of plan base past (End (passes.Ingress p) how) ∷ rows))
        (λ reason. input_at past rows p how is_open.known (failed_how how reason)) (λ before. input_kept past rows p how legal is_open tells (tells.failed before));
    unwritten = tells.unwritten;
  }
    where
      input_at : (past rows : List Row) (p : Port) (how : How) → has_port plan (number_of p) ≡ true → how ≡ hows.Failed → IsOfInput plan (row_of plan base past (End (passes.Ingress p) how) ∷ rows)
      input_at past rows p how known is =
          let at = placed plan (number_of p) known in
          inl (
            place_of plan (number_of p),
            place_within plan (number_of p) known,
            subst (λ (n : ℕ). (if number_of p == n then Some how else input_end n rows) ≡ Some hows.Failed) (sym at.number_is)
                (cond-true _ (Some how) (input_end (number_of p) rows) (itself (number_of p)) ∙ ap (λ (h : How). Some h) is),
          )

      input_kept : (past rows : List Row) (p : Port) (how : How) → IsLegal plan base past → IsOpen plan base past (passes.Ingress p) → Tells past rows → IsOfInput plan rows
          → IsOfInput plan (row_of plan base past (End (passes.Ingress p) how) ∷ rows)
      input_kept past rows p how legal is_open tells (inl (k, inside, is)) =
          let n = number_at plan k in
          let over = tells.inputs n (known_at plan k inside) (some_from is) in
          let other = apart_now past (place_of plan) (number_of p) n legal is_open.running over in
          inl (k, inside, cond-false _ (Some how) (input_end n rows) (ne_eqb (number_of p) n other) ∙ is)
      input_kept past rows p how legal is_open tells (inr is) = inr is
  tells_end past rows passes.Control how not_paused legal is_open tells = record {
    inputs = λ n known is. still past rows passes.Control how not_paused (place_of plan n) (tells.inputs n known is);
    outputs = λ n known is. still past rows passes.Control how not_paused (egress_pass plan n) (tells.outputs n known is);
    control = λ is. now past rows passes.Control how not_paused (control_pass plan) refl;
    failed = either (is_failed_reason how) (has_failed rows) (IsOfInput plan (row_of plan base past (End passes.Control how) ∷ rows))
        (λ reason. inr (ap (λ (h : How). Some h) (failed_how how reason))) (λ before. input_kept (tells.failed before));
    unwritten = either (is_unwritten_reason how) (has_failed_write rows) (IsOfOutput plan (row_of plan base past (End passes.Control how) ∷ rows))
        (λ reason. inr (ap (λ (h : How). Some h) (unwritten_how how reason))) (λ before. output_kept (tells.unwritten before));
  }
    where
      -- control had said nothing of its end before
      over : {how' : How} → control_end rows ≡ Some how' → ⊥
      over is = false≢true (sym is_open.running ∙ shows past (control_pass plan) legal (tells.control (some_from is)))

      input_kept : IsOfInput plan rows → IsOfInput plan (row_of plan base past (End passes.Control how) ∷ rows)
      input_kept (inl found) = inl found
      input_kept (inr is) = absurd (over is)

      output_kept : IsOfOutput plan rows → IsOfOutput plan (row_of plan base past (End passes.Control how) ∷ rows)
      output_kept (inl found) = inl found
      output_kept (inr is) = absurd (over is)
  tells_end past rows passes.Ticker how not_paused legal is_open tells = record {
    inputs = λ n known is. still past rows passes.Ticker how not_paused (place_of plan n) (tells.inputs n known is);
    outputs = λ n known is. still past rows passes.Ticker how not_paused (egress_pass plan n) (tells.outputs n known is);
    control = λ is. still past rows passes.Ticker how not_paused (control_pass plan) (tells.control is);
    failed = tells.failed;
    unwritten = tells.unwritten;
  }
  tells_end past rows (passes.Egress p) how not_paused legal is_open tells = record {
    inputs = λ n known is. still past rows (passes.Egress p) how not_paused (place_of plan n) (tells.inputs n known is);
    outputs = λ n known is. elim (cases_eq (number_of p) n) [
      | inl same ↦ now past rows (passes.Egress p) how not_paused (egress_pass plan n) (ap (egress_pass plan) same)
      | inr other ↦ still past rows (passes.Egress p) how not_paused (egress_pass plan n)
          (tells.outputs n known (subst (λ (b : Bool). IsSome (if b then Some how else output_end n rows)) (ne_eqb (number_of p) n other) is))
    ];
    control = λ is. still past rows (passes.Egress p) how not_paused (control_pass plan) (tells.control is);
    failed = tells.failed;
    unwritten = either (is_failed_reason how) (has_failed_write rows) (IsOfOutput plan (row_of plan base past (End (passes.Egress p) how) ∷ rows))
        (λ reason. output_at (failed_how how reason)) (λ before. output_kept (tells.unwritten before));
  }
    where
      output_at : how ≡ hows.Failed → IsOfOutput plan (row_of plan base past (End (passes.Egress p) how) ∷ rows)
      output_at is =
          let at = placed plan (number_of p) is_open.known in
          inl (
            place_of plan (number_of p),
            place_within plan (number_of p) is_open.known,
            subst (λ (n : ℕ). (if number_of p == n then Some how else output_end n rows) ≡ Some hows.Failed) (sym at.number_is)
                (cond-true _ (Some how) (output_end (number_of p) rows) (itself (number_of p)) ∙ ap (λ (h : How). Some h) is),
          )

      output_kept : IsOfOutput plan rows → IsOfOutput plan (row_of plan base past (End (passes.Egress p) how) ∷ rows)
      output_kept (inl (k, inside, is)) =
          let n = number_at plan k in
          let done = tells.outputs n (known_at plan k inside) (some_from is) in
          let other = apart_now past (egress_pass plan) (number_of p) n legal is_open.running done in
          inl (k, inside, cond-false _ (Some how) (output_end n rows) (ne_eqb (number_of p) n other) ∙ is)
      output_kept (inr is) = inr is

  -- every event

  tells_end_at : (past rows : List Row) (who : Who) (how : How) (b : Bool) → is_paused_reason how ≡ b → IsLegal plan base past → IsOpen plan base past who → Tells past rows
      → Tells (row_of plan base past (End who how) ∷ past) (if not b then row_of plan base past (End who how) ∷ rows else rows)
  tells_end_at past rows who how true paused legal is_open tells = record {
    inputs = λ n known is. rw paused (tells.inputs n known is);
    outputs = λ n known is. rw paused (tells.outputs n known is);
    control = λ is. rw paused (tells.control is);
    failed = tells.failed;
    unwritten = tells.unwritten;
  }
  tells_end_at past rows who how false not_paused legal is_open tells = tells_end past rows who how not_paused legal is_open tells

  tells_event : (past before : List Row) (event : Event) → IsLegal plan base past → MayCome plan base past event → Tells past (without_pauses (past ++ before))
      → Tells (row_of plan base past event ∷ past) (without_pauses (row_of plan base past event ∷ (past ++ before)))
  tells_event past before (Frame p stamp octets) legal may tells = record { inputs = tells.inputs; outputs = tells.outputs; control = tells.control; failed = tells.failed; unwritten = tells.unwritten }
  tells_event past before (Long p stamp len) legal may tells = record { inputs = tells.inputs; outputs = tells.outputs; control = tells.control; failed = tells.failed; unwritten = tells.unwritten }
  tells_event past before (Command stamp line) legal may tells = record { inputs = tells.inputs; outputs = tells.outputs; control = tells.control; failed = tells.failed; unwritten = tells.unwritten }
  tells_event past before (Tick stamp) legal may tells = record { inputs = tells.inputs; outputs = tells.outputs; control = tells.control; failed = tells.failed; unwritten = tells.unwritten }
  tells_event past before (Drain p count) legal may tells = record { inputs = tells.inputs; outputs = tells.outputs; control = tells.control; failed = tells.failed; unwritten = tells.unwritten }
  tells_event past before (End who how) legal may tells = tells_end_at past (without_pauses (past ++ before)) who how (is_paused_reason how) refl legal may.0 tells

  pub tells_rows : (past before : List Row) → IsLegal plan base past → Tells [] (without_pauses before) → Tells past (without_pauses (past ++ before))
  tells_rows [] before legal tells = tells
  tells_rows (r ∷ past) before legal tells =
      subst (λ (x : Row). Tells (x ∷ past) (without_pauses (x ∷ (past ++ before)))) (sym legal.0.2)
      (tells_event past before legal.0.0 legal.1 legal.0.1 (tells_rows past before legal.1 tells))

module _ (plan : Plan) where
  pub tells_segments : (segments : List (List Row)) → AreLegal plan segments → Tells plan (base_after plan segments) [] (unbroken segments)
  tells_segments [] legal = record { inputs = λ n known is. cc; outputs = λ n known is. cc; control = λ is. cc; failed = λ is. cc; unwritten = λ is. cc }
  tells_segments (segment ∷ before) legal =
      let base = base_after plan before in
      let tells = tells_rows plan base segment (joined before) legal.0 (tells_segments before legal.2) in
      let kept : (pass : ℕ) → pass < pass_count plan → is_some (end_of base pass segment) ≡ true → is_some (end_of (base_after plan (segment ∷ before)) pass []) ≡ true =
      λ pass below is. ap is_some (in_ends (λ (n : ℕ). end_of base n segment) pass (up_to (pass_count plan)) (below_in (pass_count plan) pass below)) ∙ is in
      record {
        inputs = λ n known is. let within = place_within plan n known in kept (place_of plan n) (omega (arith, within)) (tells.inputs n known is);
        outputs = λ n known is. let within = place_within plan n known in kept (egress_pass plan n) (omega (arith, within)) (tells.outputs n known is);
        control = λ is. kept (control_pass plan) (omega arith) (tells.control is);
        failed = tells.failed;
        unwritten = tells.unwritten;
      }

  pub failed_at_input : (segments : List (List Row)) → AreLegal plan segments → has_failed (unbroken segments) ≡ true → IsOfInput plan (unbroken segments)
  failed_at_input segments legal = (tells_segments segments legal).failed

  pub failed_write_at_output : (segments : List (List Row)) → AreLegal plan segments → has_failed_write (unbroken segments) ≡ true → IsOfOutput plan (unbroken segments)
  failed_write_at_output segments legal = (tells_segments segments legal).unwritten

told_egress : (here : Bool) (how : How) (before : Option How) (rest : Bool) → (before ≡ Some hows.Failed → rest ≡ true) → (if here then Some how else before) ≡ Some hows.Failed → (is_failed_reason how || rest) ≡ true
told_egress true how before rest step is = let same : how ≡ hows.Failed = cc in rw same refl
told_egress false how before rest step is = or_right _ _ (step is)

told_end : (port : ℕ) (who : Who) (how : How) (before : Option How) (rest : Bool) → (before ≡ Some hows.Failed → rest ≡ true) → output_ended_by port who how before ≡ Some hows.Failed → (is_failed_write_of who how || rest) ≡ true
told_end port (passes.Ingress p) how before rest step is = step is
told_end port passes.Control how before rest step is = or_right _ _ (step is)
told_end port passes.Ticker how before rest step is = step is
told_end port (passes.Egress p) how before rest step is = told_egress (number_of p == port) how before rest step is

told_act : (port : ℕ) (act : Act) (before : Option How) (rest : Bool) → (before ≡ Some hows.Failed → rest ≡ true) → output_ended_behind port act before ≡ Some hows.Failed → (is_failed_write act || rest) ≡ true
told_act port (acts.Frame p stamp at len) before rest step is = step is
told_act port (acts.Long p stamp len) before rest step is = step is
told_act port (acts.Tick stamp) before rest step is = step is
told_act port (acts.Command stamp at len) before rest step is = step is
told_act port (acts.Drain p count) before rest step is = step is
told_act port (acts.End who how) before rest step is = told_end port who how before rest step is

pub failed_write_told : (port : ℕ) (past : List Row) → output_end port past ≡ Some hows.Failed → has_failed_write past ≡ true
failed_write_told port [] is = cc
failed_write_told port (r ∷ past) is = told_act port r.entry.act (output_end port past) (has_failed_write past) (failed_write_told port past) is

-- the same of replies

unwritten_end : (who : Who) (how : How) (before : Option How) (rest : Bool) → (before ≡ Some hows.Unwritten → rest ≡ true) → control_ended_by who how before ≡ Some hows.Unwritten → (is_failed_write_of who how || rest) ≡ true
unwritten_end (passes.Ingress p) how before rest step is = step is
unwritten_end passes.Control how before rest step is = let same : how ≡ hows.Unwritten = cc in rw same refl
unwritten_end passes.Ticker how before rest step is = step is
unwritten_end (passes.Egress p) how before rest step is = or_right _ _ (step is)

unwritten_act : (act : Act) (before : Option How) (rest : Bool) → (before ≡ Some hows.Unwritten → rest ≡ true) → control_ended_behind act before ≡ Some hows.Unwritten → (is_failed_write act || rest) ≡ true
unwritten_act (acts.Frame p stamp at len) before rest step is = step is
unwritten_act (acts.Long p stamp len) before rest step is = step is
unwritten_act (acts.Tick stamp) before rest step is = step is
unwritten_act (acts.Command stamp at len) before rest step is = step is
unwritten_act (acts.Drain p count) before rest step is = step is
unwritten_act (acts.End who how) before rest step is = unwritten_end who how before rest step is

pub unwritten_told : (past : List Row) → control_end past ≡ Some hows.Unwritten → has_failed_write past ≡ true
unwritten_told [] is = cc
unwritten_told (r ∷ past) is = unwritten_act r.entry.act (control_end past) (has_failed_write past) (unwritten_told past) is
