-- A read or a write that failed in a legal history is one of a port of the plan, or of control.
use Rattle.std.proofs.Common.{◌≡◌, ◌≢◌, ℕ, ◌<◌, ◌==◌, ◌||◌, Bool, true, false, List, [], ◌∷◌, get_or, length, refl, sym, ap, ◌∙◌, subst, arith, if◌then◌else◌, inl, inr, Option, Some, IsSome}
use Rattle.std.proofs.lemmas.Bool.{cases_eq, eq-eqb, ne_eqb, or_right, cond-false, cond-true}
use Rattle.std.proofs.lemmas.List.{get_or-map}
use Rattle.savi_kinds.specs.declared.port.Port.{Port}
use Rattle.savi_kinds.specs.declared.plan.Plan.{Plan}
use Rattle.savi_kinds.specs.declared.plan.PortPlan.{PortPlan}
use Rattle.savi_kinds.specs.declared.entry.Who.{Who}
use Rattle.savi_kinds.specs.declared.entry.Who.TheVariants as passes
use Rattle.savi_kinds.specs.declared.entry.How.{How}
use Rattle.savi_kinds.specs.declared.entry.How.TheVariants as hows
use Rattle.savi_kinds.specs.Ports.{number_of}
use Rattle.savi_kinds.specs.ValidPlan.{numbers_of}
use Rattle.hist_store.specs.Rows.{Row}
use Rattle.checkpoint.specs.Bases.{Base}
use Rattle.savi_history.specs.Passes.{pass_of, place_of, control_pass, egress_pass, has_ended, has_port}
use Rattle.savi_history.specs.Events.{Event, Frame, Long, Command, Tick, Drain, End, row_of}
use Rattle.savi_history.specs.Legal.{IsLegal, IsOpen, MayCome}
use Rattle.savi_history.specs.PortInputs.{input_end}
use Rattle.savi_history.specs.PortOutputs.{output_end}
use Rattle.savi_history.specs.ControlInputs.{control_end}
use Rattle.savi_history.specs.Endings.{has_failed, has_failed_write, is_failed_reason, is_unwritten_reason}
use Rattle.savi_segments.proofs.Failures.{IsOfInput, IsOfOutput}
use Rattle.savi_history.proofs.PortPlaces.{placed, place_within}
use Rattle.savi_history.proofs.Waiting.{ended_now}

pub plan_element : (plans : List PortPlan) (k : ℕ) → k < length plans → PortPlan
plan_element [] k inside = absurd (omega arith)
plan_element (p ∷ ps) k inside = p

-- the number of the port at a place of the plan
pub number_of_place : (plan : Plan) (k : ℕ) (d : PortPlan) → k < length plan.ports → get_or (numbers_of plan.ports) k 0 ≡ number_of (get_or plan.ports k d).number
number_of_place plan k d inside = get_or-map (λ (p : PortPlan). number_of p.number) plan.ports k d 0 inside

failed_how : (how : How) → is_failed_reason how ≡ true → how ≡ hows.Failed
failed_how hows.End is = cc
failed_how hows.Quit is = cc
failed_how (hows.Malformed at) is = cc
failed_how (hows.Overlong at) is = cc
failed_how hows.Failed is = refl
failed_how hows.Unwritten is = cc
failed_how hows.Paused is = cc

unwritten_how : (how : How) → is_unwritten_reason how ≡ true → how ≡ hows.Unwritten
unwritten_how hows.End is = cc
unwritten_how hows.Quit is = cc
unwritten_how (hows.Malformed at) is = cc
unwritten_how (hows.Overlong at) is = cc
unwritten_how hows.Failed is = cc
unwritten_how hows.Unwritten is = refl
unwritten_how hows.Paused is = cc

pub itself : (n : ℕ) → (n == n) ≡ true
itself n = eq-eqb n n refl

module _ (plan : Plan) (base : Base) where
  -- an input, control or an output that has ended has its pass ended
  pub record Tells (past : List Row) : Type 0 where
    pub inputs : (n : ℕ) → IsSome (input_end n past) → has_ended base (place_of plan n) past ≡ true
    pub outputs : (n : ℕ) → IsSome (output_end n past) → has_ended base (egress_pass plan n) past ≡ true
    pub control : IsSome (control_end past) → has_ended base (control_pass plan) past ≡ true

  still : (past : List Row) (event : Event) (pass : ℕ) → has_ended base pass past ≡ true → has_ended base pass (row_of plan base past event ∷ past) ≡ true
  still past event pass is = or_right _ (has_ended base pass past) is

  now_ended : (past : List Row) (who : Who) (how : How) (pass : ℕ) → pass_of plan who ≡ pass → has_ended base pass (row_of plan base past (End who how) ∷ past) ≡ true
  now_ended past who how pass same = subst (λ (m : ℕ). has_ended base m (row_of plan base past (End who how) ∷ past) ≡ true) same (ended_now plan base past who how)

  tells_end : (past : List Row) (who : Who) (how : How) → Tells past → Tells (row_of plan base past (End who how) ∷ past)
  tells_end past (passes.Ingress p) how tells = record {
    inputs = λ n is. elim (cases_eq (number_of p) n) [
      | inl same ↦ now_ended past (passes.Ingress p) how (place_of plan n) (ap (place_of plan) same)
      | inr other ↦ still past (End (passes.Ingress p) how) (place_of plan n) (tells.inputs n (subst (λ (b : Bool). IsSome (if b then Some how else input_end n past)) (ne_eqb (number_of p) n other) is))
    ];
    outputs = λ n is. still past (End (passes.Ingress p) how) (egress_pass plan n) (tells.outputs n is);
    control = λ is. still past (End (passes.Ingress p) how) (control_pass plan) (tells.control is);
  }
  tells_end past passes.Control how tells = record {
    inputs = λ n is. still past (End passes.Control how) (place_of plan n) (tells.inputs n is);
    outputs = λ n is. still past (End passes.Control how) (egress_pass plan n) (tells.outputs n is);
    control = λ is. now_ended past passes.Control how (control_pass plan) refl;
  }
  tells_end past passes.Ticker how tells = record {
    inputs = λ n is. still past (End passes.Ticker how) (place_of plan n) (tells.inputs n is);
    outputs = λ n is. still past (End passes.Ticker how) (egress_pass plan n) (tells.outputs n is);
    control = λ is. still past (End passes.Ticker how) (control_pass plan) (tells.control is);
  }
  tells_end past (passes.Egress p) how tells = record {
    inputs = λ n is. still past (End (passes.Egress p) how) (place_of plan n) (tells.inputs n is);
    outputs = λ n is. elim (cases_eq (number_of p) n) [
      | inl same ↦ now_ended past (passes.Egress p) how (egress_pass plan n) (ap (egress_pass plan) same)
      | inr other ↦ still past (End (passes.Egress p) how) (egress_pass plan n) (tells.outputs n (subst (λ (b : Bool). IsSome (if b then Some how else output_end n past)) (ne_eqb (number_of p) n other) is))
    ];
    control = λ is. still past (End (passes.Egress p) how) (control_pass plan) (tells.control is);
  }

  tells_event : (past : List Row) (event : Event) → Tells past → Tells (row_of plan base past event ∷ past)
  tells_event past (Frame p stamp octets) tells = record { inputs = λ n is. tells.inputs n is; outputs = λ n is. tells.outputs n is; control = λ is. tells.control is }
  tells_event past (Long p stamp len) tells = record { inputs = λ n is. tells.inputs n is; outputs = λ n is. tells.outputs n is; control = λ is. tells.control is }
  tells_event past (Command stamp line) tells = record { inputs = λ n is. tells.inputs n is; outputs = λ n is. tells.outputs n is; control = λ is. tells.control is }
  tells_event past (Tick stamp) tells = record { inputs = λ n is. tells.inputs n is; outputs = λ n is. tells.outputs n is; control = λ is. tells.control is }
  tells_event past (Drain p count) tells = record { inputs = λ n is. tells.inputs n is; outputs = λ n is. tells.outputs n is; control = λ is. tells.control is }
  tells_event past (End who how) tells = tells_end past who how tells

  pub tells_legal : (past : List Row) → IsLegal plan base past → Tells past
  tells_legal [] legal = record { inputs = λ n is. cc; outputs = λ n is. cc; control = λ is. cc }
  tells_legal (r ∷ past) legal = subst (λ (x : Row). Tells (x ∷ past)) (sym legal.0.2) (tells_event past legal.0.0 (tells_legal past legal.1))

  -- a place whose pass has ended isn't that of a pass that ends now
  pub apart_now : (past : List Row) (f : ℕ → ℕ) (m n : ℕ) → has_ended base (f m) past ≡ false → has_ended base (f n) past ≡ true → m ≢ n
  apart_now past f m n running over same = let both : has_ended base (f n) past ≡ false = subst (λ (x : ℕ). has_ended base (f x) past ≡ false) same running in cc

  -- reads

  input_at : (past : List Row) (p : Port) (how : How) → has_port plan (number_of p) ≡ true → how ≡ hows.Failed → IsOfInput plan (row_of plan base past (End (passes.Ingress p) how) ∷ past)
  input_at past p how known is =
      let at = placed plan (number_of p) known in
      inl (
        place_of plan (number_of p),
        place_within plan (number_of p) known,
        subst (λ (n : ℕ). (if number_of p == n then Some how else input_end n past) ≡ Some hows.Failed) (sym at.number_is)
            (cond-true _ (Some how) (input_end (number_of p) past) (itself (number_of p)) ∙ ap (λ (h : How). Some h) is),
      )

  input_kept : (past : List Row) (who : Who) (how : How) → IsOpen plan base past who → Tells past → IsOfInput plan past → IsOfInput plan (row_of plan base past (End who how) ∷ past)
  input_kept past (passes.Ingress p) how open_pass tells (inl (k, inside, is)) =
      let n = get_or (numbers_of plan.ports) k 0 in
      let over = tells.inputs n (subst (λ (o : Option How). IsSome o) (sym is) refl) in
      let other = apart_now past (place_of plan) (number_of p) n open_pass.running over in
      inl (k, inside, cond-false _ (Some how) (input_end n past) (ne_eqb (number_of p) n other) ∙ is)
  input_kept past (passes.Ingress p) how open_pass tells (inr is) = inr is
  input_kept past passes.Control how open_pass tells (inl found) = inl found
  input_kept past passes.Control how open_pass tells (inr is) =
      let over = tells.control (subst (λ (o : Option How). IsSome o) (sym is) refl) in
      let running : has_ended base (control_pass plan) past ≡ false = open_pass.running in
      absurd (let both : true ≡ false = sym over ∙ running in cc)
  input_kept past passes.Ticker how open_pass tells (inl found) = inl found
  input_kept past passes.Ticker how open_pass tells (inr is) = inr is
  input_kept past (passes.Egress p) how open_pass tells (inl found) = inl found
  input_kept past (passes.Egress p) how open_pass tells (inr is) = inr is

  input_or : (past : List Row) (who : Who) (how : How) (b : Bool) → (b ≡ true → IsOfInput plan (row_of plan base past (End who how) ∷ past)) → (has_failed past ≡ true → IsOfInput plan (row_of plan base past (End who how) ∷ past)) → (b || has_failed past) ≡ true → IsOfInput plan (row_of plan base past (End who how) ∷ past)
  input_or past who how true here before is = here refl
  input_or past who how false here before is = before is

  input_end_now : (past : List Row) (who : Who) (how : How) → IsOpen plan base past who → Tells past → (has_failed past ≡ true → IsOfInput plan past) → has_failed (row_of plan base past (End who how) ∷ past) ≡ true → IsOfInput plan (row_of plan base past (End who how) ∷ past)
  input_end_now past (passes.Ingress p) how open_pass tells before is =
      input_or past (passes.Ingress p) how (is_failed_reason how) (λ reason. input_at past p how open_pass.known (failed_how how reason))
      (λ failed. input_kept past (passes.Ingress p) how open_pass tells (before failed)) is
  input_end_now past passes.Control how open_pass tells before is =
      input_or past passes.Control how (is_failed_reason how) (λ reason. inr (ap (λ (h : How). Some h) (failed_how how reason)))
      (λ failed. input_kept past passes.Control how open_pass tells (before failed)) is
  input_end_now past passes.Ticker how open_pass tells before is = input_kept past passes.Ticker how open_pass tells (before is)
  input_end_now past (passes.Egress p) how open_pass tells before is = input_kept past (passes.Egress p) how open_pass tells (before is)

  -- an event that is no end changes nothing of this
  input_same : (past now : List Row) → ((n : ℕ) → input_end n now ≡ input_end n past) → control_end now ≡ control_end past → IsOfInput plan past → IsOfInput plan now
  input_same past now inputs control (inl (k, inside, is)) = inl (k, inside, inputs _ ∙ is)
  input_same past now inputs control (inr is) = inr (control ∙ is)

  input_event : (past : List Row) (event : Event) → MayCome plan base past event → Tells past → (has_failed past ≡ true → IsOfInput plan past) → has_failed (row_of plan base past event ∷ past) ≡ true → IsOfInput plan (row_of plan base past event ∷ past)
  input_event past (Frame p stamp octets) may tells before is = input_same past (row_of plan base past (Frame p stamp octets) ∷ past) (λ n. refl) refl (before is)
  input_event past (Long p stamp len) may tells before is = input_same past (row_of plan base past (Long p stamp len) ∷ past) (λ n. refl) refl (before is)
  input_event past (Command stamp line) may tells before is = input_same past (row_of plan base past (Command stamp line) ∷ past) (λ n. refl) refl (before is)
  input_event past (Tick stamp) may tells before is = input_same past (row_of plan base past (Tick stamp) ∷ past) (λ n. refl) refl (before is)
  input_event past (Drain p count) may tells before is = input_same past (row_of plan base past (Drain p count) ∷ past) (λ n. refl) refl (before is)
  input_event past (End who how) may tells before is = input_end_now past who how may.0 tells before is

  pub legal_failed : (past : List Row) → IsLegal plan base past → has_failed past ≡ true → IsOfInput plan past
  legal_failed [] legal is = cc
  legal_failed (r ∷ past) legal is =
      let event = legal.0.0 in
      let row_is : r ≡ row_of plan base past event = legal.0.2 in
      subst (λ (x : Row). IsOfInput plan (x ∷ past)) (sym row_is)
      (input_event past event legal.0.1 (tells_legal past legal.1) (legal_failed past legal.1) (subst (λ (x : Row). has_failed (x ∷ past) ≡ true) row_is is))

  -- writes

  output_at : (past : List Row) (p : Port) (how : How) → has_port plan (number_of p) ≡ true → how ≡ hows.Failed → IsOfOutput plan (row_of plan base past (End (passes.Egress p) how) ∷ past)
  output_at past p how known is =
      let at = placed plan (number_of p) known in
      inl (
        place_of plan (number_of p),
        place_within plan (number_of p) known,
        subst (λ (n : ℕ). (if number_of p == n then Some how else output_end n past) ≡ Some hows.Failed) (sym at.number_is)
            (cond-true _ (Some how) (output_end (number_of p) past) (itself (number_of p)) ∙ ap (λ (h : How). Some h) is),
      )

  output_kept : (past : List Row) (who : Who) (how : How) → IsOpen plan base past who → Tells past → IsOfOutput plan past → IsOfOutput plan (row_of plan base past (End who how) ∷ past)
  output_kept past (passes.Ingress p) how open_pass tells (inl found) = inl found
  output_kept past (passes.Ingress p) how open_pass tells (inr is) = inr is
  output_kept past passes.Control how open_pass tells (inl found) = inl found
  output_kept past passes.Control how open_pass tells (inr is) =
      let over = tells.control (subst (λ (o : Option How). IsSome o) (sym is) refl) in
      let running : has_ended base (control_pass plan) past ≡ false = open_pass.running in
      absurd (let both : true ≡ false = sym over ∙ running in cc)
  output_kept past passes.Ticker how open_pass tells (inl found) = inl found
  output_kept past passes.Ticker how open_pass tells (inr is) = inr is
  output_kept past (passes.Egress p) how open_pass tells (inl (k, inside, is)) =
      let n = get_or (numbers_of plan.ports) k 0 in
      let over = tells.outputs n (subst (λ (o : Option How). IsSome o) (sym is) refl) in
      let other = apart_now past (egress_pass plan) (number_of p) n open_pass.running over in
      inl (k, inside, cond-false _ (Some how) (output_end n past) (ne_eqb (number_of p) n other) ∙ is)
  output_kept past (passes.Egress p) how open_pass tells (inr is) = inr is

  output_or : (past : List Row) (who : Who) (how : How) (b : Bool) → (b ≡ true → IsOfOutput plan (row_of plan base past (End who how) ∷ past)) → (has_failed_write past ≡ true → IsOfOutput plan (row_of plan base past (End who how) ∷ past)) → (b || has_failed_write past) ≡ true → IsOfOutput plan (row_of plan base past (End who how) ∷ past)
  output_or past who how true here before is = here refl
  output_or past who how false here before is = before is

  output_end_now : (past : List Row) (who : Who) (how : How) → IsOpen plan base past who → Tells past → (has_failed_write past ≡ true → IsOfOutput plan past) → has_failed_write (row_of plan base past (End who how) ∷ past) ≡ true → IsOfOutput plan (row_of plan base past (End who how) ∷ past)
  output_end_now past (passes.Ingress p) how open_pass tells before is = output_kept past (passes.Ingress p) how open_pass tells (before is)
  output_end_now past passes.Control how open_pass tells before is =
      output_or past passes.Control how (is_unwritten_reason how) (λ reason. inr (ap (λ (h : How). Some h) (unwritten_how how reason)))
      (λ failed. output_kept past passes.Control how open_pass tells (before failed)) is
  output_end_now past passes.Ticker how open_pass tells before is = output_kept past passes.Ticker how open_pass tells (before is)
  output_end_now past (passes.Egress p) how open_pass tells before is =
      output_or past (passes.Egress p) how (is_failed_reason how) (λ reason. output_at past p how open_pass.known (failed_how how reason))
      (λ failed. output_kept past (passes.Egress p) how open_pass tells (before failed)) is

  output_same : (past now : List Row) → ((n : ℕ) → output_end n now ≡ output_end n past) → control_end now ≡ control_end past → IsOfOutput plan past → IsOfOutput plan now
  output_same past now outputs control (inl (k, inside, is)) = inl (k, inside, outputs _ ∙ is)
  output_same past now outputs control (inr is) = inr (control ∙ is)

  output_event : (past : List Row) (event : Event) → MayCome plan base past event → Tells past → (has_failed_write past ≡ true → IsOfOutput plan past) → has_failed_write (row_of plan base past event ∷ past) ≡ true → IsOfOutput plan (row_of plan base past event ∷ past)
  output_event past (Frame p stamp octets) may tells before is = output_same past (row_of plan base past (Frame p stamp octets) ∷ past) (λ n. refl) refl (before is)
  output_event past (Long p stamp len) may tells before is = output_same past (row_of plan base past (Long p stamp len) ∷ past) (λ n. refl) refl (before is)
  output_event past (Command stamp line) may tells before is = output_same past (row_of plan base past (Command stamp line) ∷ past) (λ n. refl) refl (before is)
  output_event past (Tick stamp) may tells before is = output_same past (row_of plan base past (Tick stamp) ∷ past) (λ n. refl) refl (before is)
  output_event past (Drain p count) may tells before is = output_same past (row_of plan base past (Drain p count) ∷ past) (λ n. refl) refl (before is)
  output_event past (End who how) may tells before is = output_end_now past who how may.0 tells before is

  pub legal_failed_write : (past : List Row) → IsLegal plan base past → has_failed_write past ≡ true → IsOfOutput plan past
  legal_failed_write [] legal is = cc
  legal_failed_write (r ∷ past) legal is =
      let event = legal.0.0 in
      let row_is : r ≡ row_of plan base past event = legal.0.2 in
      subst (λ (x : Row). IsOfOutput plan (x ∷ past)) (sym row_is)
      (output_event past event legal.0.1 (tells_legal past legal.1) (legal_failed_write past legal.1) (subst (λ (x : Row). has_failed_write (x ∷ past) ≡ true) row_is is))
