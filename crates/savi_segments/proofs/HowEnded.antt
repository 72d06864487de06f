-- In legal segments a pass has ended for good as their rows say, and in a whole session they say it of each pass.
use Rattle.std.proofs.Common.{◌≡◌, ◌≢◌, ℕ, ◌<◌, ◌==◌, ◌&&◌, ◌||◌, not, Bool, true, false, if◌then◌else◌, List, [], ◌∷◌, ◌++◌, get_or, refl, sym, ap, subst, ◌∙◌, inl, inr, arith, Option, Some, None}
use Rattle.std.specs.Option.{is_some}
use Rattle.std.proofs.lemmas.Bool.{cases_eq, eq-eqb, false≢true, ne_eqb}
use Rattle.savi_kinds.specs.declared.plan.Plan.{Plan}
use Rattle.savi_kinds.specs.declared.entry.Act.{Act}
use Rattle.savi_kinds.specs.declared.entry.Act.TheVariants as acts
use Rattle.savi_kinds.specs.declared.entry.Who.{Who}
use Rattle.savi_kinds.specs.declared.entry.Who.TheVariants as passes
use Rattle.savi_kinds.specs.declared.entry.How.{How}
use Rattle.savi_kinds.specs.Ports.{number_of}
use Rattle.savi_kinds.specs.ValidPlan.{numbers_of}
use Rattle.hist_store.specs.Rows.{Row}
use Rattle.checkpoint.specs.Bases.{Base}
use Rattle.savi_history.specs.ControlInputs.{control_end, control_ended_behind}
use Rattle.savi_history.specs.Endings.{is_paused_reason}
use Rattle.savi_history.specs.Events.{Event, Frame, Long, Command, Tick, Drain, End, row_of}
use Rattle.savi_history.specs.Legal.{IsLegal, MayCome}
use Rattle.savi_history.specs.Passes.{control_pass, egress_pass, has_ended, has_pass, has_port, is_end, pass_count, pass_of, place_of}
use Rattle.savi_history.specs.PortInputs.{ended_behind, input_end}
use Rattle.savi_history.specs.PortOutputs.{output_end, output_ended_behind}
use Rattle.savi_history.proofs.PortPlaces.{placed, place_within}
use Rattle.savi_segments.specs.Checkpoints.{end_of, ended_after, up_to}
use Rattle.savi_segments.specs.Segments.{AreLegal, IsWholeSession, base_after, joined}
use Rattle.savi_segments.specs.Unbroken.{unbroken, without_pauses}
use Rattle.savi_segments.proofs.Passing.{below_in, in_ends}
use Rattle.savi_segments.proofs.Turning.{ended_alike, ended_first}

-- what rows say of the end of a pass: nothing but by its own ends
pub record Says (plan : Plan) (pass : ℕ) (said : List Row → Option How) : Type 0 where
  pub nothing : said [] ≡ None
  pub goes_on : (r : Row) (rows : List Row) → is_end r.entry.act ≡ false → said (r ∷ rows) ≡ said rows
  pub ends : (base : Base) (past rows : List Row) (who : Who) (how : How) → has_pass plan who ≡ true
      → said (row_of plan base past (End who how) ∷ rows) ≡ (if pass_of plan who == pass then Some how else said rows)

module _ (plan : Plan) (pass : ℕ) (said : List Row → Option How) (says : Says plan pass said) where
  end_said : (base : Base) (past rows : List Row) (who : Who) (how : How) (b : Bool) → is_paused_reason how ≡ b → has_pass plan who ≡ true → end_of base pass past ≡ said rows
      → end_of base pass (row_of plan base past (End who how) ∷ past) ≡ said (if not b then row_of plan base past (End who how) ∷ rows else rows)
  end_said base past rows who how true paused known same = rw paused same
  end_said base past rows who how false good known same =
      ap (λ (b : Bool). if b then end_of base pass past else if pass_of plan who == pass then Some how else end_of base pass past) good
      ∙ ap (λ (o : Option How). if pass_of plan who == pass then Some how else o) same
      ∙ sym (says.ends base past rows who how known)

  event_said : (base : Base) (past before : List Row) (event : Event) → MayCome plan base past event → end_of base pass past ≡ said (without_pauses (past ++ before))
      → end_of base pass (row_of plan base past event ∷ past) ≡ said (without_pauses (row_of plan base past event ∷ (past ++ before)))
  event_said base past before (Frame port stamp octets) may same = same ∙ sym (says.goes_on (row_of plan base past (Frame port stamp octets)) (without_pauses (past ++ before)) refl)
  event_said base past before (Long port stamp len) may same = same ∙ sym (says.goes_on (row_of plan base past (Long port stamp len)) (without_pauses (past ++ before)) refl)
  event_said base past before (Command stamp line) may same = same ∙ sym (says.goes_on (row_of plan base past (Command stamp line)) (without_pauses (past ++ before)) refl)
  event_said base past before (Tick stamp) may same = same ∙ sym (says.goes_on (row_of plan base past (Tick stamp)) (without_pauses (past ++ before)) refl)
  event_said base past before (Drain port count) may same = same ∙ sym (says.goes_on (row_of plan base past (Drain port count)) (without_pauses (past ++ before)) refl)
  event_said base past before (End who how) may same = end_said base past (without_pauses (past ++ before)) who how (is_paused_reason how) refl may.0.known same

  pub rows_say : (base : Base) (past before : List Row) → IsLegal plan base past → end_of base pass [] ≡ said (without_pauses before)
      → end_of base pass past ≡ said (without_pauses (past ++ before))
  rows_say base [] before legal same = same
  rows_say base (r ∷ past) before legal same =
      subst (λ (x : Row). end_of base pass (x ∷ past) ≡ said (without_pauses (x ∷ (past ++ before)))) (sym legal.0.2)
      (event_said base past before legal.0.0 legal.0.1 (rows_say base past before legal.1 same))

  module _ (below : pass < pass_count plan) where
    -- what the next segment goes on from
    pub first_says : (segments : List (List Row)) → AreLegal plan segments → end_of (base_after plan segments) pass [] ≡ said (unbroken segments)
    first_says [] legal = sym says.nothing
    first_says (segment ∷ before) legal =
        let base = base_after plan before in
        in_ends (λ (n : ℕ). end_of base n segment) pass (up_to (pass_count plan)) (below_in (pass_count plan) pass below)
        ∙ rows_say base segment (joined before) legal.0 (first_says before legal.2)

    -- a segment that goes on from them
    pub said_in : (segment : List Row) (before : List (List Row)) → IsLegal plan (base_after plan before) segment → AreLegal plan before → end_of (base_after plan before) pass segment ≡ said (unbroken (segment ∷ before))
    said_in segment before here legal = rows_say (base_after plan before) segment (joined before) here (first_says before legal)

    pub newest_says : (segment : List Row) (before : List (List Row)) → AreLegal plan (segment ∷ before) → end_of (base_after plan before) pass segment ≡ said (unbroken (segment ∷ before))
    newest_says segment before legal = said_in segment before legal.0 legal.2

    -- in a whole session each pass has ended for good
    pub all_said : (segments : List (List Row)) → IsWholeSession plan segments → is_some (said (unbroken segments)) ≡ true
    all_said [] whole = absurd whole.closed
    all_said (segment ∷ before) whole =
        let base = base_after plan before in
        ap is_some (sym (newest_says segment before whole.legal))
        ∙ sym (ended_alike plan base segment pass whole.legal.0 whole.closed.1)
        ∙ whole.closed.0 pass below

-- one of two ends, by a test that is decided alike
alike : (a b : Bool) (how : How) (before : Option How) → a ≡ b → (if a then Some how else before) ≡ (if b then Some how else before)
alike a b how before same = ap (λ (t : Bool). if t then Some how else before) same

apart : (a b : ℕ) (how : How) (before : Option How) → a ≢ b → before ≡ (if a == b then Some how else before)
apart a b how before other = sym (ap (λ (t : Bool). if t then Some how else before) (ne_eqb a b other))

itself : (n : ℕ) → (n == n) ≡ true
itself n = eq-eqb n n refl

module _ (plan : Plan) where
  -- two ports of the plan are one where their places are
  one_place : (m n : ℕ) → has_port plan m ≡ true → has_port plan n ≡ true → place_of plan m ≡ place_of plan n → m ≡ n
  one_place m n there known same =
      sym (placed plan m there).number_is ∙ ap (λ (k : ℕ). get_or (numbers_of plan.ports) k 0) same ∙ (placed plan n known).number_is

  -- a test on ports is one on their passes
  test_is : (f : ℕ → ℕ) (m n : ℕ) → (f m ≡ f n → m ≡ n) → (m == n) ≡ (f m == f n)
  test_is f m n one = elim (cases_eq m n) [
    | inl same ↦ eq-eqb m n same ∙ sym (eq-eqb (f m) (f n) (ap f same))
    | inr other ↦ ne_eqb m n other ∙ sym (ne_eqb (f m) (f n) (λ e. other (one e)))
  ]

  pub place_below : (n : ℕ) → has_port plan n ≡ true → place_of plan n < pass_count plan
  place_below n known = let within = place_within plan n known in omega (arith, within)

  pub egress_below : (n : ℕ) → has_port plan n ≡ true → egress_pass plan n < pass_count plan
  egress_below n known = let within = place_within plan n known in omega (arith, within)

  -- the input of a port

  input_goes_on : (n : ℕ) (act : Act) (before : Option How) → is_end act ≡ false → ended_behind n act before ≡ before
  input_goes_on n (acts.Frame port stamp at len) before is = refl
  input_goes_on n (acts.Long port stamp len) before is = refl
  input_goes_on n (acts.Tick stamp) before is = refl
  input_goes_on n (acts.Command stamp at len) before is = refl
  input_goes_on n (acts.Drain port count) before is = refl
  input_goes_on n (acts.End who how) before is = absurd (false≢true (sym is))

  input_ends : (n : ℕ) → has_port plan n ≡ true → (base : Base) (past rows : List Row) (who : Who) (how : How) → has_pass plan who ≡ true
      → input_end n (row_of plan base past (End who how) ∷ rows) ≡ (if pass_of plan who == place_of plan n then Some how else input_end n rows)
  input_ends n known base past rows (passes.Ingress p) how there =
      alike (number_of p == n) (place_of plan (number_of p) == place_of plan n) how (input_end n rows)
      (test_is (place_of plan) (number_of p) n (one_place (number_of p) n there known))
  input_ends n known base past rows passes.Control how there =
      let within = place_within plan n known in apart (control_pass plan) (place_of plan n) how (input_end n rows) (λ e. absurd (omega (arith, within, e)))
  input_ends n known base past rows passes.Ticker how there =
      let within = place_within plan n known in apart (pass_of plan passes.Ticker) (place_of plan n) how (input_end n rows) (λ e. absurd (omega (arith, within, e)))
  input_ends n known base past rows (passes.Egress p) how there =
      let within = place_within plan n known in
      apart (egress_pass plan (number_of p)) (place_of plan n) how (input_end n rows) (λ e. absurd (omega (arith, within, e)))

  pub input_says : (n : ℕ) → has_port plan n ≡ true → Says plan (place_of plan n) (input_end n)
  input_says n known = record {
    nothing = refl;
    goes_on = λ r rows is. input_goes_on n r.entry.act (input_end n rows) is;
    ends = input_ends n known;
  }

  -- the output of a port

  output_goes_on : (n : ℕ) (act : Act) (before : Option How) → is_end act ≡ false → output_ended_behind n act before ≡ before
  output_goes_on n (acts.Frame port stamp at len) before is = refl
  output_goes_on n (acts.Long port stamp len) before is = refl
  output_goes_on n (acts.Tick stamp) before is = refl
  output_goes_on n (acts.Command stamp at len) before is = refl
  output_goes_on n (acts.Drain port count) before is = refl
  output_goes_on n (acts.End who how) before is = absurd (false≢true (sym is))

  one_egress : (m n : ℕ) → has_port plan m ≡ true → has_port plan n ≡ true → egress_pass plan m ≡ egress_pass plan n → m ≡ n
  one_egress m n there known same = one_place m n there known (omega (arith, same))

  output_ends : (n : ℕ) → has_port plan n ≡ true → (base : Base) (past rows : List Row) (who : Who) (how : How) → has_pass plan who ≡ true
      → output_end n (row_of plan base past (End who how) ∷ rows) ≡ (if pass_of plan who == egress_pass plan n then Some how else output_end n rows)
  output_ends n known base past rows (passes.Ingress p) how there =
      let within = place_within plan (number_of p) there in
      apart (place_of plan (number_of p)) (egress_pass plan n) how (output_end n rows) (λ e. absurd (omega (arith, within, e)))
  output_ends n known base past rows passes.Control how there = apart (control_pass plan) (egress_pass plan n) how (output_end n rows) (λ e. absurd (omega (arith, e)))
  output_ends n known base past rows passes.Ticker how there = apart (pass_of plan passes.Ticker) (egress_pass plan n) how (output_end n rows) (λ e. absurd (omega (arith, e)))
  output_ends n known base past rows (passes.Egress p) how there =
      alike (number_of p == n) (egress_pass plan (number_of p) == egress_pass plan n) how (output_end n rows)
      (test_is (egress_pass plan) (number_of p) n (one_egress (number_of p) n there known))

  pub output_says : (n : ℕ) → has_port plan n ≡ true → Says plan (egress_pass plan n) (output_end n)
  output_says n known = record {
    nothing = refl;
    goes_on = λ r rows is. output_goes_on n r.entry.act (output_end n rows) is;
    ends = output_ends n known;
  }

  -- control

  control_goes_on : (act : Act) (before : Option How) → is_end act ≡ false → control_ended_behind act before ≡ before
  control_goes_on (acts.Frame port stamp at len) before is = refl
  control_goes_on (acts.Long port stamp len) before is = refl
  control_goes_on (acts.Tick stamp) before is = refl
  control_goes_on (acts.Command stamp at len) before is = refl
  control_goes_on (acts.Drain port count) before is = refl
  control_goes_on (acts.End who how) before is = absurd (false≢true (sym is))

  control_ends : (base : Base) (past rows : List Row) (who : Who) (how : How) → has_pass plan who ≡ true
      → control_end (row_of plan base past (End who how) ∷ rows) ≡ (if pass_of plan who == control_pass plan then Some how else control_end rows)
  control_ends base past rows (passes.Ingress p) how there =
      let within = place_within plan (number_of p) there in
      apart (place_of plan (number_of p)) (control_pass plan) how (control_end rows) (λ e. absurd (omega (arith, within, e)))
  control_ends base past rows passes.Control how there = sym (ap (λ (t : Bool). if t then Some how else control_end rows) (itself (control_pass plan)))
  control_ends base past rows passes.Ticker how there = apart (pass_of plan passes.Ticker) (control_pass plan) how (control_end rows) (λ e. absurd (omega (arith, e)))
  control_ends base past rows (passes.Egress p) how there =
      apart (egress_pass plan (number_of p)) (control_pass plan) how (control_end rows) (λ e. absurd (omega (arith, e)))

  pub control_says : Says plan (control_pass plan) control_end
  control_says = record {
    nothing = refl;
    goes_on = λ r rows is. control_goes_on r.entry.act (control_end rows) is;
    ends = control_ends;
  }

-- what has ended for good has ended

end_shows : (paused here was : Bool) (how : How) (before : Option How) → (is_some before ≡ true → was ≡ true) → is_some (if paused then before else if here then Some how else before) ≡ true → (here || was) ≡ true
end_shows true true was how before step is = refl
end_shows true false was how before step is = step is
end_shows false true was how before step is = refl
end_shows false false was how before step is = step is

shows_act : (base : Base) (past : List Row) (pass by : ℕ) (act : Act) → (is_some (end_of base pass past) ≡ true → has_ended base pass past ≡ true)
    → is_some (ended_after pass by act (end_of base pass past)) ≡ true → ((is_end act && (by == pass)) || has_ended base pass past) ≡ true
shows_act base past pass by (acts.Frame port stamp at len) step is = step is
shows_act base past pass by (acts.Long port stamp len) step is = step is
shows_act base past pass by (acts.Tick stamp) step is = step is
shows_act base past pass by (acts.Command stamp at len) step is = step is
shows_act base past pass by (acts.Drain port count) step is = step is
shows_act base past pass by (acts.End who how) step is = end_shows (is_paused_reason how) (by == pass) (has_ended base pass past) how (end_of base pass past) step is

pub shows : (base : Base) (past : List Row) (pass : ℕ) → is_some (end_of base pass past) ≡ true → has_ended base pass past ≡ true
shows base [] pass is = ended_first base pass ∙ is
shows base (r ∷ past) pass is = shows_act base past pass r.entry.by r.entry.act (shows base past pass) is
