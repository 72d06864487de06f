-- Whether each pass of a segment has ended.
use Rattle.std.proofs.Common.{◌≡◌, ℕ, ◌+◌, ◌-◌, ◌<◌, ◌≤◌, Bool, true, false, List, length, slice_index_or, sym, ap, subst, ◌∙◌, arith, inl, inr}
use Rattle.std.specs.Prelude.{MatchBool, nat_lt}
use Rattle.std.proofs.Math.Nat.{eq-or-lt_of_le}
use Rattle.std.proofs.lemmas.Bool.{cases_lt}
use Rattle.std.proofs.lemmas.Bool.Decides.{nat_tests}
use Rattle.std.proofs.lemmas.List.{get_or_default}
use Rattle.savi_kinds.specs.declared.plan.Plan.{Plan}
use Rattle.savi_kinds.specs.declared.plan.PortPlan.{PortPlan}
use Rattle.savi_kinds.specs.Ports.{number_of}
use Rattle.savi_kinds.specs.ValidPlan.{IsValidPlan}
use Rattle.hist_store.specs.Rows.{Row}
use Rattle.checkpoint.specs.Bases.{Base}
use Rattle.savi_history.specs.Legal.{InputsEnded, IsFinished}
use Rattle.savi_history.specs.Passes.{control_pass, egress_pass, has_ended, has_port, pass_count, ticker_pass}
use Rattle.savi_core.specs.Counts.{open_below}
use Rattle.savi_core.proofs.Counting.{all_ended}
use Rattle.live_turns.proofs.OpenInputs.{input_open}
use Rattle.live_switch.proofs.Opening.{known_here, placed_here}

-- the port at a place of the ports that are gone through
module _ (plan : Plan) (ports : List PortPlan) (are : ports ≡ plan.ports) (k : ℕ) (below : k < length ports) (port : PortPlan) (value : port ≡ slice_index_or ports k port) where
  within_plan : k < length plan.ports
  within_plan = subst (λ (l : List PortPlan). k < length l) are below

  is_there : (p : PortPlan) → port ≡ slice_index_or plan.ports k p
  is_there p = value ∙ get_or_default ports k port p below ∙ ap (λ (l : List PortPlan). slice_index_or l k p) are

  pub port_known : has_port plan (number_of port.number) ≡ true
  port_known = known_here plan k port within_plan is_there

  pub output_pass : IsValidPlan plan → egress_pass plan (number_of port.number) ≡ length plan.ports + 2 + k
  output_pass valid = ap (λ (n : ℕ). length plan.ports + 2 + n) (placed_here plan k port within_plan is_there valid)

  pub output_counted : IsValidPlan plan → egress_pass plan (number_of port.number) < pass_count plan
  output_counted valid = omega (arith, output_pass valid, within_plan)

module _ (plan : Plan) (base : Base) (past : List Row) where
  -- a pass of the plan hasn't ended
  pub unfinished : (pass : ℕ) → pass < pass_count plan → has_ended base pass past ≡ false → ¬ IsFinished plan base past
  unfinished pass within runs all = let never : false ≡ true = sym runs ∙ all pass within in cc

  more_test : (n : ℕ) → 0 < n → nat_lt 0 n ≡ true
  more_test n more = grind (arith, nat_tests)

  -- nor has an input
  pub inputs_left : (left : ℕ) → left ≡ open_below base past (control_pass plan + 1) → 0 < left → ¬ IsFinished plan base past
  inputs_left left is more all =
      let some : ¬ InputsEnded plan base past = subst (λ (b : Bool). MatchBool b (¬ InputsEnded plan base past) (InputsEnded plan base past)) (more_test left more) (input_open plan base past left is) in
      some (λ pass within. all pass (omega (arith, within)))

  -- the first outputs have
  abbrev pub HaveOutputsEnded : ℕ → Type 0
  HaveOutputsEnded count = (place : ℕ) → place < count → has_ended base (length plan.ports + 2 + place) past ≡ true

  pub outputs_none : HaveOutputsEnded 0
  outputs_none place within = absurd (omega (arith, within))

  pub outputs_more : (count : ℕ) → has_ended base (length plan.ports + 2 + count) past ≡ true → HaveOutputsEnded count → HaveOutputsEnded (count + 1)
  outputs_more count here before place within =
      elim (eq-or-lt_of_le {n = place} {m = count} (omega (arith, within))) [
        | inl at ↦ ap (λ (k : ℕ). has_ended base (length plan.ports + 2 + k) past) at ∙ here
        | inr below ↦ before place below
      ]

  behind_inputs : (pass : ℕ) → has_ended base (ticker_pass plan) past ≡ true → HaveOutputsEnded (length plan.ports) → length plan.ports + 1 ≤ pass → pass < pass_count plan → has_ended base pass past ≡ true
  behind_inputs pass ticker outputs low within =
      elim (cases_lt (length plan.ports + 1) pass) [
        | inl over ↦
            let place = pass - (length plan.ports + 2) in
            let number : length plan.ports + 2 + place ≡ pass = omega (arith, over) in
            subst (λ (n : ℕ). has_ended base n past ≡ true) number (outputs place (omega (arith, over, within)))
        | inr under ↦ let number : length plan.ports + 1 ≡ pass = omega (arith, low, under) in subst (λ (n : ℕ). has_ended base n past ≡ true) number ticker
      ]

  -- all have
  pub all_over : (left : ℕ) → left ≡ open_below base past (control_pass plan + 1) → left ≤ 0 → has_ended base (ticker_pass plan) past ≡ true → HaveOutputsEnded (length plan.ports) → IsFinished plan base past
  all_over left is none ticker outputs pass within =
      elim (cases_lt pass (length plan.ports + 1)) [
        | inl input ↦ all_ended base past (control_pass plan + 1) (omega (arith, is, none)) pass input
        | inr behind ↦ behind_inputs pass ticker outputs (omega (arith, behind)) within
      ]
