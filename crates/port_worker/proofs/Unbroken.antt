-- What rows without pauses tell of inputs and outputs, segment behind segment.
use Rattle.std.proofs.Common.{◌≡◌, ℕ, ◌==◌, ◌||◌, ◌&&◌, not, Bool, true, false, if◌then◌else◌, List, [], ◌∷◌, ◌++◌, refl, ap, ◌∙◌, Option, Some}
use Rattle.std.specs.Option.{is_some}
use Rattle.std.proofs.lemmas.Bool.{and_right, or_from, or_parts}
use Rattle.savi_kinds.specs.declared.entry.Act.{Act}
use Rattle.savi_kinds.specs.declared.entry.Act.TheVariants as acts
use Rattle.savi_kinds.specs.declared.entry.How.{How}
use Rattle.savi_kinds.specs.declared.plan.Plan.{Plan}
use Rattle.hist_store.specs.Rows.{Row}
use Rattle.checkpoint.specs.Bases.{Base}
use Rattle.savi_history.specs.ControlInputs.{control_end, entered_lines}
use Rattle.savi_history.specs.Endings.{has_pause, has_paused_end, is_input, is_paused_end, is_paused_input, is_paused_reason}
use Rattle.savi_history.specs.Passes.{has_ended, is_end}
use Rattle.savi_history.specs.PortInputs.{arrived, input_end}
use Rattle.savi_history.specs.PortOutputs.{output_end}
use Rattle.savi_segments.specs.Checkpoints.{end_of, ended_after}
use Rattle.savi_segments.specs.Replay.{Run, base_in, has_ended_in}
use Rattle.savi_segments.specs.Unbroken.{without_pauses}
use Rattle.savi_segments.proofs.Adjoined.{arrived_both, both_kept, control_both, input_both, output_both, said_over}
use Rattle.savi_segments.proofs.EnteringLines.{lines_append}
use Rattle.savi_segments.proofs.Turning.{ended_first}

-- nothing is paused
abbrev pub IsUnpaused : List Row → Type 0
IsUnpaused past = has_paused_end past ≡ false

plain_at : (b : Bool) (r : Row) (xs : List Row) → b ≡ false → without_pauses xs ≡ xs → (if not b then r ∷ without_pauses xs else without_pauses xs) ≡ r ∷ xs
plain_at true r xs none same = cc
plain_at false r xs none same = ap (λ (l : List Row). r ∷ l) same

plain_same : (xs : List Row) → IsUnpaused xs → without_pauses xs ≡ xs
plain_same [] none = refl
plain_same (r ∷ xs) none =
    let parts = or_parts (is_paused_end r.entry.act) (has_paused_end xs) none in
    plain_at (is_paused_end r.entry.act) r xs parts.0 (plain_same xs parts.1)

unbroken_is : (past rows : List Row) → IsUnpaused past → without_pauses (past ++ rows) ≡ past ++ without_pauses rows
unbroken_is past rows none = both_kept past rows ∙ ap (λ (l : List Row). l ++ without_pauses rows) (plain_same past none)

-- Of a segment in which nothing is paused, in front of others: what they tell together.
module _ (past rows : List Row) (none : IsUnpaused past) where
  pub input_said : (n : ℕ) → input_end n (without_pauses (past ++ rows)) ≡ said_over (input_end n past) (input_end n (without_pauses rows))
  input_said n = ap (λ (l : List Row). input_end n l) (unbroken_is past rows none) ∙ input_both n past (without_pauses rows)

  pub output_said : (n : ℕ) → output_end n (without_pauses (past ++ rows)) ≡ said_over (output_end n past) (output_end n (without_pauses rows))
  output_said n = ap (λ (l : List Row). output_end n l) (unbroken_is past rows none) ∙ output_both n past (without_pauses rows)

  pub control_said : control_end (without_pauses (past ++ rows)) ≡ said_over (control_end past) (control_end (without_pauses rows))
  control_said = ap (λ (l : List Row). control_end l) (unbroken_is past rows none) ∙ control_both past (without_pauses rows)

  pub arrived_said : (n : ℕ) → arrived n (without_pauses (past ++ rows)) ≡ arrived n (without_pauses rows) ++ arrived n past
  arrived_said n = ap (λ (l : List Row). arrived n l) (unbroken_is past rows none) ∙ arrived_both n past (without_pauses rows)

  pub lines_said : entered_lines (without_pauses (past ++ rows)) ≡ entered_lines (without_pauses rows) ++ entered_lines past
  lines_said = ap (λ (l : List Row). entered_lines l) (unbroken_is past rows none) ∙ lines_append past (without_pauses rows)

-- where nothing is paused, what has ended has ended for good

end_alike : (paused here was : Bool) (how : How) (before : Option How) → paused ≡ false → was ≡ is_some before → (here || was) ≡ is_some (if paused then before else if here then Some how else before)
end_alike true here was how before none same = cc
end_alike false true was how before none same = refl
end_alike false false was how before none same = same

alike_act : (base : Base) (past : List Row) (pass by : ℕ) (act : Act) → is_paused_end act ≡ false → has_ended base pass past ≡ is_some (end_of base pass past)
    → ((is_end act && (by == pass)) || has_ended base pass past) ≡ is_some (ended_after pass by act (end_of base pass past))
alike_act base past pass by (acts.Frame port stamp at len) none same = same
alike_act base past pass by (acts.Long port stamp len) none same = same
alike_act base past pass by (acts.Tick stamp) none same = same
alike_act base past pass by (acts.Command stamp at len) none same = same
alike_act base past pass by (acts.Drain port count) none same = same
alike_act base past pass by (acts.End who how) none same = end_alike (is_paused_reason how) (by == pass) (has_ended base pass past) how (end_of base pass past) none same

pub alike : (base : Base) (past : List Row) (pass : ℕ) → IsUnpaused past → has_ended base pass past ≡ is_some (end_of base pass past)
alike base [] pass none = ended_first base pass
alike base (r ∷ past) pass none =
    let parts = or_parts (is_paused_end r.entry.act) (has_paused_end past) none in
    alike_act base past pass r.entry.by r.entry.act parts.0 (alike base past pass parts.1)

pub alike_in : (plan : Plan) (run : Run) (pass : ℕ) → IsUnpaused run.past → has_ended (base_in plan run) pass run.past ≡ has_ended_in plan pass run
alike_in plan run pass none = alike (base_in plan run) run.past pass none

-- nor is an input paused then

input_plain : (act : Act) → is_paused_end act ≡ false → is_paused_input act ≡ false
input_plain (acts.Frame port stamp at len) none = refl
input_plain (acts.Long port stamp len) none = refl
input_plain (acts.Tick stamp) none = refl
input_plain (acts.Command stamp at len) none = refl
input_plain (acts.Drain port count) none = refl
input_plain (acts.End who how) none = and_right (is_input who) (is_paused_reason how) none

pub no_pause : (past : List Row) → IsUnpaused past → has_pause past ≡ false
no_pause [] none = refl
no_pause (r ∷ past) none =
    let parts = or_parts (is_paused_end r.entry.act) (has_paused_end past) none in
    or_from (is_paused_input r.entry.act) (has_pause past) (input_plain r.entry.act parts.0) (no_pause past parts.1)
