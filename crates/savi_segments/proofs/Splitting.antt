-- Any number of segments read as their joined rows.
use Rattle.std.proofs.Common.{◌≡◌, Bool, true, false, List, [], ◌∷◌, refl, sym, ap, ◌∙◌, subst}
use Rattle.savi_kinds.specs.declared.plan.Plan.{Plan}
use Rattle.savi_kinds.specs.ValidPlan.{IsValidPlan, numbers_of}
use Rattle.hist_store.specs.Rows.{Row}
use Rattle.control_replies.specs.Counting.{nothing_counted}
use Rattle.checkpoint.specs.Bases.{Base, empty}
use Rattle.savi_history.specs.Passes.{pass_count}
use Rattle.savi_history.specs.ShutPorts.{is_shut}
use Rattle.savi_history.specs.Limits.{IsWithinLimits}
use Rattle.savi_history.specs.Legal.{IsLegal}
use Rattle.savi_history.proofs.Starting.{empty_within}
use Rattle.savi_segments.specs.Checkpoints.{up_to, end_of, after}
use Rattle.savi_segments.specs.Segments.{base_after, joined, AreLegal}
use Rattle.savi_segments.specs.Readings.{ReadsAs}
use Rattle.savi_segments.proofs.Passing.{none_pass, none_end}
use Rattle.savi_segments.proofs.Reading.{started, LeaveLimits, after_within, reads_as, leaves_alike}

-- nothing is left by nothing, but for the start
pub empty_leaves : (plan : Plan) → empty ≡ started true (after plan empty [])
empty_leaves plan =
    let ended = none_end (λ pass. end_of empty pass []) (up_to (pass_count plan)) (λ pass. refl) in
    let shut = none_pass (λ number. is_shut plan empty number []) (numbers_of plan.ports) (λ number. refl) in
    sym (λ i. record {
      is_start = true;
      moment = 0;
      ended = ended i;
      shut = shut i;
      stations = λ vlan. [];
      rows = λ vlan. [];
      requests = λ vlan. [];
      counts = nothing_counted;
    })

-- no segment came before
abbrev pub is_first : List (List Row) → Bool
is_first [] = true
is_first (segment ∷ before) = false

-- what the joined rows of segments leave
abbrev pub left : Plan → List (List Row) → Base
left plan segments = started (is_first segments) (after plan empty (joined segments))

module _ (limits : LeaveLimits) (plan : Plan) (valid : IsValidPlan plan) where
  pub segments_within : (segments : List (List Row)) → AreLegal plan segments → IsWithinLimits plan (base_after plan segments)
  segments_within [] legal = empty_within plan valid
  segments_within (segment ∷ before) legal = after_within limits plan valid (base_after plan before) (segments_within before legal.2) segment legal.0 legal.1

  pub leave_same : (segments : List (List Row)) → AreLegal plan segments → base_after plan segments ≡ left plan segments
  leave_same [] legal = empty_leaves plan
  leave_same (segment ∷ before) legal =
      let same : base_after plan before ≡ left plan before = leave_same before legal.2 in
      ap (λ (base : Base). after plan base segment) same
      ∙ sym (leaves_alike plan valid empty (empty_within plan valid) (joined before) (is_first before) (subst (IsWithinLimits plan) same (segments_within before legal.2)) segment
      (subst (λ (base : Base). IsLegal plan base segment) same legal.0) legal.1)

  -- the newest segment reads as it does behind all rows before it
  pub segments_read : (segment : List Row) (before : List (List Row)) → AreLegal plan (segment ∷ before) → ReadsAs plan empty (joined before) (base_after plan before) segment
  segments_read segment before legal =
      let same : base_after plan before ≡ left plan before = leave_same before legal.2 in
      subst (λ (base : Base). ReadsAs plan empty (joined before) base segment) (sym same)
      (reads_as plan valid empty (empty_within plan valid) (joined before) (is_first before) (subst (IsWithinLimits plan) same (segments_within before legal.2)) segment
      (subst (λ (base : Base). IsLegal plan base segment) same legal.0) legal.1)
