-- How an audit stands behind one entry more.
use Rattle.std.proofs.Common.{◌≡◌, ℕ, ◌+◌, ◌-◌, ◌^◌, min, List, ◌∷◌, ◌++◌, Option, Some, None, is_some, sym, ap, ◌∙◌, subst, arith, append-nil}
use Rattle.savi_kinds.specs.declared.plan.Plan.{Plan}
use Rattle.savi_history.specs.Summary.{capped}
use Rattle.journal_check.specs.Watched.{WatchedEntry}
use Rattle.v4_snoop.specs.Reasons.{PassedFrame}
use Rattle.audit_run.specs.declared.auditor.Auditor.{Auditor}
use Rattle.audit_run.specs.PassedFrames.{audited_count, frame_passed, is_audited, one_if, passed_frames, with_passed}
use Rattle.audit_run.specs.Violations.{entry_line, reason_behind, violation_count, violation_lines}
use Rattle.audit_run.specs.Auditing.{HasAudited, HasSeen, SeesFrame}
use Rattle.audit_run.specs.Printed.{HasPrinted}

-- a count that stops at a number goes on as one that stops there in the end
pub capped_behind : (most a b : ℕ) → min (min a most + b) most ≡ min (a + b) most
capped_behind most a b = omega arith

counts_on : (before now a b : ℕ) → before ≡ capped a → now ≡ capped (before + b) → now ≡ capped (a + b)
counts_on before now a b was is = is ∙ ap (λ (n : ℕ). capped (n + b)) was ∙ capped_behind (2 ^ 64 - 1) a b

module _ {K : Type 0} (written : K → Option (List ℕ)) (faults : K → ℕ) (first : K) (plan : Plan) (entry : WatchedEntry) (past : List WatchedEntry) where
  -- what it is behind the entry, by the frame of the entry
  record IsBehind (passed : Option PassedFrame) (auditor : Auditor K) : Type 0 where
    pub seen : HasSeen plan (with_passed passed (passed_frames past)) auditor.snoop
    pub printed : HasPrinted written faults first auditor.printer (violation_lines plan past ++ entry_line plan (passed_frames past) entry passed)
    pub frames : auditor.frames ≡ capped (audited_count (with_passed passed (passed_frames past)))
    pub violations : auditor.violations ≡ capped (violation_count plan (with_passed passed (passed_frames past)))

  is_behind : (auditor : Auditor K) → IsBehind (frame_passed entry.row) auditor → HasAudited written faults first plan (entry ∷ past) auditor
  is_behind auditor is = record { seen = is.seen; printed = is.printed; frames = is.frames; violations = is.violations }

  -- no frame passed
  pub still_audited : (auditor : Auditor K) → frame_passed entry.row ≡ None → HasAudited written faults first plan past auditor → HasAudited written faults first plan (entry ∷ past) auditor
  still_audited auditor none was =
      let behind : IsBehind None auditor = record {
        seen = was.seen;
        printed = subst (λ (text : List ℕ). HasPrinted written faults first auditor.printer text) (sym (append-nil (violation_lines plan past))) was.printed;
        frames = was.frames;
        violations = was.violations;
      } in
      is_behind auditor (subst (λ (o : Option PassedFrame). IsBehind o auditor) (sym none) behind)

  -- this one did
  pub frame_audited : (frame : PassedFrame) (old new : Auditor K) → frame_passed entry.row ≡ Some frame → HasAudited written faults first plan past old
      → SeesFrame written faults entry.segment entry.number plan (passed_frames past) frame old new → HasAudited written faults first plan (entry ∷ past) new
  frame_audited frame old new some was sees =
      let behind : IsBehind (Some frame) new = record {
        seen = sees.seen;
        printed = sees.printed first (violation_lines plan past) was.printed;
        frames = counts_on old.frames new.frames (audited_count (passed_frames past)) (one_if (is_audited frame)) was.frames sees.frames;
        violations = counts_on old.violations new.violations (violation_count plan (passed_frames past)) (one_if (is_some (reason_behind plan (passed_frames past) frame))) was.violations sees.violations;
      } in
      is_behind new (subst (λ (o : Option PassedFrame). IsBehind o new) (sym some) behind)
