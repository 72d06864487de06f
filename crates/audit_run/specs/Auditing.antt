-- How an audit stands with the entries that it was given.
use Rattle.std.specs.Prelude.{◌≡◌, ◌≤◌, ◌+◌, ℕ, List, [], ◌∷◌, ◌++◌, Option, IfSome, IsSomeAnd, is_some}
use Rattle.savi_kinds.specs.Ports.{number_of}
use Rattle.savi_kinds.specs.declared.plan.Plan.{Plan}
use Rattle.savi_history.specs.Summary.{capped}
use Rattle.journal_check.specs.Watched.{WatchedEntry}
use Rattle.v4_snoop.specs.Reasons.{HasVlanAtPort, PassedFrame, last_passed}
use Rattle.v4_snoop.specs.Snooped.{HasSnooped, Snooped}
use Rattle.audit_run.specs.declared.auditor.Auditor.{Auditor}
use Rattle.audit_run.specs.PassedFrames.{audited_count, frame_passed, is_audited, one_if, passed_frames}
use Rattle.audit_run.specs.Violations.{reason_behind, violation_count, violation_if, violation_lines}
use Rattle.audit_run.specs.Printed.{HasPrinted}

-- a snoop of these frames, the newest first
abbrev pub HasSeen : Plan → List PassedFrame → Option Snooped → Type 0
HasSeen plan past snoop = IsSomeAnd snoop (HasSnooped plan past)

-- It was given these entries, the newest first, and its sink, which was `first`, the lines of their violations. The counts
-- stop at 2^64 - 1.
pub record HasAudited {K : Type 0} (written : K → Option (List ℕ)) (faults : K → ℕ) (first : K) (plan : Plan) (entries : List WatchedEntry) (auditor : Auditor K) : Type 0 where
  pub seen : HasSeen plan (passed_frames entries) auditor.snoop
  pub printed : HasPrinted written faults first auditor.printer (violation_lines plan entries)
  pub frames : auditor.frames ≡ capped (audited_count (passed_frames entries))
  pub violations : auditor.violations ≡ capped (violation_count plan (passed_frames entries))

-- it hasn't begun, and its sink is this one
pub record IsUnbegun {K : Type 0} (written : K → Option (List ℕ)) (faults : K → ℕ) (sink : K) (auditor : Auditor K) : Type 0 where
  pub sink_is : auditor.printer.sink ≡ sink
  pub none_waits : auditor.printer.waits.items ≡ []
  pub printed : HasPrinted written faults sink auditor.printer []
  pub frames : auditor.frames ≡ 0
  pub violations : auditor.violations ≡ 0

-- a frame may come behind these: it has a VLAN at its port, and none of them came later
pub record ComesBehind (plan : Plan) (past : List PassedFrame) (frame : PassedFrame) : Type 0 where
  pub vlan : HasVlanAtPort plan frame
  pub later : last_passed past ≤ frame.moment

-- What it may be behind a frame that passed behind these, in the entry of this number of a segment.
pub record SeesFrame {K : Type 0} (written : K → Option (List ℕ)) (faults : K → ℕ) (segment number : ℕ) (plan : Plan) (past : List PassedFrame) (frame : PassedFrame) (old new : Auditor K) : Type 0 where
  pub seen : HasSeen plan (frame ∷ past) new.snoop
  pub printed : (first : K) (text : List ℕ) → HasPrinted written faults first old.printer text
      → HasPrinted written faults first new.printer (text ++ violation_if segment number (number_of frame.port) (reason_behind plan past frame))
  pub frames : new.frames ≡ capped (old.frames + one_if (is_audited frame))
  pub violations : new.violations ≡ capped (old.violations + one_if (is_some (reason_behind plan past frame)))

-- what beginning makes of it
abbrev pub BeginsAudit : {K : Type 0} → (K → Option (List ℕ)) → (K → ℕ) → Auditor K → Plan → Auditor K → Type 0
BeginsAudit {K} written faults before plan after = (first : K) → IsUnbegun written faults first before → HasAudited written faults first plan [] after

-- what an entry makes of it
abbrev pub Sees : {K : Type 0} → (K → Option (List ℕ)) → (K → ℕ) → Auditor K → Plan → WatchedEntry → Auditor K → Type 0
Sees {K} written faults before plan entry after =
    (first : K) (past : List WatchedEntry) → IfSome (frame_passed entry.row) (ComesBehind plan (passed_frames past))
    → HasAudited written faults first plan past before → HasAudited written faults first plan (entry ∷ past) after
