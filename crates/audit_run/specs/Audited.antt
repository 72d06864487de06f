-- What the audit of a text has come to.
use Rattle.std.specs.Prelude.{◌≡◌, ◌⊎◌, ℕ, List, [], ◌∷◌, Option, IfSome}
use Rattle.savi_kinds.specs.declared.plan.Plan.{Plan}
use Rattle.savi_ends.specs.Octets.{IsFront}
use Rattle.hist_store.specs.Rows.{Row}
use Rattle.hist_store.specs.declared.version.Version.{Version}
use Rattle.savi_history.specs.Summary.{capped}
use Rattle.savi_segments.specs.Segments.{AreLegal, HaveTurned}
use Rattle.journal_check.specs.declared.answer.Checked.{Checked}
use Rattle.journal_check.specs.declared.answer.Checked.TheVariants.{NoMemory}
use Rattle.journal_check.specs.Answers.{IfRead, IsAnswerBehind, IsBadHeader, IsBeforeEntries, past_text}
use Rattle.journal_check.specs.Seen.{seen}
use Rattle.journal_check.specs.Watched.{all_watched}
use Rattle.audit_run.specs.declared.auditor.Auditor.{Auditor}
use Rattle.audit_run.specs.PassedFrames.{audited_count, passed_frames}
use Rattle.audit_run.specs.Violations.{violation_count, violation_lines}
use Rattle.audit_run.specs.Printed.{HasPrinted}

-- the lines of the violations of segments, the newest segment first, and what was counted of them, at most 2^64 - 1
pub record IsAuditOf {K : Type 0} (plan : Plan) (segments : List (List Row)) (text : List ℕ) (auditor : Auditor K) : Type 0 where
  pub text_is : text ≡ violation_lines plan (all_watched segments)
  pub frames : auditor.frames ≡ capped (audited_count (passed_frames (all_watched segments)))
  pub violations : auditor.violations ≡ capped (violation_count plan (passed_frames (all_watched segments)))

-- nothing was done
pub record DidNothing {K : Type 0} (text : List ℕ) (before after : Auditor K) : Type 0 where
  pub none : text ≡ []
  pub same : after ≡ before

-- Octets that were read have this answer: whichever way they are read, and there is one, the history in front of the first
-- fault was audited. Where a line of the header is bad, nothing was done.
pub record IsAudited {K : Type 0} (octets : List ℕ) (answer : Checked) (text : List ℕ) (before after : Auditor K) : Type 0 where
  pub header : IsBadHeader octets answer → DidNothing text before after
  pub behind : (is : IsAnswerBehind octets answer) → IsAuditOf is.plan (is.past ∷ is.closed) text after

-- legal segments were audited whose text begins the octets that were left, where these are told
pub record IsAuditedInPart {K : Type 0} (left : Option (List ℕ)) (text : List ℕ) (after : Auditor K) : Type 0 where
  pub version : Version
  pub plan : Plan
  pub closed : List (List Row)
  pub past : List Row
  pub legal : AreLegal plan (past ∷ closed)
  pub turned : HaveTurned plan (past ∷ closed)
  pub begins : IfSome left (λ octets. IsFront (past_text version plan closed past) (seen octets))
  pub audit : IsAuditOf plan (past ∷ closed) text after

-- The sink, which was `first`, was given this text: where the octets are told, that of the history in front of the first
-- fault; and in any case that of legal segments, or none where no entry was judged.
pub record Audits {K : Type 0} (written : K → Option (List ℕ)) (faults : K → ℕ) (first : K) (left : Option (List ℕ)) (answer : Checked) (before after : Auditor K) : Type 0 where
  pub text : List ℕ
  pub printed : HasPrinted written faults first after.printer text
  pub told : IfRead answer (IfSome left (λ octets. IsAudited (seen octets) answer text before after))
  pub part : (DidNothing text before after × IsBeforeEntries answer) ⊎ IsAuditedInPart left text after
  pub unbegun : answer ≡ NoMemory → DidNothing text before after
