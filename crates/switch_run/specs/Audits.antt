-- What the audit of a journal has done: its file was read, the violations of its history and the line behind them were
-- written, and nothing else was touched.
use Rattle.std.specs.Prelude.{◌≡◌, ◌≢◌, ◌⊎◌, ℕ, Bool, if◌then◌else◌, List, [], ◌∷◌, ◌++◌, Option}
use Rattle.savi_kinds.specs.declared.plan.Plan.{Plan}
use Rattle.savi_ends.specs.declared.world.Std.TheVariants.{Out}
use Rattle.savi_ends.specs.Octets.{IsFront}
use Rattle.savi_ends.specs.Places.{Place, Book, OthersStay}
use Rattle.hist_store.specs.Rows.{Row}
use Rattle.hist_store.specs.declared.version.Version.{Version}
use Rattle.savi_history.specs.Summary.{capped}
use Rattle.savi_segments.specs.Segments.{AreLegal, HaveTurned}
use Rattle.run_config.specs.Configs.{EndHasFault, EndHasNoFault, OfText}
use Rattle.run_config.specs.Words.{IsAudit}
use Rattle.journal_check.specs.declared.answer.Checked.{Checked}
use Rattle.journal_check.specs.declared.answer.Checked.TheVariants.{Good, Wrong, BadLine, Failed, NoMemory}
use Rattle.journal_check.specs.Answers.{HasReadHeader, IfRead, IsAnswer, IsAnswerBehind, IsBadHeader, past_text}
use Rattle.journal_check.specs.Laws.{IsFinishedJournal}
use Rattle.journal_check.specs.Seen.{seen}
use Rattle.journal_check.specs.Watched.{all_watched}
use Rattle.v4_snoop.specs.Reasons.{PassedFrame}
use Rattle.audit_run.specs.PassedFrames.{audited_count, passed_frames}
use Rattle.audit_run.specs.Violations.{violation_count, violation_lines}
use Rattle.switch_report.specs.CheckLines.{audited_line, bad_line, wrong_line}
use Rattle.switch_report.specs.RunLines.{memory_line, read_failed_line}
use Rattle.switch_run.specs.Causes.{Keeps, TookOrPart}
use Rattle.switch_run.specs.Checks.{IsCheckedUnopened, IsKept, check_line}

-- The line behind the violations: how many entries a journal has, how many of its frames that passed carry IPv4 or ARP, and
-- how many are reported, as the two were counted; or the line of the check. What was read in part has none.
abbrev pub closing_line : ℕ → ℕ → Checked → List ℕ
closing_line frames violations (Good entries) = audited_line entries frames violations
closing_line frames violations (Wrong entry want have) = wrong_line entry want have
closing_line frames violations (BadLine n) = bad_line n
closing_line frames violations Failed = []
closing_line frames violations NoMemory = []

-- the same of these frames, the newest first; a count stops at 2^64 - 1
abbrev pub line_of_frames : Plan → List PassedFrame → Checked → List ℕ
line_of_frames plan frames answer = closing_line (capped (audited_count frames)) (capped (violation_count plan frames)) answer

-- what an audit prints of these segments, the newest first: their violations, and the line behind them
abbrev pub audit_text : Plan → List (List Row) → Checked → List ℕ
audit_text plan segments answer =
    violation_lines plan (all_watched segments) ++ line_of_frames plan (passed_frames (all_watched segments)) answer

-- What it prints of octets with this answer: that of the history in front of the first fault, whichever way they are read,
-- and there is one. Where a line of the header is bad, it prints the line of the check.
pub record IsAuditText (octets : List ℕ) (answer : Checked) (text : List ℕ) : Type 0 where
  pub header : IsBadHeader octets answer → text ≡ check_line answer
  pub behind : (is : IsAnswerBehind octets answer) → text ≡ audit_text is.plan (is.past ∷ is.closed) answer

-- It prints what an audit does of legal segments, whose text begins the octets of the file where it tells them.
pub record IsSomeAudit {S : Type 0} (left : S → Option (List ℕ)) (file : Place S) (answer : Checked) (text : List ℕ) : Type 0 where
  pub version : Version
  pub plan : Plan
  pub closed : List (List Row)
  pub past : List Row
  pub legal : AreLegal plan (past ∷ closed)
  pub turned : HaveTurned plan (past ∷ closed)
  pub begins : OfText left file (λ octets. IsFront (past_text version plan closed past) (seen octets))
  pub text_is : text ≡ audit_text plan (past ∷ closed) answer

-- what it prints of a file with this answer, and where the file tells its octets, of what history
abbrev pub Prints : {S : Type 0} → (S → Option (List ℕ)) → Place S → Checked → List ℕ → Type 0
Prints left file (Good entries) text = IsSomeAudit left file (Good entries) text × OfText left file (λ octets. IsAuditText (seen octets) (Good entries) text)
Prints left file (Wrong entry want have) text =
    IsSomeAudit left file (Wrong entry want have) text × OfText left file (λ octets. IsAuditText (seen octets) (Wrong entry want have) text)
Prints left file (BadLine n) text =
    ((text ≡ bad_line n) ⊎ IsSomeAudit left file (BadLine n) text) × OfText left file (λ octets. IsAuditText (seen octets) (BadLine n) text)
Prints left file Failed text = (text ≡ []) ⊎ IsSomeAudit left file Failed text
Prints left file NoMemory text = text ≡ []

-- the status by the answer, and by whether all was written
abbrev pub audit_status : Bool → Checked → ℕ
audit_status written (Good entries) = if written then 0 else 6
audit_status written (Wrong entry want have) = if written then 4 else 6
audit_status written (BadLine n) = if written then 4 else 6
audit_status written Failed = 5
audit_status written NoMemory = 1

-- the line on standard error
abbrev pub audit_error : List ℕ → Checked → List ℕ
audit_error file (Good entries) = []
audit_error file (Wrong entry want have) = []
audit_error file (BadLine n) = []
audit_error file Failed = read_failed_line file
audit_error file NoMemory = memory_line

-- The file was opened. Where it tells its text and no read of it failed, this is the one answer to it: `Good` exactly where
-- the text is the journal of a finished history. Standard output took what an audit prints, or a front of it where a write
-- failed; without memory its end is kept as it was handed out.
pub record IsAuditedFile {S K C : Type 0} (left : S → Option (List ℕ)) (written : K → Option (List ℕ)) (source_faults : S → ℕ) (sink_faults : K → ℕ) (file : List ℕ) (Says : List ℕ → Type 0) (old new : Book S K C) (status : ℕ) : Type 0 where
  pub answer : Checked
  pub still : answer ≢ Failed → EndHasNoFault source_faults (new.inputs file)
  pub fault : answer ≡ Failed → EndHasFault source_faults (new.inputs file)
  pub memory : answer ≡ NoMemory → Keeps (λ told kept. (kept ≡ told) ⊎ HasReadHeader (left told) (left kept)) (old.inputs file) (new.inputs file)
  pub is : IfRead answer (OfText left (old.inputs file) (λ text. IsAnswer text answer))
  pub alone : IfRead answer (OfText left (old.inputs file) (λ text. (other : Checked) → IsAnswer text other → answer ≡ other))
  pub good : (entries : ℕ) → answer ≡ Good entries → OfText left (old.inputs file) (λ text. IsFinishedJournal text entries)
  pub journal : (entries : ℕ) → IfRead answer (OfText left (old.inputs file) (λ text. IsFinishedJournal text entries → answer ≡ Good entries))
  -- what is printed, and whether all of it was written
  pub text : List ℕ
  pub prints : Prints left (old.inputs file) answer text
  pub text_written : Bool
  pub out : Keeps (TookOrPart sink_faults written text_written text) (old.std Out) (new.std Out)
  pub untouched : answer ≡ NoMemory → Keeps (λ told kept. kept ≡ told) (old.std Out) (new.std Out)
  pub errors : Says (audit_error file answer)
  pub cause : status ≡ audit_status text_written answer

-- The file could not be opened, or no opening failed and it was audited, and its source is kept. No other input, no output,
-- no port and no end of control was touched.
pub record IsAuditRun {S K C : Type 0} (left : S → Option (List ℕ)) (written : K → Option (List ℕ)) (source_faults : S → ℕ) (sink_faults : K → ℕ) (file : List ℕ) (Says : List ℕ → Type 0) (old new : Book S K C) (status : ℕ) : Type 0 where
  pub did : IsCheckedUnopened file Says old new status ⊎ (IsKept left source_faults file old new × IsAuditedFile left written source_faults sink_faults file Says old new status)
  pub still : status ≢ 7 → new.faults ≡ old.faults
  pub inputs : OthersStay old.inputs new.inputs file
  pub rest : new ≡ record old { faults = new.faults; inputs = new.inputs; std = new.std }

-- Nothing was written to standard output: it wasn't opened, or it was for an audit without memory, and its end is kept as it
-- was handed out.
abbrev pub StaysUnwritten : {K : Type 0} → List (List ℕ) → ℕ → Place K → Place K → Type 0
StaysUnwritten words status old new = (new ≡ old) ⊎ ((file : List ℕ) × IsAudit file words × (status ≡ 1) × Keeps (λ told kept. kept ≡ told) old new)
