-- What the check of a journal has done: its file was read, the line that its text is answered with was written, and nothing
-- else was touched.
use Rattle.std.specs.Prelude.{◌≡◌, ◌≢◌, ◌≤◌, ◌⊎◌, ℕ, Bool, if◌then◌else◌, List, [], Option}
use Rattle.savi_ends.specs.declared.world.Std.TheVariants.{Out}
use Rattle.savi_ends.specs.Faults.{Rose}
use Rattle.savi_ends.specs.Places.{Book, OthersStay}
use Rattle.run_config.specs.Configs.{EndHasFault, EndHasNoFault, OfText}
use Rattle.journal_check.specs.declared.answer.Checked.{Checked}
use Rattle.journal_check.specs.declared.answer.Checked.TheVariants.{Good, Wrong, BadLine, Failed, NoMemory}
use Rattle.journal_check.specs.Answers.{HasReadHeader, IsAnswer}
use Rattle.journal_check.specs.Laws.{IsFinishedJournal}
use Rattle.journal_check.specs.Pieces.{GaveSome}
use Rattle.switch_report.specs.CheckLines.{bad_line, good_line, wrong_line}
use Rattle.switch_report.specs.RunLines.{cannot_open_line, memory_line, read_failed_line}
use Rattle.switch_run.specs.Causes.{Keeps, TookOrPart}

-- the line of what a text is; what was read in part has none
abbrev pub check_line : Checked → List ℕ
check_line (Good entries) = good_line entries
check_line (Wrong entry want have) = wrong_line entry want have
check_line (BadLine n) = bad_line n
check_line Failed = []
check_line NoMemory = []

-- the status of what a text is, where its line was written
abbrev pub check_status : Checked → ℕ
check_status (Good entries) = 0
check_status (Wrong entry want have) = 4
check_status (BadLine n) = 4
check_status Failed = 5
check_status NoMemory = 1

-- the text was read, up to where its answer shows, and there was memory
abbrev pub IsTextRead : Checked → Type 0
IsTextRead (Good entries) = Unit {0}
IsTextRead (Wrong entry want have) = Unit {0}
IsTextRead (BadLine n) = Unit {0}
IsTextRead Failed = ⊥
IsTextRead NoMemory = ⊥

-- The file could not be opened, which was tried once, and its place is as it was.
pub record IsCheckedUnopened {S K C : Type 0} (file : List ℕ) (Says : List ℕ → Type 0) (old new : Book S K C) (status : ℕ) : Type 0 where
  pub status_is : status ≡ 7
  pub fault : Rose old.faults new.faults
  pub errors : Says (cannot_open_line file)
  pub place : new.inputs file ≡ old.inputs file
  pub out : new.std Out ≡ old.std Out

-- There was no memory, as standard error was told: nothing of the file had been read, or its header and at most one piece
-- behind it. No read of it failed.
pub record IsUnjudged {S K C : Type 0} (left : S → Option (List ℕ)) (source_faults : S → ℕ) (file : List ℕ) (Says : List ℕ → Type 0) (old new : Book S K C) (status : ℕ) : Type 0 where
  pub status_is : status ≡ 1
  pub still : EndHasNoFault source_faults (new.inputs file)
  pub memory : Keeps (λ told kept. (kept ≡ told) ⊎ HasReadHeader (left told) (left kept)) (old.inputs file) (new.inputs file)
  pub errors : Says memory_line
  pub out : new.std Out ≡ old.std Out

-- A read of the file failed, as standard error was told.
pub record IsJournalUnread {S K C : Type 0} (source_faults : S → ℕ) (file : List ℕ) (Says : List ℕ → Type 0) (old new : Book S K C) (status : ℕ) : Type 0 where
  pub status_is : status ≡ 5
  pub fault : EndHasFault source_faults (new.inputs file)
  pub errors : Says (read_failed_line file)
  pub out : new.std Out ≡ old.std Out

-- Where the file tells its text, this is the one answer to it: `Good` exactly where the text is the journal of a finished
-- history. No read of the file failed. Standard output took its line, or a front of it where a write failed, and then the
-- status says so; standard error was told nothing.
pub record IsAnswered {S K C : Type 0} (left : S → Option (List ℕ)) (written : K → Option (List ℕ)) (source_faults : S → ℕ) (sink_faults : K → ℕ) (file : List ℕ) (Says : List ℕ → Type 0) (old new : Book S K C) (status : ℕ) : Type 0 where
  pub answer : Checked
  pub read : IsTextRead answer
  pub still : EndHasNoFault source_faults (new.inputs file)
  pub is : OfText left (old.inputs file) (λ text. IsAnswer text answer)
  pub alone : OfText left (old.inputs file) (λ text. (other : Checked) → IsAnswer text other → answer ≡ other)
  pub good : (entries : ℕ) → answer ≡ Good entries → OfText left (old.inputs file) (λ text. IsFinishedJournal text entries)
  pub journal : (entries : ℕ) → OfText left (old.inputs file) (λ text. IsFinishedJournal text entries → answer ≡ Good entries)
  -- whether the line was written
  pub line_written : Bool
  pub line : Keeps (TookOrPart sink_faults written line_written (check_line answer)) (old.std Out) (new.std Out)
  pub errors : Says []
  pub cause : status ≡ (if line_written then check_status answer else 6)

-- the file's source was handed out, a front of what it had was read, and it is kept again
abbrev pub IsKept : {S K C : Type 0} → (S → Option (List ℕ)) → (S → ℕ) → List ℕ → Book S K C → Book S K C → Type 0
IsKept left source_faults file old new = Keeps (λ told kept. (source_faults told ≤ source_faults kept) × GaveSome (left told) (left kept)) (old.inputs file) (new.inputs file)

-- what came of a file that was opened
abbrev pub IsJudged : {S K C : Type 0} → (S → Option (List ℕ)) → (K → Option (List ℕ)) → (S → ℕ) → (K → ℕ) → List ℕ → (List ℕ → Type 0) → Book S K C → Book S K C → ℕ → Type 0
IsJudged left written source_faults sink_faults file Says old new status =
    IsUnjudged left source_faults file Says old new status ⊎ (IsJournalUnread source_faults file Says old new status ⊎ IsAnswered left written source_faults sink_faults file Says old new status)

-- The file could not be opened, or no opening failed and it was checked, and its source is kept. No other input, no output,
-- no port and no end of control was touched.
pub record IsCheckRun {S K C : Type 0} (left : S → Option (List ℕ)) (written : K → Option (List ℕ)) (source_faults : S → ℕ) (sink_faults : K → ℕ) (file : List ℕ) (Says : List ℕ → Type 0) (old new : Book S K C) (status : ℕ) : Type 0 where
  pub did : IsCheckedUnopened file Says old new status ⊎ (IsKept left source_faults file old new × IsJudged left written source_faults sink_faults file Says old new status)
  pub still : status ≢ 7 → new.faults ≡ old.faults
  pub inputs : OthersStay old.inputs new.inputs file
  pub rest : new ≡ record old { faults = new.faults; inputs = new.inputs; std = new.std }
