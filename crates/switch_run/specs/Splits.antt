-- What a run has done with a capture that was to be split: its outputs, what standard output and standard error took, and the
-- status.
use Rattle.std.specs.Prelude.{◌≡◌, ◌⊎◌, ℕ, Bool, if◌then◌else◌, List, [], Option}
use Rattle.savi_ends.specs.declared.world.Std.TheVariants.{Out}
use Rattle.savi_ends.specs.Places.{Place, Book, OthersStay}
use Rattle.pcap_split.specs.declared.counts.Counts.{Counts}
use Rattle.split_run.specs.declared.outcome.Outcome.{Outcome}
use Rattle.split_run.specs.declared.outcome.Outcome.TheVariants as outcome
use Rattle.split_run.specs.CountsLines.{counts_line}
use Rattle.split_run.specs.Names.{output_name}
use Rattle.split_run.specs.Runs.{CameTo, HasOpenedAll}
use Rattle.switch_report.specs.RunLines.{cannot_open_line, malformed_line, memory_line, read_failed_line, write_failed_line}
use Rattle.switch_run.specs.Causes.{Keeps, TookOrPart}

-- Standard output took the line of what was counted, or a front of it where a write failed, and then the status says so and
-- standard error was told nothing.
pub record IsCountTold {K : Type 0} (written : K → Option (List ℕ)) (faults : K → ℕ) (Says : List ℕ → Type 0) (counts : Counts) (error : List ℕ) (answered : ℕ) (old new : Place K) (status : ℕ) : Type 0 where
  -- whether the line was written
  pub line_written : Bool
  pub line : Keeps (TookOrPart faults written line_written (counts_line counts)) old new
  pub errors : Says (if line_written then error else [])
  pub cause : status ≡ (if line_written then answered else 6)

-- Standard output was not touched, and standard error was told this.
pub record IsOnlyTold {K : Type 0} (Says : List ℕ → Type 0) (error : List ℕ) (answered : ℕ) (old new : Place K) (status : ℕ) : Type 0 where
  pub errors : Says error
  pub out : new ≡ old
  pub cause : status ≡ answered

-- what was said of what came of a capture
abbrev pub IsTold : {K : Type 0} → (K → Option (List ℕ)) → (K → ℕ) → (List ℕ → Type 0) → List ℕ → Outcome → Place K → Place K → ℕ → Type 0
IsTold written faults Says file (outcome.Split counts) old new status = IsCountTold written faults Says counts [] 0 old new status
IsTold written faults Says file (outcome.Malformed at counts) old new status = IsCountTold written faults Says counts (malformed_line file at) 4 old new status
IsTold written faults Says file outcome.Unread old new status = IsOnlyTold Says (read_failed_line file) 5 old new status
IsTold written faults Says file (outcome.Unwritten interface) old new status = IsOnlyTold Says (write_failed_line (output_name file interface)) 6 old new status
IsTold written faults Says file (outcome.NoOutput interface) old new status = IsOnlyTold Says (cannot_open_line (output_name file interface)) 7 old new status
IsTold written faults Says file outcome.NoInput old new status = IsOnlyTold Says (cannot_open_line file) 7 old new status

-- There was no memory, as standard error was told, and nothing was opened.
pub record IsUnsplit {S K C : Type 0} (Says : List ℕ → Type 0) (old new : Book S K C) (status : ℕ) : Type 0 where
  pub told : IsOnlyTold Says memory_line 1 (old.std Out) (new.std Out) status
  pub rest : new ≡ record old { std = new.std }

-- The capture came to this, which was said, and where all was opened, no opening failed meanwhile.
pub record IsSplitAs {S K C : Type 0} (left : S → Option (List ℕ)) (written : K → Option (List ℕ)) (source_faults : S → ℕ) (sink_faults : K → ℕ) (file : List ℕ) (Says : List ℕ → Type 0) (old new : Book S K C) (status : ℕ) : Type 0 where
  pub outcome : Outcome
  pub came : CameTo left written source_faults sink_faults file old new outcome
  pub still : HasOpenedAll outcome → new.faults ≡ old.faults
  pub told : IsTold written sink_faults Says file outcome (old.std Out) (new.std Out) status
  pub inputs : OthersStay old.inputs new.inputs file
  pub rest : new ≡ record old { faults = new.faults; inputs = new.inputs; outputs = new.outputs; std = new.std }

-- There was no memory, or the capture of this name was split, as far as that went. No other input was touched, nor the ends
-- of any port, of control or of the ticker.
abbrev pub IsCaptureRun : {S K C : Type 0} → (S → Option (List ℕ)) → (K → Option (List ℕ)) → (S → ℕ) → (K → ℕ) → List ℕ → (List ℕ → Type 0) → Book S K C → Book S K C → ℕ → Type 0
IsCaptureRun left written source_faults sink_faults file Says old new status =
    IsUnsplit Says old new status ⊎ IsSplitAs left written source_faults sink_faults file Says old new status
