-- What a run of a load has done: the load was replayed in memory, and nothing was touched but the standard outputs.
use Rattle.std.specs.Prelude.{◌≡◌, ◌⊎◌, ℕ, Bool, if◌then◌else◌, List, [], Option}
use Rattle.savi_kinds.specs.declared.plan.Plan.{Plan}
use Rattle.savi_ends.specs.declared.world.Std.TheVariants.{Out}
use Rattle.savi_ends.specs.Places.{Place, Book}
use Rattle.savi_history.specs.Summary.{summary_of, summary_text}
use Rattle.savi_segments.specs.Segments.{IsWholeSession, joined}
use Rattle.load_gen.specs.LoadPlan.{IsLoadPlan}
use Rattle.load_run.specs.LoadHistory.{AreOrdinary, load_segments}
use Rattle.switch_report.specs.RunLines.{memory_line}
use Rattle.switch_run.specs.Causes.{Keeps, TookOrPart}

-- There was no memory, as standard error was told, and standard output was not touched.
pub record IsLoadUnplayed {K : Type 0} (Says : List ℕ → Type 0) (old new : Place K) (status : ℕ) : Type 0 where
  pub one : status ≡ 1
  pub errors : Says memory_line
  pub out : new ≡ old

-- The segments of a load, at a switch of its plan, are those of a session, and every end in them is an ordinary one.
-- Standard output took their summary, or a front of it where a write failed, and then the status says so; standard error was
-- told nothing.
pub record IsLoadSummed {K : Type 0} (written : K → Option (List ℕ)) (faults : K → ℕ) (seed frames : ℕ) (Says : List ℕ → Type 0) (old new : Place K) (status : ℕ) : Type 0 where
  pub plan : Plan
  pub load : IsLoadPlan plan
  pub session : IsWholeSession plan (load_segments plan seed frames)
  pub ordinary : AreOrdinary (joined (load_segments plan seed frames))
  -- whether the summary was written
  pub summary_written : Bool
  pub summary : Keeps (TookOrPart faults written summary_written (summary_text (summary_of (joined (load_segments plan seed frames))))) old new
  pub errors : Says []
  pub cause : status ≡ (if summary_written then 0 else 6)

-- There was no memory, or the segments of the load were summed up. No input, output, port or end of control was touched, and
-- nothing was opened.
pub record IsLoadRun {S K C : Type 0} (written : K → Option (List ℕ)) (sink_faults : K → ℕ) (seed frames : ℕ) (Says : List ℕ → Type 0) (old new : Book S K C) (status : ℕ) : Type 0 where
  pub did : IsLoadUnplayed Says (old.std Out) (new.std Out) status ⊎ IsLoadSummed written sink_faults seed frames Says (old.std Out) (new.std Out) status
  pub rest : new ≡ record old { std = new.std }
