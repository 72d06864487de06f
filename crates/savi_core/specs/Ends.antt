-- How the passes of a switch have ended for good, as a core keeps it.
use Rattle.std.specs.Prelude.{◌≡◌, ℕ, ◌+◌, ◌<◌, if◌then◌else◌, Option, Some, None, List, length, map, replicate, slice_index_or, slice_set}
use Rattle.std.specs.Option.{is_some}
use Rattle.savi_kinds.specs.declared.plan.Plan.{Plan}
use Rattle.savi_kinds.specs.declared.entry.How.{How}
use Rattle.hist_store.specs.Rows.{Row}
use Rattle.checkpoint.specs.Bases.{Base}
use Rattle.savi_history.specs.Passes.{pass_count, control_pass}
use Rattle.savi_history.specs.Endings.{is_paused_reason}
use Rattle.savi_segments.specs.Checkpoints.{end_of}
use Rattle.savi_core.specs.PassMarks.{PassMarks}

pub record EndMarks : Type 0 where
  -- how many inputs there are
  pub inputs : ℕ
  -- how a pass has ended for good, by its number
  pub ends : List (Option How)

-- none has
abbrev pub none_over : ℕ → EndMarks
none_over inputs = record { inputs = inputs; ends = replicate 34 None }

-- the marks of the passes that have
abbrev pub over_marks : EndMarks → PassMarks
over_marks marks = record { inputs = marks.inputs; ended = map is_some marks.ends }

-- a pass has ended for good, for this reason
abbrev pub with_over : ℕ → How → EndMarks → EndMarks
with_over pass how marks = record marks { ends = slice_set marks.ends pass (Some how) }

-- it has ended for good, or is paused
abbrev pub with_ending : ℕ → How → EndMarks → EndMarks
with_ending pass how marks = if is_paused_reason how then marks else with_over pass how marks

-- they are those of a history
pub record AreEnds (plan : Plan) (base : Base) (past : List Row) (marks : EndMarks) : Type 0 where
  pub inputs : marks.inputs ≡ control_pass plan + 1
  pub size : length marks.ends ≡ 34
  pub ends : (pass : ℕ) → pass < pass_count plan → slice_index_or marks.ends pass None ≡ end_of base pass past
