-- What a line is behind the lines of a past.
use Rattle.std.specs.Prelude.{◌≡◌, ◌≢◌, ℕ, List, ◌∷◌, length}
use Rattle.savi_kinds.specs.declared.plan.Plan.{Plan}
use Rattle.hist_store.specs.Rows.{Row}
use Rattle.hist_store.specs.TextOfLines.{joined}
use Rattle.hist_store.specs.EntryLines.{SaysEntry, row_said}
use Rattle.hist_store.specs.JournalTexts.{journal_end_line}
use Rattle.checkpoint.specs.Bases.{Base}
use Rattle.savi_history.specs.Legal.{Stands, IsFinished}
use Rattle.savi_core.specs.Machines.{Machine, base_of}
use Rattle.journal_check.specs.declared.turns.Turn.{Turn}
use Rattle.journal_check.specs.declared.turns.Turn.TheVariants as turns
use Rattle.journal_check.specs.Differing.{Differs}

-- the line says a row that may stand behind the past
pub record SaysNext (plan : Plan) (base : Base) (past : List Row) (line : List ℕ) (row : Row) : Type 0 where
  pub stands : Stands plan base past row
  pub says : SaysEntry line (length past) (row_said row)

-- the line says an entry with the next number, which differs from those that may stand there
pub record SaysWrong (plan : Plan) (base : Base) (past : List Row) (line want have : List ℕ) : Type 0 where
  pub row : Row
  pub says : SaysEntry line (length past) row
  pub differs : Differs plan base past row want have

-- the line is that of no entry with the next number, nor the last one where that may stand
pub record SaysNothing (plan : Plan) (base : Base) (past : List Row) (line : List ℕ) : Type 0 where
  pub entry : (row : Row) → ¬ SaysEntry line (length past) row
  pub last : IsFinished plan base past → line ≢ joined (journal_end_line (length past))

abbrev pub MadeTurn : Machine → List ℕ → Machine → Turn → Type 0
MadeTurn old line new turns.Stands = (row : Row) × SaysNext old.plan (base_of old) old.past line row × (new ≡ record old { past = row ∷ old.past })
MadeTurn old line new (turns.Wrong apart) = SaysWrong old.plan (base_of old) old.past line apart.want apart.have
MadeTurn old line new turns.Last = IsFinished old.plan (base_of old) old.past × (line ≡ joined (journal_end_line (length old.past))) × (new ≡ old)
MadeTurn old line new turns.Bad = SaysNothing old.plan (base_of old) old.past line × (new ≡ old)
