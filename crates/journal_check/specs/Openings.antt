-- What came of the lines in front of the entries of a segment.
use Rattle.std.specs.Prelude.{◌≡◌, ◌+◌, ℕ, List, length, Option}
use Rattle.hist_store.specs.TextOfLines.{lines_text}
use Rattle.savi_ends.specs.Octets.{in_front}
use Rattle.savi_core.specs.Machines.{Machine, base_of}
use Rattle.journal_check.specs.declared.answer.Checked.{Checked}
use Rattle.journal_check.specs.declared.answer.Checked.TheVariants.{BadLine}
use Rattle.journal_check.specs.declared.openings.Before.{Before}
use Rattle.journal_check.specs.Headers.{LineFields}
use Rattle.journal_check.specs.Fronts.{DepartsAfter, opening_lines}

-- They were taken, behind the last line of a switch that went on: what stands before the entries now is counted.
pub record OpensSegment (old new : Machine) (before next : Before) (ahead behind : Option (List ℕ)) : Type 0 where
  pub lines : next.lines ≡ before.lines + length old.past + 1 + length (opening_lines old.plan (base_of new))
  pub entries : next.entries ≡ before.entries + length old.past
  pub segments : next.segments ≡ before.segments + 1
  pub taken : ahead ≡ in_front (lines_text (opening_lines old.plan (base_of new))) behind

-- they break off behind so many lines of the text, which is told
abbrev pub BreaksAt : List LineFields → ℕ → List ℕ → Checked → Type 0
BreaksAt wanted before octets answer = (count : ℕ) × DepartsAfter wanted octets count × (answer ≡ BadLine (before + 1 + count))
