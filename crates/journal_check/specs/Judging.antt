-- The answer of a check by what its text was judged to be.
use Rattle.journal_check.specs.declared.answer.Checked.{Checked}
use Rattle.journal_check.specs.declared.answer.Checked.TheVariants as checked
use Rattle.journal_check.specs.declared.answer.Judged.{Judged}
use Rattle.journal_check.specs.declared.answer.Judged.TheVariants as judged

abbrev pub checked_of : Judged → Checked
checked_of (judged.Good entries) = checked.Good entries
checked_of (judged.Wrong entry want have) = checked.Wrong entry want have
checked_of (judged.BadLine n) = checked.BadLine n
checked_of judged.Failed = checked.Failed
