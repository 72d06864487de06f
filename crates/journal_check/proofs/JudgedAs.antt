-- What is judged never is want of memory.
use Rattle.std.proofs.Common.{◌≡◌, ◌≢◌, refl}
use Rattle.journal_check.specs.declared.answer.Checked.TheVariants as checked
use Rattle.journal_check.specs.declared.answer.Judged.{Judged}
use Rattle.journal_check.specs.declared.answer.Judged.TheVariants as judged
use Rattle.journal_check.specs.Judging.{checked_of}

pub never_memory : (j : Judged) → checked_of j ≡ checked.NoMemory → ⊥
never_memory (judged.Good entries) is = cc
never_memory (judged.Wrong entry want have) is = cc
never_memory (judged.BadLine n) is = cc
never_memory judged.Failed is = cc

pub failed_is : (j : Judged) → checked_of j ≡ checked.Failed → j ≡ judged.Failed
failed_is (judged.Good entries) is = cc
failed_is (judged.Wrong entry want have) is = cc
failed_is (judged.BadLine n) is = cc
failed_is judged.Failed is = refl

pub not_failed : (j : Judged) → checked_of j ≢ checked.Failed → j ≢ judged.Failed
not_failed (judged.Good entries) other is = cc
not_failed (judged.Wrong entry want have) other is = cc
not_failed (judged.BadLine n) other is = cc
not_failed judged.Failed other is = other refl
