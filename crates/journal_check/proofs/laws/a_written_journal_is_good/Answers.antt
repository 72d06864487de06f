use Rattle.journal_check.proofs.Nameless.{written_is_good}
use Rattle.journal_check.proofs.laws.a_written_journal_is_good.Goals as goal

pub returns : goal.returns
returns c = written_is_good
