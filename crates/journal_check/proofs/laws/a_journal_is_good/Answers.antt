use Rattle.journal_check.proofs.GoodJournals.{journal_is_good}
use Rattle.journal_check.proofs.laws.a_journal_is_good.Goals as goal

pub returns : goal.returns
returns c = journal_is_good
