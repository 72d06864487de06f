use Rattle.journal_check.proofs.GoodJournals.{good_is_journal}
use Rattle.journal_check.proofs.laws.what_is_good_is_a_journal.Goals as goal

pub returns : goal.returns
returns c = good_is_journal
