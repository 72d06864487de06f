use Rattle.hist_store.specs.JournalTexts.{address_text}
use Rattle.savi_segments.proofs.OneJournal.{journal_tells}
use Rattle.savi_segments.proofs.journal_laws.journals_tell_one_history.Goals as goal

pub returns-clause-written : goal.returns-clause-written
returns-clause-written c = journal_tells address_text c.written_addresses_are_told_apart.ensures

pub returns-clause-every : goal.returns-clause-every
returns-clause-every c = journal_tells
