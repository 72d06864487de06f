use Rattle.journal_check.proofs.Nameless.{journals_lack_names}
use Rattle.journal_check.proofs.laws.journals_lack_names.Goals as goal

pub returns : goal.returns
returns c = journals_lack_names
