use Rattle.hist_store.proofs.OneEntry.{written_says}
use Rattle.hist_store.proofs.line_laws.a_written_line_says_its_entry.Goals as goal

pub returns : goal.returns
returns c = written_says
