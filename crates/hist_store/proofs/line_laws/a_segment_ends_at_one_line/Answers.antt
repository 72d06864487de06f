use Rattle.hist_store.proofs.JournalLemmas.{segment_cut}
use Rattle.hist_store.proofs.line_laws.a_segment_ends_at_one_line.Goals as goal

pub returns : goal.returns
returns c = λ base rest more rows others same. segment_cut base rows others rest more same
