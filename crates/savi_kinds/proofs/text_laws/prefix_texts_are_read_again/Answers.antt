use Rattle.savi_kinds.proofs.AddrWritten.{written_prefix}
use Rattle.savi_kinds.proofs.text_laws.prefix_texts_are_read_again.Goals as goal

pub returns : goal.returns
returns c = written_prefix
