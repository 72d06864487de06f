use Rattle.savi_kinds.proofs.MacGrammar.{written_mac}
use Rattle.savi_kinds.proofs.text_laws.mac_texts_are_read_again.Goals as goal

pub returns : goal.returns
returns c = λ m h. written_mac m h.0 h.1
