use Rattle.savi_kinds.proofs.KeyGrammar.{written_key}
use Rattle.savi_kinds.proofs.text_laws.key_texts_are_read_again.Goals as goal

pub returns : goal.returns
returns c = written_key
