use Rattle.savi_kinds.proofs.MacGrammar.{one_mac}
use Rattle.savi_kinds.proofs.text_laws.a_text_is_of_one_mac.Goals as goal

pub returns : goal.returns
returns c = one_mac
