use Rattle.savi_kinds.proofs.PrefixGrammar.{one_prefix}
use Rattle.savi_kinds.proofs.text_laws.a_text_is_of_one_prefix.Goals as goal

pub returns : goal.returns
returns c = one_prefix
