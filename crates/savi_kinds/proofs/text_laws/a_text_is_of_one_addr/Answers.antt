use Rattle.savi_kinds.proofs.AddrGrammar.{one_address}
use Rattle.savi_kinds.proofs.text_laws.a_text_is_of_one_addr.Goals as goal

pub returns : goal.returns
returns c = one_address
