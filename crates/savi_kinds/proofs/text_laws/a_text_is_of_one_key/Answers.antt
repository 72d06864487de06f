use Rattle.savi_kinds.proofs.KeyGrammar.{one_key}
use Rattle.savi_kinds.proofs.text_laws.a_text_is_of_one_key.Goals as goal

pub returns-clause-vlan : goal.returns-clause-vlan
returns-clause-vlan c = λ text v w a b h k. (one_key text v w a b h k).0

pub returns-clause-address : goal.returns-clause-address
returns-clause-address c = λ text v w a b h k. (one_key text v w a b h k).1
