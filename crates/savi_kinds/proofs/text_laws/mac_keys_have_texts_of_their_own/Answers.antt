use Rattle.savi_kinds.proofs.KeyGrammar.{one_mac_key}
use Rattle.savi_kinds.proofs.text_laws.mac_keys_have_texts_of_their_own.Goals as goal

pub returns-clause-vlan : goal.returns-clause-vlan
returns-clause-vlan c = λ v w m n one other six six' same. (one_mac_key v w m n one other six six' same).0

pub returns-clause-mac : goal.returns-clause-mac
returns-clause-mac c = λ v w m n one other six six' same. (one_mac_key v w m n one other six six' same).1
