use Rattle.mix_rules.proofs.HolderLemmas.{next-held, aged-held, someone-holds}
use Rattle.mix_rules.proofs.laws.a_port_holds_what_it_has_room_for.Goals as goal

pub returns-clause-events : goal.returns-clause-events
returns-clause-events c = next-held

pub returns-clause-ageing : goal.returns-clause-ageing
returns-clause-ageing c = aged-held

pub returns-clause-someone : goal.returns-clause-someone
returns-clause-someone c = someone-holds
