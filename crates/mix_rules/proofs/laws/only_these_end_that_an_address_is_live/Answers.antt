use Rattle.mix_rules.proofs.EventLemmas.{next-live}
use Rattle.mix_rules.proofs.EndLemmas.{aged-live, next-moment-live}
use Rattle.mix_rules.proofs.laws.only_these_end_that_an_address_is_live.Goals as goal

pub returns : goal.returns
returns c = record {
  events = λ m k t room s event port live over. next-live m k t room s event port live over;
  ageing = λ m k t s port times sound live over. aged-live k times port t m s sound live over;
  moment = λ m k t s port times sound still live over. next-moment-live k times port t m s sound still live over;
}
