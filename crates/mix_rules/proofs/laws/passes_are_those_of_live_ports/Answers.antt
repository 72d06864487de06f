use Rattle.mix_rules.proofs.EventLemmas.{sent-passes, na-passes, sent-stays}
use Rattle.mix_rules.proofs.laws.passes_are_those_of_live_ports.Goals as goal

pub returns : goal.returns
returns c = record {
  sent = λ m k t room s p sound. sent-passes m k t room s p sound;
  na = λ m k t room s p sound. na-passes m k t room s p sound;
  stays = λ m k t room s p live. sent-stays m k t room s p live;
}
