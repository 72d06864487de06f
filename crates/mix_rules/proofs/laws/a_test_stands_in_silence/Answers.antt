use Rattle.mix_rules.proofs.EventLemmas.{next-test}
use Rattle.mix_rules.proofs.EndLemmas.{aged-test}
use Rattle.mix_rules.proofs.RunLemmas.{silent_at}
use Rattle.mix_rules.proofs.laws.a_test_stands_in_silence.Goals as goal

pub returns : goal.returns
returns c = record {
  event = λ m k t room s event port since sound test late. next-test m k t room s event port since sound test late;
  ageing = λ k t from s port since times idle test. aged-test k times port t s since from idle test;
  run = λ m k base from t past port since times sound run test. silent_at m k times base sound port since from t past run test;
}
