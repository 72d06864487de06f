use Rattle.mix_rules.proofs.FirstComeLemmas.{first_come}
use Rattle.mix_rules.proofs.laws.first_come_is_first_served.Goals as goal

pub returns : goal.returns
returns c = λ m k base from t0 early late mark p q times sound before run is differ live passing. first_come m k times base sound from t0 early before p mark late q is differ run live passing
