use Rattle.mix_rules.proofs.FirstComeLemmas.{kept}
use Rattle.mix_rules.proofs.laws.who_has_an_address_keeps_it.Goals as goal

pub returns : goal.returns
returns c = λ m k base from t0 t early late port times sound before run live over. kept m k times base sound from t0 early before port t late run live over
