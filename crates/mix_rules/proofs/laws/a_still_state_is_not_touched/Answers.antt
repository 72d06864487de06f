use Rattle.mix_rules.proofs.EndLemmas.{still-touched}
use Rattle.mix_rules.proofs.laws.a_still_state_is_not_touched.Goals as goal

pub returns : goal.returns
returns c = λ k t s times. still-touched k times s t
