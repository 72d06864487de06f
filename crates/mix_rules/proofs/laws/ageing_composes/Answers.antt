use Rattle.mix_rules.proofs.AgeingLemmas.{aged-joins-all}
use Rattle.mix_rules.proofs.laws.ageing_composes.Goals as goal

pub returns : goal.returns
returns c = λ k t u s times after. aged-joins-all k times t u after s
