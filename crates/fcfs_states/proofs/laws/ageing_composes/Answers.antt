use Rattle.fcfs_states.proofs.AgesLemmas.{aged-joins}
use Rattle.fcfs_states.proofs.laws.ageing_composes.Goals as goal

pub returns : goal.returns
returns c = λ k t u state times below. aged-joins k times t u state below
