use Rattle.fcfs_states.proofs.AgeingLemmas.{Ages-aged, Ages-one}
use Rattle.fcfs_states.proofs.laws.ageing_is_one.Goals as goal

pub returns : goal.returns
returns c = λ k t state times. record { rows = Ages-aged k times t state; only = λ other row. Ages-one k times t row }
