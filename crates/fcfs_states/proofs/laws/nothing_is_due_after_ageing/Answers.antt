use Rattle.fcfs_states.proofs.AgeingLemmas.{Ages-aged, Ages-rest}
use Rattle.fcfs_states.proofs.laws.nothing_is_due_after_ageing.Goals as goal

pub returns : goal.returns
returns c = λ k t state times. Ages-rest k times t (Ages-aged k times t state)
