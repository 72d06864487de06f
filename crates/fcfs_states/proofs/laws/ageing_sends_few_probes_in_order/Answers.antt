use Rattle.fcfs_states.proofs.AgeingLemmas.{Ages-aged}
use Rattle.fcfs_states.proofs.AgesLemmas.{Ages-few, Ages-rising, Ages-rising_after, Ages-by, probes_left-most}
use Rattle.fcfs_states.proofs.laws.ageing_sends_few_probes_in_order.Goals as goal
use Rattle.std.proofs.Common.{◌≤◌, length, arith}
use Rattle.fcfs_states.specs.Aged.{aged}
use Rattle.fcfs_states.proofs.AgeingLemmas.{probes_left}

pub returns : goal.returns
returns c = record {
  few = λ k t state times. let left : length (aged k t state).probes ≤ probes_left state = Ages-few k t (Ages-aged k times t state) in let most : probes_left state ≤ 3 = probes_left-most state in omega arith;
  rising = λ k t state times. Ages-rising k t times (Ages-aged k times t state);
  above = λ k t from state times idle. Ages-rising_after k t times (Ages-aged k times t state) from idle;
  by = λ k t state times. Ages-by k t (Ages-aged k times t state);
}
