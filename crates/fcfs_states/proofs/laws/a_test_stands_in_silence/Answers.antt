use Rattle.fcfs_states.proofs.RowLemmas.{Row-test}
use Rattle.fcfs_states.proofs.RunLemmas.{run_of, silent}
use Rattle.fcfs_states.proofs.laws.a_test_stands_in_silence.Goals as goal

pub returns : goal.returns
returns c = record {
  run = λ k t marks port since times run test. silent k times t marks port since (run_of t marks run) test;
  row = λ k t room state new event answer port since sound row test late. Row-test row sound port since test late;
}
