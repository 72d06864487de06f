use Rattle.fcfs_states.proofs.RowLemmas.{Row-live}
use Rattle.fcfs_states.proofs.AgesLemmas.{AgeRow-live}
use Rattle.fcfs_states.proofs.laws.only_a_test_ends_a_binding.Goals as goal

pub returns : goal.returns
returns c = record {
  events = λ k t room state new event answer port row live. Row-live row port live;
  ageing = λ k state new due probe port row live ended. AgeRow-live k row port live ended;
}
