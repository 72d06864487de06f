use Rattle.std.proofs.Common.{◌++◌}
use Rattle.fcfs_states.proofs.RunLemmas.{run_of, lost_by_test}
use Rattle.fcfs_states.proofs.laws.first_come_is_first_served.Goals as goal

pub returns : goal.returns
returns c = λ k t0 t early late port times after run0 run all live ended. lost_by_test k times t0 t early late port after (run_of t0 early run0) (run_of t (late ++ early) run) all live ended
