use Rattle.std.proofs.Common.{◌+◌, ◌*◌, length}
use Rattle.lock_bench.proofs.pass_turns.+fn-run_threads-join+arg3+run_threads.Given as goal

abbrev pub decreases-run_threads : goal.decreases-run_threads
decreases-run_threads g l = 2 * length l.passes.items

abbrev pub decreases-join+arg3 : goal.decreases-join+arg3
decreases-join+arg3 g l = 2 * length l.passes.items + 1
