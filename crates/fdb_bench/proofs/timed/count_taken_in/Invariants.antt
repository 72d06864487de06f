use Rattle.std.proofs.Common.{◌≤◌}
use Rattle.fdb_bench.proofs.timed.count_taken_in.Given as goal

abbrev pub invariant-loop-n : goal.invariant-loop-n
invariant-loop-n l = l.taken ≤ l.n
