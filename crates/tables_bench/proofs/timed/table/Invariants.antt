use Rattle.std.proofs.Common.{◌≡◌, ◌*◌}
use Rattle.tables_bench.proofs.timed.table.Given as goal

abbrev pub invariant-loop-n : goal.invariant-loop-n
invariant-loop-n l = l.table.most ≡ 2 * l.addresses
