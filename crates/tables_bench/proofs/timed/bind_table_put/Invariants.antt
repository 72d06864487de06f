use Rattle.std.proofs.Common.{◌≡◌, ◌*◌}
use Rattle.tables_bench.proofs.timed.bind_table_put.Given as goal

abbrev pub invariant-loop-round : goal.invariant-loop-round
invariant-loop-round g l = l.table.most ≡ 2 * l.addresses
