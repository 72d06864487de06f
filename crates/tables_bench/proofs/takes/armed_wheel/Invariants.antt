use Rattle.std.proofs.Common.{◌≡◌, ◌≤◌, length}
use Rattle.tables_bench.proofs.takes.armed_wheel.Given as goal

abbrev pub invariant-loop-a : goal.invariant-loop-a
invariant-loop-a l = record { most : l.wheel.most ≡ 13; room : length l.wheel.arms ≤ l.a-index }
