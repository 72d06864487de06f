use Rattle.std.proofs.Common.{◌≡◌, ◌≤◌, ◌*◌, length}
use Rattle.tables_bench.proofs.wheel_turns.armed_wheel.Given as goal

abbrev pub invariant-loop-n : goal.invariant-loop-n
invariant-loop-n l = record { most : l.wheel.most ≡ 2 * l.addresses; room : length l.wheel.arms ≤ l.n }
