use Rattle.std.proofs.Common.{◌≡◌, ◌≤◌, ◌+◌, length, take}
use Rattle.tables_bench.specs.Armed.{armed_all}
use Rattle.tables_bench.proofs.wheel_turns.arm_all.Given as goal

abbrev pub invariant-loop-a : goal.invariant-loop-a
invariant-loop-a l = record { moment : l.moment ≡ l.first + l.a-index; arms : (l.moment, l.wheel.arms) ≡ armed_all l.first l.fn.wheel.arms (take l.a-index l.asked); most : l.wheel.most ≡ l.fn.wheel.most; room : length l.wheel.arms ≤ length l.fn.wheel.arms + l.a-index }
