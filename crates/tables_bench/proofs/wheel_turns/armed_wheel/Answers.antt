use Rattle.std.proofs.Common.{◌+◌, ap, ◌∙◌, inr, arith}
use Rattle.timer_wheel.specs.Arms.{Wheel}
use Rattle.tables_bench.proofs.Lengths.{length-with_due}
use Rattle.tables_bench.proofs.wheel_turns.armed_wheel.Goals as goal

pub arm-requires : goal.arm-requires
arm-requires c = inr (omega (arith, c.loop-n.invariant.room, c.loop-n.invariant.most, c.loop-n-test.true))

pub loop-n-preserved : goal.loop-n-preserved
loop-n-preserved c = record {
  most = ap (λ (wheel : Wheel). wheel.most) c.arm.ensures ∙ c.loop-n.invariant.most;
  room = rw c.arm.ensures (omega (arith, length-with_due c.address.result.0 (300000 + c.from.result) c.loop-n.wheel.arms, c.loop-n.invariant.room));
}
