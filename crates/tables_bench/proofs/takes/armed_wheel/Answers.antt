use Rattle.std.proofs.Common.{◌≡◌, ◌≤◌, ◌+◌, ℕ, Some, length, ap, ◌∙◌, arith}
use Rattle.timer_wheel.specs.Arms.{Wheel, with_due}
use Rattle.tables_bench.proofs.Lengths.{length-with_due}
use Rattle.tables_bench.proofs.takes.armed_wheel.Goals as goal

-- one more pair at most
one_more : (old new : Wheel) (a d i most : ℕ) → new ≡ record { arms = with_due a (Some d) old.arms; most = old.most } → (length old.arms ≤ i) → (length new.arms ≤ i + 1)
one_more old new a d i most armed before = omega (arith, ap (λ (w : Wheel). length w.arms) armed, length-with_due a d old.arms, before)

pub loop-a-preserved : goal.loop-a-preserved
loop-a-preserved c = record {
  most = ap (λ (wheel : Wheel). wheel.most) c.arm.ensures ∙ c.loop-a.invariant.most;
  room = one_more c.loop-a.wheel c.arm.new.self _ _ c.loop-a.a-index 13 c.arm.ensures c.loop-a.invariant.room;
}
