use Rattle.std.proofs.Common.{◌≡◌, ◌≤◌, ◌+◌, ℕ, List, Some, get_or, ap, sym, ◌∙◌, inr, arith, length}
use Rattle.std.proofs.lemmas.List.Sums.{fold_more}
use Rattle.savi_kinds.specs.declared.address.Addr.{Addr}
use Rattle.timer_wheel.specs.declared.armed.Armed.{Armed}
use Rattle.timer_wheel.specs.Arms.{Wheel, with_due}
use Rattle.tables_bench.proofs.Lengths.{length-with_due}
use Rattle.tables_bench.proofs.wheel_turns.arm_all.Goals as goal

pub arm-requires : goal.arm-requires
arm-requires c = inr (omega (arith, c.loop-a.invariant.room, c.loop-a.invariant.most, c.requires.room, c.loop-a-test.true))

pub loop-a-preserved : goal.loop-a-preserved
loop-a-preserved c =
    let step : ℕ × List Armed → Addr → ℕ × List Armed = λ left a. (left.0 + 1, with_due a.0 (Some left.0) left.1) in
    let arms : c.arm.new.self.arms ≡ with_due (get_or c.args.asked.now c.loop-a.a-index (record { 0 = 0 })).0 (Some c.loop-a.moment) c.loop-a.wheel.arms = ap (λ (wheel : Wheel). wheel.arms) c.arm.ensures in
    let longer : length (with_due (get_or c.args.asked.now c.loop-a.a-index (record { 0 = 0 })).0 (Some c.loop-a.moment) c.loop-a.wheel.arms) ≤ length c.loop-a.wheel.arms + 1 = length-with_due (get_or c.args.asked.now c.loop-a.a-index (record { 0 = 0 })).0 c.loop-a.moment c.loop-a.wheel.arms in
    record {
      moment = omega (arith, c.loop-a.invariant.moment);
      arms = ap (λ (xs : List Armed). (c.loop-a.moment + 1, xs)) arms ∙ ap (λ (before : ℕ × List Armed). step before (get_or c.args.asked.now c.loop-a.a-index (record { 0 = 0 }))) c.loop-a.invariant.arms
          ∙ sym (fold_more step (c.args.first, c.args.wheel.now.arms) c.args.asked.now c.loop-a.a-index (record { 0 = 0 }) c.loop-a-test.true);
      most = ap (λ (wheel : Wheel). wheel.most) c.arm.ensures ∙ c.loop-a.invariant.most;
      room = rw arms (omega (arith, longer, c.loop-a.invariant.room));
    }
