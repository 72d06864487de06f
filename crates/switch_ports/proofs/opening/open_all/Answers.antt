use Rattle.std.proofs.Common.{◌∙◌, ℕ, arith, subst}
use Rattle.savi_ends.specs.Faults.{Rose}
use Rattle.switch_ports.proofs.Opens.{next_ready, open_step, fails_next}
use Rattle.switch_ports.proofs.opening.open_all.Goals as goal

pub port-requires-clause-ready : goal.port-requires-clause-ready
port-requires-clause-ready g c =
    next_ready _ c.args.plans.now c.loop-plan.plan-index c.plan-item.result c.loop-plan.held.items _ _ c.requires.rising c.loop-plan-test.true c.plan-item.is c.loop-plan.invariant.opens c.requires.ready

pub returns-in-Err-clause-failed : goal.returns-in-Err-clause-failed
returns-in-Err-clause-failed g c =
    fails_next c.args.plans.now c.loop-plan.plan-index c.plan-item.result c.loop-plan.held.items c.loop-plan-test.true c.plan-item.is c.loop-plan.invariant.opens.ports

pub returns-in-Err-clause-once : goal.returns-in-Err-clause-once
returns-in-Err-clause-once g c = subst (λ (n : ℕ). Rose n (g.W.World.book c.port.new.self).faults) c.loop-plan.invariant.opens.still c.in-Err.ensures.opens.once

pub loop-plan-preserved : goal.loop-plan-preserved
loop-plan-preserved g c = record {
  room = omega (arith, c.loop-plan.invariant.room, c.add.ensures.capacity);
  opens = open_step _ c.args.plans.now c.loop-plan.plan-index c.plan-item.result c.loop-plan.held.items _ c.new-in-Ok.result _ _ (g.W.World.book c.port.new.self)
      c.requires.rising c.loop-plan-test.true c.plan-item.is c.loop-plan.invariant.opens
      c.add.ensures.items c.new-in-Ok.ensures.port c.new-in-Ok.ensures.unread (c.new-in-Ok.ensures.reader ∙ c.new.ensures)
      c.in-Ok.ensures.opens.still c.in-Ok.ensures.opens.out (rw c.new-in-Ok.ensures.ends c.in-Ok.ensures.opens.told) (rw c.new-in-Ok.ensures.ends c.in-Ok.ensures.opens.fresh)
      c.port.ensures.others c.port.ensures.rest;
}
