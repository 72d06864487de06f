use Rattle.std.proofs.Common.{ℕ, arith, subst}
use Rattle.savi_ends.specs.Faults.{Rose}
use Rattle.switch_ports.proofs.LiveOpens.{live_ready, live_open_step, live_fails_next, live_opened_still}
use Rattle.switch_ports.proofs.live.open_live.Goals as goal

pub port-requires-clause-ready : goal.port-requires-clause-ready
port-requires-clause-ready g c =
    live_ready _ c.args.plans.now c.loop-plan.plan-index c.plan-item.result c.loop-plan.held.items _ _ c.requires.rising c.loop-plan-test.true c.plan-item.is c.loop-plan.invariant.opens c.requires.ready

pub returns-in-Err-clause-failed : goal.returns-in-Err-clause-failed
returns-in-Err-clause-failed g c =
    live_fails_next c.args.plans.now c.loop-plan.plan-index _ c.plan-item.result c.loop-plan-test.true c.plan-item.is c.loop-plan.invariant.opens.size

pub returns-in-Err-clause-opened : goal.returns-in-Err-clause-opened
returns-in-Err-clause-opened g c =
    live_opened_still _ c.args.plans.now c.loop-plan.plan-index c.plan-item.result c.loop-plan.held.items _ _ (g.W.World.book c.port.new.self)
    c.requires.rising c.loop-plan-test.true c.plan-item.is c.loop-plan.invariant.opens c.port.ensures.others

pub returns-in-Err-clause-once : goal.returns-in-Err-clause-once
returns-in-Err-clause-once g c = subst (λ (n : ℕ). Rose n (g.W.World.book c.port.new.self).faults) c.loop-plan.invariant.opens.still c.in-Err.ensures.opens.once

pub loop-plan-preserved : goal.loop-plan-preserved
loop-plan-preserved g c = record {
  room = omega (arith, c.loop-plan.invariant.room, c.add.ensures.capacity);
  opens = live_open_step _ c.args.plans.now c.loop-plan.plan-index c.plan-item.result c.loop-plan.held.items _ c.in-Ok.ends _ _ (g.W.World.book c.port.new.self)
      c.requires.rising c.loop-plan-test.true c.plan-item.is c.loop-plan.invariant.opens c.add.ensures.items
      c.in-Ok.ensures.opens.still c.in-Ok.ensures.opens.out c.in-Ok.ensures.opens.told c.in-Ok.ensures.opens.fresh
      c.port.ensures.others c.port.ensures.rest;
}
