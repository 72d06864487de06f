use Rattle.std.proofs.Common.{◌≤◌, length, vec_capacity}
use Rattle.savi_ends.specs.Places.{BothFresh}
use Rattle.switch_ports.proofs.LiveOpens.{LiveOpens}
use Rattle.switch_ports.proofs.live.open_live.Given as goal

abbrev pub invariant-loop-plan : goal.invariant-loop-plan
invariant-loop-plan g l = record {
  room : length l.plans ≤ vec_capacity l.held;
  opens : LiveOpens (BothFresh g.W.S.Source.faults g.W.K.Sink.faults) l.plans l.plan-index l.held.items (g.W.World.book l.fn.world) (g.W.World.book l.world);
}
