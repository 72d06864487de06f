use Rattle.std.proofs.Common.{◌≤◌, length, vec_capacity}
use Rattle.savi_ends.specs.Places.{BothFresh}
use Rattle.switch_ports.proofs.Opens.{OpensSoFar}
use Rattle.switch_ports.proofs.opening.open_all.Given as goal

abbrev pub invariant-loop-plan : goal.invariant-loop-plan
invariant-loop-plan g l = record {
  room : length l.plans ≤ vec_capacity l.held;
  opens : OpensSoFar (BothFresh g.W.S.Source.faults g.W.K.Sink.faults) l.plans l.plan-index l.held.items (g.W.World.book l.fn.world) (g.W.World.book l.world);
}
