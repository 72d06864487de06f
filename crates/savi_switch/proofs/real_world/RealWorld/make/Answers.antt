use Rattle.std.proofs.Common.{refl}
use Rattle.savi_switch.proofs.Ready.{ready_unopened, in_unopened, std_ready}
use Rattle.savi_switch.proofs.real_world.RealWorld.make.Goals as goal

pub returns-clause-fresh : goal.returns-clause-fresh
returns-clause-fresh g c = record {
  faults = refl;
  inputs = λ name. ready_unopened _ _ (c.new-2.ensures.unopened name);
  outputs = λ name. ready_unopened _ _ (c.in_ok-make.ensures name);
  ports = λ key. ready_unopened _ _ (c.in_ok-make-2.ensures key.number);
  control = λ key. ready_unopened _ _ c.new-3.ensures;
  ticker = in_unopened _ c.new-4.ensures;
  std = std_ready _ _ c.new-5.ensures c.new-6.ensures;
}
