use Rattle.std.proofs.Common.{not, refl, ◌∙◌}
use Rattle.live_control.proofs.Passing.{one_passed}
use Rattle.live_control.proofs.side.ControlSide.pass_over.Goals as goal

pub loop-preserved-in-Some-take : goal.loop-preserved-in-Some-take
loop-preserved-in-Some-take g c = record {
  ring = c.take.ensures.ring ∙ c.loop.invariant.ring;
  stands = λ plan segments first stands.
      one_passed g.K.Sink.written g.K.Sink.faults plan segments first c.loop.self (record c.loop.self { taker = c.take.new.self; passes_over = not c.is_last.result }) c.in-Some-take.came c.if-not-self.false
      c.in-Some-take.ensures.taken refl refl (c.loop.invariant.stands plan segments first stands);
}
