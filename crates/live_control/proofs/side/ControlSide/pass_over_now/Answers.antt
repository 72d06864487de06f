use Rattle.std.proofs.Common.{not, refl, ◌∙◌}
use Rattle.live_control.proofs.Passing.{one_passed}
use Rattle.live_control.proofs.side.ControlSide.pass_over_now.Goals as goal

pub loop-preserved : goal.loop-preserved
loop-preserved g c = record {
  ring = c.try_take.ensures.ring ∙ c.loop.invariant.ring;
  stands = λ plan segments first stands.
      one_passed g.K.Sink.written g.K.Sink.faults plan segments first c.loop.self (record c.loop.self { taker = c.try_take.new.self; passes_over = not c.is_last.result }) c.in-Some.came c.if-not-self.false
      c.in-Some.ensures.taken refl refl (c.loop.invariant.stands plan segments first stands);
}
