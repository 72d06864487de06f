use Rattle.lock_bench.proofs.pass_turns.take_turns.Goals as goal

pub loop-preserved : goal.loop-preserved
loop-preserved g c = c.take_turn-pass.ensures c.loop.counter c.loop.invariant
