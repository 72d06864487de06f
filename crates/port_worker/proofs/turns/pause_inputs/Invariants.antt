use Rattle.port_worker.proofs.Pausing.{PausesSoFar}
use Rattle.port_worker.proofs.turns.pause_inputs.Given as goal

abbrev pub invariant-loop-place : goal.invariant-loop-place
invariant-loop-place g l = PausesSoFar l.place l.fn.core l.core
