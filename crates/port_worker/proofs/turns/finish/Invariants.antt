use Rattle.port_worker.proofs.Finishing.{FinishesSoFar}
use Rattle.port_worker.proofs.turns.finish.Given as goal

abbrev pub invariant-loop-place : goal.invariant-loop-place
invariant-loop-place g l = FinishesSoFar l.fn.core.plan l.place l.fn.core l.core
