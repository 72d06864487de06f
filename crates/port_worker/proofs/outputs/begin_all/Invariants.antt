use Rattle.port_worker.proofs.Beginning.{BeginsSoFar}
use Rattle.port_worker.proofs.outputs.begin_all.Given as goal

abbrev pub invariant-loop-place : goal.invariant-loop-place
invariant-loop-place g l = BeginsSoFar g.K.Sink.written g.K.Sink.faults l.place l.initial.core l.core l.initial.ports l.ports
