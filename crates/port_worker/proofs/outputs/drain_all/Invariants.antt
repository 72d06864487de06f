use Rattle.port_worker.proofs.Draining.{DrainsSoFar}
use Rattle.port_worker.proofs.outputs.drain_all.Given as goal

abbrev pub invariant-loop-place : goal.invariant-loop-place
invariant-loop-place g l = DrainsSoFar g.K.Sink.written g.K.Sink.faults l.place l.initial.core l.core l.initial.ports l.ports
