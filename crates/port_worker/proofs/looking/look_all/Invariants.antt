use Rattle.port_worker.specs.Inputs.{IsReadAhead, IsLooked}
use Rattle.port_worker.proofs.SoFar.{PairsSoFar}
use Rattle.port_worker.proofs.looking.look_all.Given as goal

abbrev pub invariant-loop-place : goal.invariant-loop-place
invariant-loop-place g l = PairsSoFar (λ old new. IsLooked g.S.Source.left g.S.Source.faults old new × IsReadAhead new.ahead) l.place l.initial.ports l.ports
