use Rattle.learn_run.proofs.Measuring.{left_of}
use Rattle.learn_run.proofs.Running.{Running}
use Rattle.learn_run.proofs.learning.Learning.learn.Given as goal

abbrev pub invariant-turns : goal.invariant-turns
invariant-turns g l = Running g.S.Source.left g.S.Source.faults g.O.Sink.written g.O.Sink.faults l.fn.plan l.fn.ports l.ports l.fn.self l.self l.fn.out l.out

abbrev pub decreases-turns : goal.decreases-turns
decreases-turns g l = left_of l.ports
