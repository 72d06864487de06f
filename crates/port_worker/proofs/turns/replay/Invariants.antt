use Rattle.std.proofs.Common.{◌+◌}
use Rattle.port_worker.proofs.ControlRunning.{control_weight}
use Rattle.port_worker.proofs.Going.{Going}
use Rattle.port_worker.proofs.Measures.{undone}
use Rattle.port_worker.proofs.turns.replay.Given as goal

abbrev pub invariant-turns : goal.invariant-turns
invariant-turns g l =
    Going g.S.Source.left g.K.Sink.written g.S.Source.faults g.K.Sink.faults l.fn.core.plan l.fn.control l.fn.ports l.fn.journal
    l.control l.ports l.journal l.told.entries l.told.ends.items l.core

abbrev pub decreases-turns : goal.decreases-turns
decreases-turns g l = undone l.ports + control_weight l.control
