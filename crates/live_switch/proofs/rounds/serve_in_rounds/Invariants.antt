use Rattle.live_switch.specs.Rounds.{ServesOn}
use Rattle.live_switch.proofs.rounds.serve_in_rounds.Given as goal

abbrev pub invariant-loop : goal.invariant-loop
invariant-loop g l = ServesOn g.K.Sink.written g.K.Sink.faults g.C.Clock.readings l.fn.kept l.fn.service l.kept l.service
