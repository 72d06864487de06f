use Rattle.live_switch.specs.Rounds.{ServesOn}
use Rattle.live_switch.proofs.rounds.go_round_inputs.Given as goal

abbrev pub invariant-loop-place : goal.invariant-loop-place
invariant-loop-place g l = ServesOn g.K.Sink.written g.K.Sink.faults g.C.Clock.readings l.initial.kept l.initial.service l.kept l.service
