use Rattle.live_switch.proofs.Running.{HaveRun}
use Rattle.live_switch.proofs.segments.run_segments.Given as goal

abbrev pub invariant-loop : goal.invariant-loop
invariant-loop g l = HaveRun g.K.Sink.written g.K.Sink.faults g.C.Clock.readings l.fn.start l.kept l.service l.journal l.told
