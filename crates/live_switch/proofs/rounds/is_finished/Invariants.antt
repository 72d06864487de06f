use Rattle.savi_core.specs.Machines.{base_of}
use Rattle.live_switch.proofs.Finishing.{HaveOutputsEnded}
use Rattle.live_switch.proofs.rounds.is_finished.Given as goal

abbrev pub invariant-loop-port : goal.invariant-loop-port
invariant-loop-port l = HaveOutputsEnded l.core.plan (base_of l.core) l.core.past l.port-index
