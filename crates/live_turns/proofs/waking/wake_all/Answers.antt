use Rattle.live_turns.proofs.WokenPorts.{every_port}
use Rattle.live_turns.proofs.waking.wake_all.Goals as goal

pub returns-clause-all : goal.returns-clause-all
returns-clause-all c = λ port. c.wake_outputs.ensures.all port (every_port port)
