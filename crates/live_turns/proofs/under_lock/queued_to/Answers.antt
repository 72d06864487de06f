use Rattle.live_turns.proofs.WokenPorts.{every_port}
use Rattle.live_turns.proofs.under_lock.queued_to.Goals as goal

pub returns-then-entry-gt0 : goal.returns-then-entry-gt0
returns-then-entry-gt0 c = λ port may. every_port port
