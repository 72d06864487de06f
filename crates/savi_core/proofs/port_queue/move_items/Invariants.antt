use Rattle.std.proofs.Common.{◌-◌, length}
use Rattle.savi_kinds.specs.Ports.{number_of}
use Rattle.savi_core.proofs.Moving.{HasMoved}
use Rattle.savi_core.proofs.port_queue.move_items.Given as goal

abbrev pub invariant-loop-port : goal.invariant-loop-port
invariant-loop-port l = HasMoved l.ports (number_of l.port) l.hist.rows l.count l.initial.queue l.queue l.into

abbrev pub decreases-loop-port : goal.decreases-loop-port
decreases-loop-port l = l.count - length l.into
