use Rattle.std.proofs.Common.{◌+◌, length}
use Rattle.savi_core.specs.Machines.{base_of}
use Rattle.live_switch.proofs.Opening.{AreOpenBelow}
use Rattle.live_switch.proofs.open.open_passes.Given as goal

abbrev pub invariant-loop-port : goal.invariant-loop-port
invariant-loop-port l = AreOpenBelow l.fn.core.plan (base_of l.fn.core) l.fn.core.past l.port-index l.going.items

abbrev pub invariant-loop-port-2 : goal.invariant-loop-port-2
invariant-loop-port-2 l = AreOpenBelow l.fn.core.plan (base_of l.fn.core) l.fn.core.past (length l.fn.core.plan.ports + 2 + l.port-index) l.going.items
