use Rattle.std.proofs.Common.{◌≡◌, map, take}
use Rattle.savi_core.specs.Lanes.{empty_lane}
use Rattle.savi_core.proofs.queues.Queues.make.Given as goal

abbrev pub invariant-loop-port : goal.invariant-loop-port
invariant-loop-port l = l.queues.items ≡ map (empty_lane l.depth) (take l.port-index l.ports)
