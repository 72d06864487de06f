use Rattle.std.proofs.Common.{map}
use Rattle.savi_kinds.specs.Ports.{number_of}
use Rattle.switch_ports.proofs.LiveKeeps.{LiveKeeps}
use Rattle.switch_ports.proofs.live.keep_live.Given as goal

abbrev pub invariant-loop-ends : goal.invariant-loop-ends
invariant-loop-ends g l = LiveKeeps (map number_of l.numbers) l.held.items l.fn.held.items (g.W.World.book l.fn.world) (g.W.World.book l.world)

abbrev pub decreases-loop-ends : goal.decreases-loop-ends
decreases-loop-ends g l = goal.left-loop-ends g l
