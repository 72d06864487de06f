use Rattle.std.proofs.Common.{List}
use Rattle.port_worker.specs.declared.port_ends.PortEnds.{PortEnds}
use Rattle.switch_ports.proofs.Keeps.{KeepsSoFar}
use Rattle.switch_ports.proofs.keeping.keep_all.Given as goal

abbrev pub invariant-loop-one : goal.invariant-loop-one
invariant-loop-one g l = (gone : List (PortEnds g.row.W-S.Denot g.row.W-K.Denot g.row.W-C.Denot)) × KeepsSoFar gone l.held.items l.fn.held.items (g.W.World.book l.fn.world) (g.W.World.book l.world)

abbrev pub decreases-loop-one : goal.decreases-loop-one
decreases-loop-one g l = goal.left-loop-one g l
