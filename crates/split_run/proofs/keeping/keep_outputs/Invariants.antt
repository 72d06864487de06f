use Rattle.std.proofs.Common.{List}
use Rattle.pcap_split.specs.declared.output.Output.{Output}
use Rattle.split_run.specs.Names.{name_in}
use Rattle.split_run.proofs.Keeps.{KeepsSoFar}
use Rattle.split_run.proofs.keeping.keep_outputs.Given as goal

abbrev pub invariant-loop-interface : goal.invariant-loop-interface
invariant-loop-interface g l = (gone : List (Output g.row.W-K.Denot)) × KeepsSoFar (name_in l.names) gone l.held.items l.fn.held.items (g.W.World.book l.fn.world) (g.W.World.book l.world)

abbrev pub decreases-loop-interface : goal.decreases-loop-interface
decreases-loop-interface g l = goal.left-loop-interface g l
