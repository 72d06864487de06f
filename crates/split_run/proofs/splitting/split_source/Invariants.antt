use Rattle.std.proofs.Common.{◌-◌, ◌≤◌, length, vec_capacity}
use Rattle.split_run.specs.Names.{name_in}
use Rattle.split_run.proofs.Loops.{SplitSoFar}
use Rattle.split_run.proofs.splitting.split_source.Given as goal

abbrev pub invariant-loop-interface : goal.invariant-loop-interface
invariant-loop-interface g l = record {
  room : 16 ≤ vec_capacity l.held;
  so_far : SplitSoFar g.W.S.Source.left g.W.K.Sink.written g.W.S.Source.faults g.W.K.Sink.faults (name_in l.names) l.fn.source l.source (g.W.World.book l.fn.world) (g.W.World.book l.world) l.splitter.reading l.splitter.counts l.held.items;
}

abbrev pub decreases-loop-interface : goal.decreases-loop-interface
decreases-loop-interface g l = 16 - length l.held.items
