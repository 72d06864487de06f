use Rattle.std.proofs.Common.{length}
use Rattle.addr_index.proofs.Gaps.{ClosesGap}
use Rattle.addr_index.proofs.places.close_gap.Given as goal

abbrev pub invariant-loop-steps : goal.invariant-loop-steps
invariant-loop-steps l = ClosesGap (length l.initial.places) l.initial.places l.places l.emptied l.steps l.gap
