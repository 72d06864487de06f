use Rattle.std.proofs.Common.{◌≡◌}
use Rattle.intake_ring.specs.Sides.{filler_ring}
use Rattle.ring_runs.proofs.numbers.put_numbers.Given as goal

abbrev pub invariant-loop-number : goal.invariant-loop-number
invariant-loop-number g l = filler_ring l.filler ≡ filler_ring l.fn.filler
