use Rattle.std.proofs.Common.{◌≡◌}
use Rattle.intake_ring.specs.Sides.{taker_ring}
use Rattle.ring_runs.proofs.numbers.take_numbers.Given as goal

abbrev pub invariant-loop-expected : goal.invariant-loop-expected
invariant-loop-expected g l = taker_ring l.taker ≡ taker_ring l.fn.taker
