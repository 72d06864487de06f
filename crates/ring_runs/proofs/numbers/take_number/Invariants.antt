use Rattle.std.proofs.Common.{◌≡◌}
use Rattle.intake_ring.specs.Sides.{taker_ring}
use Rattle.ring_runs.proofs.numbers.take_number.Given as goal

abbrev pub invariant-loop : goal.invariant-loop
invariant-loop g l = taker_ring l.taker ≡ taker_ring l.fn.taker
