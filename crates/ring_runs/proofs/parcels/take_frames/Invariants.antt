use Rattle.std.proofs.Common.{◌≡◌}
use Rattle.parcel_ring.specs.Sides.{taker_rings}
use Rattle.ring_runs.proofs.parcels.take_frames.Given as goal

abbrev pub invariant-loop : goal.invariant-loop
invariant-loop g l = taker_rings l.taker ≡ taker_rings l.fn.taker
