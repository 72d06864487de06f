use Rattle.std.proofs.Common.{◌≡◌}
use Rattle.parcel_ring.specs.Sides.{filler_rings}
use Rattle.ring_runs.proofs.parcels.put_frames.Given as goal

abbrev pub invariant-loop-number : goal.invariant-loop-number
invariant-loop-number g l = filler_rings l.filler ≡ filler_rings l.fn.filler
