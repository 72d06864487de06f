use Rattle.std.proofs.Common.{◌≡◌}
use Rattle.intake_ring.specs.Sides.{filler_ring, taker_ring}
use Rattle.parcel_ring.proofs.ring.ParcelRing.make.Given as goal

abbrev pub invariant-loop : goal.invariant-loop
invariant-loop g l = filler_ring l.giver ≡ taker_ring l.spare
