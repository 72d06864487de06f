use Rattle.std.proofs.Common.{◌≡◌}
use Rattle.intake_ring.specs.Sides.{taker_ring}
use Rattle.parcel_ring.proofs.filler.ParcelFiller.next_spare.Given as goal

abbrev pub invariant-loop : goal.invariant-loop
invariant-loop g l = record {
  full : l.self.full ≡ l.fn.self.full;
  spare : taker_ring l.self.spare ≡ taker_ring l.fn.self.spare;
}
