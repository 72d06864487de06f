use Rattle.std.proofs.Common.{◌≡◌}
use Rattle.intake_ring.specs.Sides.{filler_ring, put_of}
use Rattle.intake_ring.proofs.filler.Filler.put.Given as goal

abbrev pub invariant-loop : goal.invariant-loop
invariant-loop g l = record {
  ring : filler_ring l.self ≡ filler_ring l.fn.self;
  put : put_of l.self ≡ put_of l.fn.self;
  item : l.item ≡ l.fn.item;
}
