use Rattle.std.proofs.Common.{◌≡◌}
use Rattle.parcel_ring.specs.Sides.{filler_rings, was_put}
use Rattle.port_reader.specs.Progress.{GoesOn}
use Rattle.port_reader.proofs.reader.Reader.run.Given as goal

abbrev pub invariant-loop : goal.invariant-loop
invariant-loop g l = record {
  rings : filler_rings l.filler ≡ filler_rings l.fn.self.filler;
  goes : GoesOn g.S.Source.left g.S.Source.faults g.C.Clock.readings l.fn.self.format l.fn.self.source l.fn.self.clock l.input (was_put l.filler);
}
