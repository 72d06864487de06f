use Rattle.std.proofs.Common.{◌≡◌}
use Rattle.intake_ring.specs.Sides.{filler_ring}
use Rattle.control_reader.specs.Heard.{lines_put}
use Rattle.control_reader.specs.Progress.{GoesOn}
use Rattle.control_reader.proofs.reader.LineReader.run.Given as goal

abbrev pub invariant-loop : goal.invariant-loop
invariant-loop g l = record {
  ring : filler_ring l.filler ≡ filler_ring l.fn.self.filler;
  goes : GoesOn g.S.Source.left g.S.Source.faults g.C.Clock.readings l.fn.self.source l.fn.self.clock l.input (lines_put l.filler);
}
