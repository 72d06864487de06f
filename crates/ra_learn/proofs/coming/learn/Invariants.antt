use Rattle.std.proofs.Common.{map, reverse, take}
use Rattle.ra_learn.specs.Comings.{arrival_of}
use Rattle.ra_learn.specs.Printed.{advert_lines, sightings_of}
use Rattle.ra_learn.specs.Reports.{HasReported, Wrote}
use Rattle.ra_learn.proofs.coming.learn.Given as goal

abbrev pub invariant-loop-coming : goal.invariant-loop-coming
invariant-loop-coming g l = record {
  tells : HasReported l.plan l.window (reverse (map arrival_of (take l.coming-index l.arrivals))) l.report;
  wrote : Wrote (advert_lines l.plan l.window (sightings_of l.plan (reverse (map arrival_of (take l.coming-index l.arrivals))))) l.report.put (g.K.Sink.written l.fn.sink) (g.K.Sink.written l.sink) (g.K.Sink.faults l.fn.sink) (g.K.Sink.faults l.sink);
}
