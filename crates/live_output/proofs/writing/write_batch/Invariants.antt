use Rattle.std.proofs.Common.{◌≡◌, take}
use Rattle.live_output.specs.OutputParts.{records_of}
use Rattle.live_output.specs.Writing.{Holds}
use Rattle.live_output.proofs.writing.write_batch.Given as goal

abbrev pub invariant-loop-i : goal.invariant-loop-i
invariant-loop-i g l = record {
  still : g.K.Sink.faults l.sink ≡ g.K.Sink.faults l.initial.sink;
  holds : Holds (g.K.Sink.written l.initial.sink) (g.K.Sink.written l.sink) l.gathered.octets.items (records_of l.format (take l.i l.batch));
}
