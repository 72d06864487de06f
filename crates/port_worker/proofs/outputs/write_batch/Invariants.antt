use Rattle.std.proofs.Common.{◌≡◌, take, None}
use Rattle.savi_history.specs.PortOutputs.{TookPieces}
use Rattle.port_worker.specs.SentFrames.{records}
use Rattle.port_worker.proofs.outputs.write_batch.Given as goal

abbrev pub invariant-loop-i : goal.invariant-loop-i
invariant-loop-i g l = record {
  still : g.K.Sink.faults l.sink ≡ g.K.Sink.faults l.initial.sink;
  took : TookPieces (g.K.Sink.written l.initial.sink) (g.K.Sink.written l.sink) (records (take l.i l.batch)) None;
  none : l.i ≡ 0 → l.sink ≡ l.initial.sink;
}
