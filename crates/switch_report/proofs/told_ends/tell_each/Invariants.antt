use Rattle.std.proofs.Common.{◌≡◌, take}
use Rattle.savi_ends.specs.Octets.{behind}
use Rattle.savi_history.specs.EndLines.{told_lines}
use Rattle.switch_report.proofs.told_ends.tell_each.Given as goal

abbrev pub invariant-loop-told : goal.invariant-loop-told
invariant-loop-told g l = record {
  still : g.K.Sink.faults l.sink ≡ g.K.Sink.faults l.initial.sink;
  wrote : g.K.Sink.written l.sink ≡ behind (g.K.Sink.written l.initial.sink) (told_lines (take l.told-index l.ends));
}
