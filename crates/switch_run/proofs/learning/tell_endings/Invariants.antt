use Rattle.std.proofs.Common.{◌≡◌, take}
use Rattle.savi_ends.specs.Octets.{behind}
use Rattle.switch_run.specs.Learnings.{ending_lines}
use Rattle.switch_run.proofs.learning.tell_endings.Given as goal

abbrev pub invariant-loop-ending : goal.invariant-loop-ending
invariant-loop-ending g l = g.K.Sink.written l.errors ≡ behind (g.K.Sink.written l.initial.errors) (ending_lines (take l.ending-index l.endings))
