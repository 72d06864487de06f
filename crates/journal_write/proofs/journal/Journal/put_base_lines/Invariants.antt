use Rattle.std.proofs.Common.{◌≡◌, ◌-◌, ◌≤◌, ◌++◌, ℕ, List, length, take}
use Rattle.hist_store.specs.TextOfLines.{lines_text}
use Rattle.checkpoint.specs.BaseLines.{base_lines}
use Rattle.savi_core.specs.Machines.{base_of}
use Rattle.journal_write.specs.Written.{HasText}
use Rattle.journal_write.proofs.journal.Journal.put_base_lines.Given as goal

abbrev pub invariant-loop-self : goal.invariant-loop-self
invariant-loop-self g l = record {
  room : l.self.buffer.room ≡ l.initial.self.buffer.room;
  within : l.i ≤ length (base_lines l.core.plan (base_of l.core));
  text : (first : g.row.K.Denot) (text : List ℕ) → HasText g.K.Sink.written g.K.Sink.faults first l.initial.self text
      → HasText g.K.Sink.written g.K.Sink.faults first l.self (text ++ lines_text (take l.i (base_lines l.core.plan (base_of l.core))));
}

abbrev pub decreases-loop-self : goal.decreases-loop-self
decreases-loop-self g l = length (base_lines l.core.plan (base_of l.core)) - l.i
