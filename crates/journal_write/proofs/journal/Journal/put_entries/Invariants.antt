use Rattle.std.proofs.Common.{◌≡◌, ◌++◌, ℕ, List, take}
use Rattle.hist_store.specs.TextOfLines.{lines_text}
use Rattle.hist_store.specs.JournalTexts.{entry_lines}
use Rattle.journal_write.specs.Written.{HasText}
use Rattle.journal_write.proofs.journal.Journal.put_entries.Given as goal

abbrev pub invariant-loop-n : goal.invariant-loop-n
invariant-loop-n g l = record {
  room : l.self.buffer.room ≡ l.initial.self.buffer.room;
  text : (first : g.row.K.Denot) (text : List ℕ) → HasText g.K.Sink.written g.K.Sink.faults first l.initial.self text
      → HasText g.K.Sink.written g.K.Sink.faults first l.self (text ++ lines_text (entry_lines 0 (take l.n l.hist.rows)));
}
