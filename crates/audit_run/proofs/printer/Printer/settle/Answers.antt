use Rattle.std.proofs.Common.{List, ℕ, sym, subst}
use Rattle.journal_write.specs.Written.{WasGiven}
use Rattle.audit_run.proofs.printer.Printer.settle.Goals as goal

pub returns-clause-text : goal.returns-clause-text
returns-clause-text g c = λ first text was.
    subst (λ (w : List ℕ). WasGiven g.K.Sink.written g.K.Sink.faults first c.write_waiting.new.self.sink w c.write_waiting.new.self.failed text) (sym c.clear.ensures) (c.write_waiting.ensures.text first text was)
