use Rattle.std.proofs.Common.{◌++◌, Bool, List, ℕ, [], sym, ◌∙◌, subst}
use Rattle.journal_write.specs.Written.{WasGiven}
use Rattle.audit_run.proofs.auditor.Auditor.finish.Goals as goal

pub returns-clause-text : goal.returns-clause-text
returns-clause-text g c = λ first text was.
    let K = g.row.K.Denot in
    let written = g.K.Sink.written in
    let faults = g.K.Sink.faults in
    let whole = text ++ c.args.line.now in
    subst (λ (k : K). WasGiven written faults first k [] c.into_parts.result.1 whole) (sym c.into_parts.ensures.sink)
    (subst (λ (f : Bool). WasGiven written faults first c.settle.new.self.sink [] f whole) (sym c.into_parts.ensures.failed)
    (subst (λ (w : List ℕ). WasGiven written faults first c.settle.new.self.sink w c.settle.new.self.failed whole) c.settle.ensures.waits
    (c.settle.ensures.text first whole (c.put.ensures.text first text was))))

pub returns-clause-none : goal.returns-clause-none
returns-clause-none g c = λ none waits.
    let put = c.put.ensures.none none waits in
    c.into_parts.ensures.sink ∙ c.settle.ensures.none put.1 ∙ put.0
