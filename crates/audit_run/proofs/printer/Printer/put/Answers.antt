use Rattle.std.proofs.Common.{◌++◌, Bool, List, ℕ, sym, ◌∙◌, ap, subst}
use Rattle.journal_write.specs.Written.{WasGiven}
use Rattle.audit_run.specs.declared.printer.Printer.{Printer}
use Rattle.audit_run.proofs.Waiting.{given_waiting}
use Rattle.audit_run.proofs.printer.Printer.put.Goals as goal

pub returns-clause-text : goal.returns-clause-text
returns-clause-text g c = λ first text was.
    let K = g.row.K.Denot in
    let written = g.K.Sink.written in
    let faults = g.K.Sink.faults in
    let roomy = c.make_room.new.self in
    let whole = text ++ c.args.line.now in
    subst (λ (k : K). WasGiven written faults first k c.add.new.self.waits.items c.add.new.self.failed whole) (sym (ap (λ (p : Printer K). p.sink) c.add.ensures.rest))
    (subst (λ (f : Bool). WasGiven written faults first roomy.sink c.add.new.self.waits.items f whole) (sym (ap (λ (p : Printer K). p.failed) c.add.ensures.rest))
    (subst (λ (w : List ℕ). WasGiven written faults first roomy.sink w roomy.failed whole) (sym c.add.ensures.items)
    (given_waiting written faults first roomy.sink roomy.waits.items text c.args.line.now roomy.failed (c.make_room.ensures.text first text was))))

pub returns-clause-none : goal.returns-clause-none
returns-clause-none g c = λ none waits.
    let K = g.row.K.Denot in
    let room = c.make_room.ensures.none waits in (
      ap (λ (p : Printer K). p.sink) c.add.ensures.rest ∙ room.0,
      c.add.ensures.items ∙ ap (λ (w : List ℕ). w ++ c.args.line.now) room.1 ∙ none,
    )
