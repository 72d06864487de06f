use Rattle.std.proofs.Common.{◌++◌, List, ℕ, Option, sym, ◌∙◌, subst, append-nil}
use Rattle.savi_kinds.specs.Ports.{number_of}
use Rattle.v4_snoop.specs.declared.reason.Reason.{Reason}
use Rattle.audit_run.specs.Violations.{violation_if}
use Rattle.audit_run.specs.Printed.{HasPrinted}
use Rattle.audit_run.proofs.auditor.Auditor.report.Goals as goal

pub returns-in-Some-clause-printed : goal.returns-in-Some-clause-printed
returns-in-Some-clause-printed g c = λ first text was.
    subst (λ (o : Option Reason). HasPrinted g.K.Sink.written g.K.Sink.faults first c.put.new.self (text ++ violation_if c.args.segment c.args.n (number_of c.args.port) o)) (sym c.in-Some.is)
    (subst (λ (line : List ℕ). HasPrinted g.K.Sink.written g.K.Sink.faults first c.put.new.self (text ++ line)) (c.as_slice.ensures.value ∙ c.put_violation-line.ensures) (c.put.ensures.text first text was))

pub returns-in-None-clause-printed : goal.returns-in-None-clause-printed
returns-in-None-clause-printed g c = λ first text was.
    subst (λ (o : Option Reason). HasPrinted g.K.Sink.written g.K.Sink.faults first c.args.self.now.printer (text ++ violation_if c.args.segment c.args.n (number_of c.args.port) o)) (sym c.in-None.is)
    (subst (λ (t : List ℕ). HasPrinted g.K.Sink.written g.K.Sink.faults first c.args.self.now.printer t) (sym (append-nil text)) was)
