use Rattle.std.proofs.Common.{◌≡◌, ◌+◌, ◌++◌, ◌∷◌, Bool, ℕ, Option, is_some, sym, ◌∙◌, ap, subst}
use Rattle.savi_kinds.specs.Ports.{number_of}
use Rattle.savi_history.specs.Summary.{capped}
use Rattle.v4_snoop.specs.declared.reason.Reason.{Reason}
use Rattle.v4_snoop.specs.Reasons.{PassedFrame, passed_at}
use Rattle.v4_snoop.specs.Snooped.{Snooped}
use Rattle.audit_run.specs.declared.auditor.Auditor.{Auditor}
use Rattle.audit_run.specs.declared.printer.Printer.{Printer}
use Rattle.audit_run.specs.PassedFrames.{one_if}
use Rattle.audit_run.specs.Violations.{reason_behind, violation_if}
use Rattle.audit_run.specs.Auditing.{HasSeen}
use Rattle.audit_run.specs.Printed.{HasPrinted}
use Rattle.audit_run.proofs.auditor.Auditor.see.Goals as goal

pub returns : goal.returns
returns g c = λ plan past comes seen.
    let K = g.row.K.Denot in
    let written = g.K.Sink.written in
    let faults = g.K.Sink.faults in
    let old = c.args.self.now in
    let frame : PassedFrame = passed_at c.args.port c.args.moment c.args.frame.now in
    let reason : c.judge-reason.result ≡ reason_behind plan past frame = c.judge-reason.ensures.reason plan past comes seen in
    let snoop : c.report.new.self.snoop ≡ c.judge-reason.new.self.snoop = ap (λ (a : Auditor K). a.snoop) c.report.ensures.rest ∙ ap (λ (a : Auditor K). a.snoop) c.count.ensures in
    let printer : c.count.new.self.printer ≡ old.printer = ap (λ (a : Auditor K). a.printer) c.count.ensures ∙ ap (λ (a : Auditor K). a.printer) c.judge-reason.ensures.rest in
    let frames : c.judge-reason.new.self.frames ≡ old.frames = ap (λ (a : Auditor K). a.frames) c.judge-reason.ensures.rest in
    let violations : c.judge-reason.new.self.violations ≡ old.violations = ap (λ (a : Auditor K). a.violations) c.judge-reason.ensures.rest in
    record {
      seen = subst (λ (s : Option Snooped). HasSeen plan (frame ∷ past) s) (sym snoop) (c.judge-reason.ensures.seen plan past comes seen);
      printed = λ first text was.
          subst (λ (o : Option Reason). HasPrinted written faults first c.report.new.self.printer (text ++ violation_if c.args.segment c.args.n (number_of c.args.port) o)) reason
          (c.report.ensures.printed first text (subst (λ (p : Printer K). HasPrinted written faults first p text) (sym printer) was));
      frames = ap (λ (a : Auditor K). a.frames) c.report.ensures.rest
          ∙ ap (λ (a : Auditor K). a.frames) c.count.ensures
          ∙ ap (λ (n : ℕ). capped (n + one_if c.carries_ipv4_or_arp.result)) frames
          ∙ ap (λ (b : Bool). capped (old.frames + one_if b)) c.carries_ipv4_or_arp.ensures;
      violations = ap (λ (a : Auditor K). a.violations) c.report.ensures.rest
          ∙ ap (λ (a : Auditor K). a.violations) c.count.ensures
          ∙ ap (λ (n : ℕ). capped (n + one_if c.is_some.result)) violations
          ∙ ap (λ (b : Bool). capped (old.violations + one_if b)) (c.is_some.ensures ∙ ap (λ (o : Option Reason). is_some o) reason);
    }
