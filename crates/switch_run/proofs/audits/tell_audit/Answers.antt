use Rattle.std.proofs.Common.{sym, subst}
use Rattle.journal_check.specs.declared.answer.Checked.{Checked}
use Rattle.switch_report.specs.RunLines.{memory_line, read_failed_line}
use Rattle.switch_run.specs.Audits.{audit_error}
use Rattle.switch_run.specs.Session.{ToldBy}
use Rattle.switch_run.proofs.Loading.{told_nothing}
use Rattle.switch_run.proofs.Recast.{told_by}
use Rattle.switch_run.proofs.audits.tell_audit.Goals as goal

pub returns-in-Good : goal.returns-in-Good
returns-in-Good g c =
    subst (λ (a : Checked). ToldBy g.K.Sink.faults g.K.Sink.written c.args.errors.now c.args.errors.now (audit_error c.args.file.now a)) (sym c.in-Good.is)
    (told_nothing g.K.Sink.faults g.K.Sink.written c.args.errors.now)

pub returns-in-Wrong : goal.returns-in-Wrong
returns-in-Wrong g c =
    subst (λ (a : Checked). ToldBy g.K.Sink.faults g.K.Sink.written c.args.errors.now c.args.errors.now (audit_error c.args.file.now a)) (sym c.in-Wrong.is)
    (told_nothing g.K.Sink.faults g.K.Sink.written c.args.errors.now)

pub returns-in-BadLine : goal.returns-in-BadLine
returns-in-BadLine g c =
    subst (λ (a : Checked). ToldBy g.K.Sink.faults g.K.Sink.written c.args.errors.now c.args.errors.now (audit_error c.args.file.now a)) (sym c.in-BadLine.is)
    (told_nothing g.K.Sink.faults g.K.Sink.written c.args.errors.now)

pub returns-in-Failed : goal.returns-in-Failed
returns-in-Failed g c =
    subst (λ (a : Checked). ToldBy g.K.Sink.faults g.K.Sink.written c.args.errors.now c.tell_unread-put.new.sink (audit_error c.args.file.now a)) (sym c.in-Failed.is)
    (told_by g.K.Sink.faults g.K.Sink.written c.tell_unread-put.result _ _ (read_failed_line c.args.file.now) c.tell_unread-put.ensures.extends c.tell_unread-put.ensures.cause)

pub returns-in-NoMemory : goal.returns-in-NoMemory
returns-in-NoMemory g c =
    subst (λ (a : Checked). ToldBy g.K.Sink.faults g.K.Sink.written c.args.errors.now c.tell_memory-put.new.sink (audit_error c.args.file.now a)) (sym c.in-NoMemory.is)
    (told_by g.K.Sink.faults g.K.Sink.written c.tell_memory-put.result _ _ memory_line c.tell_memory-put.ensures.extends c.tell_memory-put.ensures.cause)
