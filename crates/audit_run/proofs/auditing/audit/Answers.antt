use Rattle.audit_run.proofs.Leading.{audits_of}
use Rattle.audit_run.proofs.auditing.audit.Goals as goal

pub returns-clause-audits : goal.returns-clause-audits
returns-clause-audits g c = λ first unbegun.
    audits_of g.K.Sink.written g.K.Sink.faults first c.octets_have_one_history.ensures c.check_with.result c.args.auditor.now c.check_with.new.watcher (g.S.Source.left c.args.source.now) unbegun c.check_with.ensures.watched
