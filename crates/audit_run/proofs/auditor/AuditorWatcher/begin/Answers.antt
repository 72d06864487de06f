use Rattle.audit_run.proofs.auditor.AuditorWatcher.begin.Goals as goal

pub make-requires : goal.make-requires
make-requires g c = c.requires.valid.per_port.1

pub returns-clause-ok : goal.returns-clause-ok
returns-clause-ok g c = λ first unbegun. record { seen = c.in_ok-make.ensures; printed = unbegun.printed; frames = unbegun.frames; violations = unbegun.violations }
