use Rattle.std.proofs.Common.{inl, inr, refl}
use Rattle.switch_report.specs.RunLines.{usage_line}
use Rattle.switch_run.proofs.Recast.{told_by}
use Rattle.switch_run.proofs.top.perform.Goals as goal

pub returns-in-Replay-clause-ran : goal.returns-in-Replay-clause-ran
returns-in-Replay-clause-ran g c = inr (inr (inr (inl (c.in-Replay.file.now, c.in-Replay.ensures, c.replay_file.ensures.ran))))

pub returns-in-Serve-clause-ran : goal.returns-in-Serve-clause-ran
returns-in-Serve-clause-ran g c = inr (inr (inr (inr (inl (c.in-Serve.file.now, c.in-Serve.ensures, c.serve_file.ensures.ran)))))

pub returns-in-Check-clause-ran : goal.returns-in-Check-clause-ran
returns-in-Check-clause-ran g c = inr (inr (inr (inr (inr (inl (c.in-Check.file.now, c.in-Check.ensures, c.check_file.ensures.ran))))))

pub returns-in-Audit-clause-ran : goal.returns-in-Audit-clause-ran
returns-in-Audit-clause-ran g c = inl (c.in-Audit.file.now, c.in-Audit.ensures, c.audit_file.ensures.ran)

pub returns-in-Generate-clause-ran : goal.returns-in-Generate-clause-ran
returns-in-Generate-clause-ran g c = inr (inr (inr (inr (inr (inr (inl (c.in-Generate.seed, c.in-Generate.frames, c.in-Generate.ensures, c.generate.ensures.ran)))))))

pub returns-in-Split-clause-ran : goal.returns-in-Split-clause-ran
returns-in-Split-clause-ran g c = inr (inr (inr (inr (inr (inr (inr (c.in-Split.file.now, c.in-Split.ensures, c.split_capture.ensures.ran)))))))

pub returns-in-Learn-clause-ran : goal.returns-in-Learn-clause-ran
returns-in-Learn-clause-ran g c = inr (inl (c.in-Learn.file.now, c.in-Learn.window, c.in-Learn.ensures, c.learn_file.ensures.ran))

pub returns-in-NoForm-clause-ran : goal.returns-in-NoForm-clause-ran
returns-in-NoForm-clause-ran g c =
    inr (inr (inl (refl, c.in-NoForm.ensures, told_by g.W.K.Sink.faults g.W.K.Sink.written c.tell_usage-put.result _ _ usage_line c.tell_usage-put.ensures.extends c.tell_usage-put.ensures.cause, refl)))
