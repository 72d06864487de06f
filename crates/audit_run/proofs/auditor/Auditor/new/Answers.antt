use Rattle.std.proofs.Common.{refl}
use Rattle.audit_run.proofs.Waiting.{given_nothing}
use Rattle.audit_run.proofs.auditor.Auditor.new.Goals as goal

pub returns : goal.returns
returns g c = record {
  sink_is = c.new.ensures.sink;
  none_waits = c.new.ensures.waits;
  printed = given_nothing g.K.Sink.written g.K.Sink.faults c.args.sink c.new.result.sink c.new.result.waits.items c.new.result.failed c.new.ensures.sink c.new.ensures.waits c.new.ensures.failed;
  frames = refl;
  violations = refl;
}
