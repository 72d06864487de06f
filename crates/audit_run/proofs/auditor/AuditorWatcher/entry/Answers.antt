use Rattle.std.proofs.Common.{◌≡◌, Option, Some, IfSome, subst}
use Rattle.hist_store.specs.Rows.{Row}
use Rattle.journal_check.specs.Watched.{WatchedEntry}
use Rattle.v4_snoop.specs.Reasons.{PassedFrame, passed_at}
use Rattle.audit_run.specs.PassedFrames.{frame_passed, passed_frames}
use Rattle.audit_run.specs.Auditing.{ComesBehind}
use Rattle.audit_run.proofs.Passing.{whole_frame}
use Rattle.audit_run.proofs.Watching.{frame_audited, still_audited}
use Rattle.audit_run.proofs.auditor.AuditorWatcher.entry.Goals as goal

pub see-requires-clause-least : goal.see-requires-clause-least
see-requires-clause-least g c =
    (whole_frame c.args._plan.now c.requires.closed c.requires.past (record { entry = c.args.e.now; octets = c.args.octets.now }) (passed_at c.in-Some.port c.args.e.now.moment c.args.octets.now) c.requires.legal (c.in-Some.ensures c.args.octets.now)).least

pub see-requires-clause-most : goal.see-requires-clause-most
see-requires-clause-most g c =
    (whole_frame c.args._plan.now c.requires.closed c.requires.past (record { entry = c.args.e.now; octets = c.args.octets.now }) (passed_at c.in-Some.port c.args.e.now.moment c.args.octets.now) c.requires.legal (c.in-Some.ensures c.args.octets.now)).most

pub see-requires-clause-moment : goal.see-requires-clause-moment
see-requires-clause-moment g c =
    (whole_frame c.args._plan.now c.requires.closed c.requires.past (record { entry = c.args.e.now; octets = c.args.octets.now }) (passed_at c.in-Some.port c.args.e.now.moment c.args.octets.now) c.requires.legal (c.in-Some.ensures c.args.octets.now)).early

pub returns-in-Some : goal.returns-in-Some
returns-in-Some g c = λ first past behind was.
    let row : Row = record { entry = c.args.e.now; octets = c.args.octets.now } in
    let entry : WatchedEntry = record { segment = c.args.segment; number = c.args.n; row = row } in
    let frame : PassedFrame = passed_at c.in-Some.port c.args.e.now.moment c.args.octets.now in
    let some : frame_passed row ≡ Some frame = c.in-Some.ensures c.args.octets.now in
    let comes : ComesBehind c.args._plan.now (passed_frames past) frame = subst (λ (o : Option PassedFrame). IfSome o (ComesBehind c.args._plan.now (passed_frames past))) some behind in
    frame_audited g.K.Sink.written g.K.Sink.faults first c.args._plan.now entry past frame c.args.self.now c.see.new.self some was (c.see.ensures c.args._plan.now (passed_frames past) comes was.seen)

pub returns-in-None : goal.returns-in-None
returns-in-None g c = λ first past behind was.
    let entry : WatchedEntry = record { segment = c.args.segment; number = c.args.n; row = record { entry = c.args.e.now; octets = c.args.octets.now } } in
    still_audited g.K.Sink.written g.K.Sink.faults first c.args._plan.now entry past c.args.self.now (c.in-None.ensures c.args.octets.now) was
