use Rattle.std.proofs.Common.{sym, subst, [], Option, Some}
use Rattle.journal_write.specs.declared.journal.Journal.{Journal}
use Rattle.port_worker.specs.Journalled.{IsBlankIfAny, IsJournalled}
use Rattle.port_worker.proofs.Journalling.{blank_text}
use Rattle.port_worker.proofs.turns.begin_journal.Goals as goal

pub begin-requires-clause-room : goal.begin-requires-clause-room
begin-requires-clause-room g c = (subst (λ (o : Option (Journal g.row.K.Denot)). IsBlankIfAny o) c.in-Some.is c.requires.blank).room

pub returns-in-Some : goal.returns-in-Some
returns-in-Some g c =
    let J = Journal g.row.K.Denot in
    let old = c.in-Some.journal in
    let blank = subst (λ (o : Option J). IsBlankIfAny o) c.in-Some.is c.requires.blank in
    subst (λ (o : Option J). IsJournalled g.K.Sink.written g.K.Sink.faults c.args.plan.now [] o (Some c.begin.new.self)) (sym c.in-Some.is)
    (record { text = c.begin.ensures.begun old.sink (blank_text g.K.Sink.written g.K.Sink.faults old blank); room = c.begin.ensures.room })
