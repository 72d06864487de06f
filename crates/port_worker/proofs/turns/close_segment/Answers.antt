use Rattle.std.proofs.Common.{◌≤◌, ◌+◌, List, ◌∷◌, length, ap, ◌∙◌, sym, subst, Option}
use Rattle.std.proofs.lemmas.List.{length-reverse}
use Rattle.hist_store.specs.Rows.{Row}
use Rattle.journal_write.specs.declared.journal.Journal.{Journal}
use Rattle.savi_core.specs.Machines.{base_of}
use Rattle.savi_history.specs.Endings.{ends_told}
use Rattle.savi_segments.specs.Segments.{AreOctets}
use Rattle.port_worker.specs.Journalled.{HasRoomIfAny, IsJournalled}
use Rattle.journal_write.proofs.FewEnds.{few_more}
use Rattle.port_worker.proofs.Journalling.{journal_more, journal_none, none_if}
use Rattle.journal_write.proofs.Telling.{tells_more}
use Rattle.port_worker.proofs.turns.close_segment.Goals as goal

pub add-requires : goal.add-requires
add-requires g c =
    let core = c.args.core.now in
    let told = length c.args.told.now.ends.items in
    subst (λ (past : List Row). told + length (ends_told past) ≤ 34) (sym c.history.ensures.rows)
    (few_more core.plan (base_of core) core.past told c.history.ensures.valid c.history.ensures.legal c.requires.few)

pub close-requires : goal.close-requires
close-requires g c = record { room = subst (λ (o : Option (Journal g.row.K.Denot)). HasRoomIfAny o) c.in-Some.is c.requires.lines }

pub returns-in-Some-clause-octets : goal.returns-in-Some-clause-octets
returns-in-Some-clause-octets g c = subst AreOctets c.history.ensures.rows c.add.ensures.octets

pub returns-in-Some-clause-told : goal.returns-in-Some-clause-told
returns-in-Some-clause-told g c = λ before was.
    let told = c.args.told.now in
    let now = c.add.new.self in
    let rows : List Row = c.history.result.now.rows in
    let past = c.args.core.now.past in
    tells_more told.entries now.entries told.ends.items now.ends.items before rows past c.history.ensures.rows (sym (length-reverse rows) ∙ ap (λ (l : List Row). length l) c.history.ensures.rows)
    c.add.ensures.entries c.add.ensures.ends was

pub returns-in-Some-clause-journal : goal.returns-in-Some-clause-journal
returns-in-Some-clause-journal g c = λ before first base_is was.
    let J = Journal g.row.K.Denot in
    let core = c.args.core.now in
    journal_more g.K.Sink.written g.K.Sink.faults core.plan before (core.past ∷ before) first c.in-Some.journal c.close.new.self c.close.ensures.room (λ start text. c.close.ensures.closed start before base_is text)
    (subst (λ (o : Option J). IsJournalled g.K.Sink.written g.K.Sink.faults core.plan before first o) c.in-Some.is was)

pub returns-in_default-clause-octets : goal.returns-in_default-clause-octets
returns-in_default-clause-octets g c = subst AreOctets c.history.ensures.rows c.add.ensures.octets

pub returns-in_default-clause-told : goal.returns-in_default-clause-told
returns-in_default-clause-told g c = λ before was.
    let told = c.args.told.now in
    let now = c.add.new.self in
    let rows : List Row = c.history.result.now.rows in
    let past = c.args.core.now.past in
    tells_more told.entries now.entries told.ends.items now.ends.items before rows past c.history.ensures.rows (sym (length-reverse rows) ∙ ap (λ (l : List Row). length l) c.history.ensures.rows)
    c.add.ensures.entries c.add.ensures.ends was

pub returns-in_default-clause-journal : goal.returns-in_default-clause-journal
returns-in_default-clause-journal g c = λ before first base_is was.
    let core = c.args.core.now in
    journal_none g.K.Sink.written g.K.Sink.faults core.plan before (core.past ∷ before) first c.args.journal.now (none_if c.args.journal.now c.in_default.not-Some) was
