use Rattle.std.proofs.Common.{List, ◌∷◌, sym, ap, subst, Option, Some, None}
use Rattle.savi_kinds.specs.declared.plan.Plan.{Plan}
use Rattle.hist_store.specs.Rows.{Row}
use Rattle.savi_core.specs.Machines.{Machine}
use Rattle.journal_write.specs.declared.journal.Journal.{Journal}
use Rattle.port_worker.specs.Journalled.{IsJournalled}
use Rattle.port_worker.specs.Pairs.{EachPair}
use Rattle.port_worker.specs.Served.{IsSamePort, ServesEnds}
use Rattle.port_worker.proofs.Closing.{of_vectors}
use Rattle.port_worker.proofs.Journalling.{StartsWith, took_journal}
use Rattle.port_worker.proofs.session.replay_session.Goals.{in-None, in-Some}
use Rattle.port_worker.proofs.session.replay_session.Goals as goal

pub returns-clause-ports : goal.returns-clause-ports
returns-clause-ports g c =
    of_vectors (EachPair IsSamePort) c.args.ready.ports.len c.args.ready.ports.items c.deref_mut.result.now c.replay-entries.new.ports
    c.deref_mut.ensures.value (sym c.deref_mut.ensures.len) c.replay-entries.ensures.ports.size c.replay-entries.ensures.ports

pub returns-clause-replayed : goal.returns-clause-replayed
returns-clause-replayed g c =
    let starts = ap (λ (m : Machine). m.plan) c.in-Ok.ensures.0 in
    let replayed = c.replay-entries.ensures.replayed in
    let segments : List (List Row) = c.replay-entries.new.core.past ∷ replayed.before in
    let K = g.row.K.Denot in
    let begins : StartsWith c.args.ready.journal c.match-journal.journal = elim c.match-journal.branch [
      | in-Some w ↦
          subst (λ (o : Option K). StartsWith o c.match-journal.journal) (sym w.in-Some.is)
          (subst (λ (j : Option (Journal K)). StartsWith (Some w.in-Some.sink) j) (sym w.journal-is) (ap (λ (j : Journal K). j.sink) w.new.ensures))
      | in-None w ↦
          subst (λ (o : Option K). StartsWith o c.match-journal.journal) (sym w.in-None.is)
          (subst (λ (j : Option (Journal K)). StartsWith {K = K} None j) (sym w.journal-is) tt)
    ] in
    record {
      before = replayed.before;
      base = replayed.base;
      all = (
        of_vectors (λ old new. ServesEnds g.S.Source.left g.K.Sink.written g.S.Source.faults g.K.Sink.faults c.args.plan segments c.args.ready.control c.replay-entries.new.control old new)
            c.args.ready.ports.len c.args.ready.ports.items c.deref_mut.result.now c.replay-entries.new.ports
            c.deref_mut.ensures.value (sym c.deref_mut.ensures.len) c.replay-entries.ensures.ports.size
            (subst (λ (p : Plan). ServesEnds g.S.Source.left g.K.Sink.written g.S.Source.faults g.K.Sink.faults p segments c.args.ready.control c.replay-entries.new.control c.deref_mut.result.now c.replay-entries.new.ports) starts replayed.all.0),
        replayed.all.1,
        took_journal g.K.Sink.written g.K.Sink.faults c.args.plan segments c.args.ready.journal c.match-journal.journal c.replay-entries.new.journal c.sink_of-journal.result.0 c.sink_of-journal.result.1 begins
            (subst (λ (p : Plan). IsJournalled g.K.Sink.written g.K.Sink.faults p segments c.match-journal.journal c.replay-entries.new.journal) starts replayed.all.2)
            c.replay-entries.ensures.settled c.sink_of-journal.ensures,
      );
    }
