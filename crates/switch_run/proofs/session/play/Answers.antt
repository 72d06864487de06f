use Rattle.std.proofs.Common.{Some, not, is_some, ◌∷◌, ap, refl, ◌∙◌}
use Rattle.savi_kinds.specs.declared.plan.Plan.{Plan}
use Rattle.switch_run.proofs.Sessions.{played_back, same_control, some_journal}
use Rattle.switch_run.proofs.session.play.Goals as goal

pub given_back-requires-2 : goal.given_back-requires-2
given_back-requires-2 g c =
    let replayed = c.in-Ok.ensures.replayed in
    some_journal g.K.Sink.written g.K.Sink.faults c.args.plan (c.in-Ok.closed.core.past ∷ replayed.before) c.in-Ok.closed.journal_failed c.args.journal c.in-Ok.closed.ready.journal replayed.all.2

pub returns-clause-control : goal.returns-clause-control
returns-clause-control g c =
    let replayed = c.in-Ok.ensures.replayed in
    let serves = replayed.all.0 in
    ap is_some c.given_back-2.ensures.control
    ∙ same_control g.S.Source.left g.K.Sink.written g.S.Source.faults g.K.Sink.faults c.args.plan (c.in-Ok.closed.core.past ∷ replayed.before) c.args.control _ serves.lines serves.stops.control serves.control

pub returns-clause-played : goal.returns-clause-played
returns-clause-played g c =
    let closed = c.in-Ok.ensures in
    played_back g.S.Source.left g.K.Sink.written g.S.Source.faults g.K.Sink.faults c.args.plan c.as_slice.result.now
    (record { core = c.in-Ok.closed.core; entries = c.in-Ok.closed.entries; ends = c.in-Ok.closed.ends; journal_written = not c.in-Ok.closed.journal_failed }) c.given_back-2.result.outcome c.in-Ok.closed.journal_failed
    (record { control = c.args.control; ports = c.args.ports; journal = Some c.args.journal }) c.in-Ok.closed.ready c.args.journal c.given_back-2.result.control c.given_back-2.result.ports c.given_back-2.result.journal
    c.counts_sum_segments_up.ensures c.requires.built.valid closed.plan (c.as_slice.ensures ∙ ap (λ (p : Plan). p.prefixes) c.plan.ensures) c.know_addresses.ensures refl refl
    c.given_back-2.ensures.control c.given_back-2.ensures.ports c.given_back-2.ensures.journal c.given_back-2.ensures.outcome closed.replayed
