use Rattle.std.proofs.Common.{◌∷◌, ap, refl, ◌∙◌}
use Rattle.savi_kinds.specs.declared.plan.Plan.{Plan}
use Rattle.switch_run.proofs.Sessions.{same_live, served_of}
use Rattle.switch_run.proofs.live.serve.Goals as goal

pub returns-clause-control : goal.returns-clause-control
returns-clause-control g c =
    let served = c.in-Ok.ensures.served in
    same_live g.S.Source.left g.K.Sink.written g.S.Source.faults g.K.Sink.faults g.C.Clock.readings c.args.plan (c.in-Ok.closed.core.past ∷ served.before) c.args.ready.control _ served.live.control

pub returns-clause-served : goal.returns-clause-served
returns-clause-served g c =
    served_of g.S.Source.left g.K.Sink.written g.S.Source.faults g.K.Sink.faults g.C.Clock.readings c.args.plan c.as_slice.result.now c.args.ready c.in-Ok.closed _
    c.counts_sum_segments_up.ensures c.requires.valid c.in-Ok.ensures.plan (c.as_slice.ensures ∙ ap (λ (p : Plan). p.prefixes) c.plan.ensures) c.know_addresses.ensures refl
    c.in-Ok.ensures.served
