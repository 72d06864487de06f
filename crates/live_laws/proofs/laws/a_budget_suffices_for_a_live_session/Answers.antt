use Rattle.live_laws.proofs.Sizing.{few, no_more, not_full}
use Rattle.live_laws.proofs.laws.a_budget_suffices_for_a_live_session.Goals as goal

pub returns-clause-given : goal.returns-clause-given
returns-clause-given g c plan segments old_ports new_ports old_control new_control old_clock new_clock lines inputs live have =
    no_more g.S.Source.left g.K.Sink.written g.S.Source.faults g.K.Sink.faults g.C.Clock.readings plan segments
    old_ports new_ports old_control new_control old_clock new_clock lines inputs live have

pub returns-clause-entries : goal.returns-clause-entries
returns-clause-entries g c plan segments old_ports new_ports old_control new_control old_clock new_clock lines inputs later before segment valid live have split =
    few g.S.Source.left g.K.Sink.written g.S.Source.faults g.K.Sink.faults g.C.Clock.readings plan segments
    old_ports new_ports old_control new_control old_clock new_clock lines inputs live have valid later before segment split
    (λ legal. c.segments_leave_what_their_rows_leave.ensures.within plan before valid legal)

pub returns-clause-enough : goal.returns-clause-enough
returns-clause-enough g c plan segments old_ports new_ports old_control new_control old_clock new_clock lines inputs valid live have suffices =
    not_full g.S.Source.left g.K.Sink.written g.S.Source.faults g.K.Sink.faults g.C.Clock.readings plan segments
    old_ports new_ports old_control new_control old_clock new_clock lines inputs live have valid suffices
