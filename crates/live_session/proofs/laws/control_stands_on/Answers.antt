use Rattle.std.proofs.Common.{[], ◌∷◌}
use Rattle.live_session.proofs.Same.{control_same}
use Rattle.live_session.proofs.StandsOn.{control_over, control_starts, next_control, same_control}
use Rattle.live_session.proofs.laws.control_stands_on.Goals as goal

pub returns-clause-start : goal.returns-clause-start
returns-clause-start g c plan sink = control_starts g.K.Sink.written g.K.Sink.faults plan sink

pub returns-clause-later : goal.returns-clause-later
returns-clause-later g c plan before found now taken kept old new legal later stands =
    control_same g.K.Sink.written g.K.Sink.faults plan (found ∷ before) (now ∷ before) (same_control plan before found now legal later) old new taken kept stands

pub returns-clause-next : goal.returns-clause-next
returns-clause-next g c plan before taken kept old new stands =
    control_same g.K.Sink.written g.K.Sink.faults plan before ([] ∷ before) (next_control plan before) old new taken kept stands

pub returns-clause-over : goal.returns-clause-over
returns-clause-over g c plan before segment taken kept old new legal ended stands =
    control_over plan before segment legal g.K.Sink.written g.K.Sink.faults taken kept old new ended stands
