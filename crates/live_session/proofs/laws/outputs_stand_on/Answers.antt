use Rattle.std.proofs.Common.{[], ◌∷◌}
use Rattle.live_session.proofs.Same.{output_same}
use Rattle.live_session.proofs.StandsOn.{next_output, output_over, output_starts, same_output}
use Rattle.live_session.proofs.laws.outputs_stand_on.Goals as goal

pub returns-clause-start : goal.returns-clause-start
returns-clause-start g c format plan port sink = output_starts g.K.Sink.written g.K.Sink.faults format plan port sink

pub returns-clause-later : goal.returns-clause-later
returns-clause-later g c plan before found now format port begun old new legal later stands =
    output_same g.K.Sink.written g.K.Sink.faults format plan port (found ∷ before) (now ∷ before) (same_output plan before found now legal format port later) old new begun stands

pub returns-clause-next : goal.returns-clause-next
returns-clause-next g c plan before format port begun old new stands =
    output_same g.K.Sink.written g.K.Sink.faults format plan port before ([] ∷ before) (next_output plan before format port) old new begun stands

pub returns-clause-over : goal.returns-clause-over
returns-clause-over g c plan before segment format port begun old new legal ended stands =
    output_over plan before segment legal g.K.Sink.written g.K.Sink.faults format port begun old new ended stands
