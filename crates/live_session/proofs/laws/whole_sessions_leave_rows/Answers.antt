use Rattle.savi_history.specs.ControlInputs.{entered_lines}
use Rattle.savi_history.specs.PortInputs.{arrived}
use Rattle.savi_segments.specs.Unbroken.{unbroken}
use Rattle.live_session.proofs.RowsAtEnd.{control_row, egress_row, ingress_row, no_control_row, ticker_row}
use Rattle.live_session.proofs.laws.whole_sessions_leave_rows.Goals as goal

pub returns-clause-ingress : goal.returns-clause-ingress
returns-clause-ingress g c plan segments format port put taken kept old new clock later whole known was_put front stands =
    let left = g.S.Source.left in
    let faults = g.S.Source.faults in
    let readings = g.C.Clock.readings in
    ingress_row plan segments whole left faults readings format port taken kept old new clock later known
    (λ ending judged. c.reader_and_judge_leave_one_row.ensures left faults readings format put taken kept (arrived port (unbroken segments)) ending old new clock later was_put judged front)
    stands

pub returns-clause-egress : goal.returns-clause-egress
returns-clause-egress g c plan segments format port begun old new whole known stands =
    egress_row plan segments whole g.K.Sink.written g.K.Sink.faults format port begun old new known stands

pub returns-clause-control : goal.returns-clause-control
returns-clause-control g c plan segments put taken kept old new whole were_put front stands =
    let left = g.S.Source.left in
    let faults = g.S.Source.faults in
    let readings = g.C.Clock.readings in
    control_row plan segments whole left g.K.Sink.written faults g.K.Sink.faults readings taken kept old new
    (λ ending answers. c.reader_and_answers_leave_one_row.ensures left faults readings put taken kept (entered_lines (unbroken segments)) ending old.source new.source old.clock new.clock were_put answers front)
    stands

pub returns-clause-none : goal.returns-clause-none
returns-clause-none g c plan segments whole stands = no_control_row plan segments whole stands

pub returns-clause-ticker : goal.returns-clause-ticker
returns-clause-ticker g c plan segments old new whole stands = ticker_row plan segments whole g.C.Clock.readings old new stands
