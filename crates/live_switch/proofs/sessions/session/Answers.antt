use Rattle.std.proofs.Common.{◌∙◌, arith}
use Rattle.live_switch.specs.Beginnings.{FitsRoom}
use Rattle.live_switch.proofs.Beginning.{can_start, unfilled}
use Rattle.live_switch.proofs.Living.{LeaveRows, line_matched, matched, plan_closed, reads_len, room_left, served, services_left}
use Rattle.live_switch.proofs.sessions.session.Goals as goal

pub deal_ends-ports-requires : goal.deal_ends-ports-requires
deal_ends-ports-requires g c =
    let said = c.in-Ok.ensures in
    record {
      plan = c.args.plan;
      size = c.requires.planned;
      seats = said.seats;
      there = said.there ∙ c.is_some.ensures;
      line_seat = said.line_seat;
      readers = said.readers;
      services = said.services;
      buffer = said.buffer;
      first = said.first;
    }

pub run_readers-readers-requires-clause-unfilled : goal.run_readers-readers-requires-clause-unfilled
run_readers-readers-requires-clause-unfilled g c κs inside =
    let said = c.in-Ok.ensures in
    let ready = c.args.ready in
    let room = c.in-Ok.room in
    let fits : FitsRoom ready room =
    record {
      plan = c.args.plan;
      size = c.requires.planned;
      seats = said.seats;
      there = said.there ∙ c.is_some.ensures;
      line_seat = said.line_seat;
      readers = said.readers;
      services = said.services;
      buffer = said.buffer;
      first = said.first;
    } in
    let begun = c.deal_ends-ports.result in
    let has = c.deal_ends-ports.ensures in
    unfilled ready room begun fits has

pub run_readers-readers-requires-clause-start : goal.run_readers-readers-requires-clause-start
run_readers-readers-requires-clause-start g c κs inside =
    let said = c.in-Ok.ensures in
    let ready = c.args.ready in
    let room = c.in-Ok.room in
    let fits : FitsRoom ready room =
    record {
      plan = c.args.plan;
      size = c.requires.planned;
      seats = said.seats;
      there = said.there ∙ c.is_some.ensures;
      line_seat = said.line_seat;
      readers = said.readers;
      services = said.services;
      buffer = said.buffer;
      first = said.first;
    } in
    let begun = c.deal_ends-ports.result in
    let has = c.deal_ends-ports.ensures in
    can_start ready room begun fits has c.requires.valid

pub closed_by-requires-clause-size : goal.closed_by-requires-clause-size
closed_by-requires-clause-size g c =
    let said = c.in-Ok.ensures in
    let ready = c.args.ready in
    let room = c.in-Ok.room in
    let fits : FitsRoom ready room =
    record {
      plan = c.args.plan;
      size = c.requires.planned;
      seats = said.seats;
      there = said.there ∙ c.is_some.ensures;
      line_seat = said.line_seat;
      readers = said.readers;
      services = said.services;
      buffer = said.buffer;
      first = said.first;
    } in
    let begun = c.deal_ends-ports.result in
    let has = c.deal_ends-ports.ensures in
    let left = g.S.Source.left in
    let written = g.K.Sink.written in
    let source_faults = g.S.Source.faults in
    let sink_faults = g.K.Sink.faults in
    let readings = g.C.Clock.readings in
    let read = c.run_readers-readers.result.0 in
    let run = c.run_readers-readers.result.1 in
    let filled = c.run_readers-readers.ensures.filled in
    let ran = c.run_readers-readers.ensures.run in
    omega (arith, services_left left written source_faults sink_faults readings ready room begun fits has read run filled ran, reads_len left written source_faults sink_faults readings ready room begun fits has read run filled ran)

pub closed_by-requires-clause-room : goal.closed_by-requires-clause-room
closed_by-requires-clause-room g c =
    let said = c.in-Ok.ensures in
    let ready = c.args.ready in
    let room = c.in-Ok.room in
    let fits : FitsRoom ready room =
    record {
      plan = c.args.plan;
      size = c.requires.planned;
      seats = said.seats;
      there = said.there ∙ c.is_some.ensures;
      line_seat = said.line_seat;
      readers = said.readers;
      services = said.services;
      buffer = said.buffer;
      first = said.first;
    } in
    let begun = c.deal_ends-ports.result in
    let has = c.deal_ends-ports.ensures in
    let left = g.S.Source.left in
    let written = g.K.Sink.written in
    let source_faults = g.S.Source.faults in
    let sink_faults = g.K.Sink.faults in
    let readings = g.C.Clock.readings in
    let read = c.run_readers-readers.result.0 in
    let run = c.run_readers-readers.result.1 in
    let filled = c.run_readers-readers.ensures.filled in
    let ran = c.run_readers-readers.ensures.run in
    room_left left written source_faults sink_faults readings ready room begun fits has read run filled ran

pub closed_by-requires-clause-matched : goal.closed_by-requires-clause-matched
closed_by-requires-clause-matched g c =
    let said = c.in-Ok.ensures in
    let ready = c.args.ready in
    let room = c.in-Ok.room in
    let fits : FitsRoom ready room =
    record {
      plan = c.args.plan;
      size = c.requires.planned;
      seats = said.seats;
      there = said.there ∙ c.is_some.ensures;
      line_seat = said.line_seat;
      readers = said.readers;
      services = said.services;
      buffer = said.buffer;
      first = said.first;
    } in
    let begun = c.deal_ends-ports.result in
    let has = c.deal_ends-ports.ensures in
    let left = g.S.Source.left in
    let written = g.K.Sink.written in
    let source_faults = g.S.Source.faults in
    let sink_faults = g.K.Sink.faults in
    let readings = g.C.Clock.readings in
    let read = c.run_readers-readers.result.0 in
    let run = c.run_readers-readers.result.1 in
    let filled = c.run_readers-readers.ensures.filled in
    let ran = c.run_readers-readers.ensures.run in
    matched left written source_faults sink_faults readings ready room begun fits has read run filled ran

pub closed_by-requires-clause-control : goal.closed_by-requires-clause-control
closed_by-requires-clause-control g c =
    let said = c.in-Ok.ensures in
    let ready = c.args.ready in
    let room = c.in-Ok.room in
    let fits : FitsRoom ready room =
    record {
      plan = c.args.plan;
      size = c.requires.planned;
      seats = said.seats;
      there = said.there ∙ c.is_some.ensures;
      line_seat = said.line_seat;
      readers = said.readers;
      services = said.services;
      buffer = said.buffer;
      first = said.first;
    } in
    let begun = c.deal_ends-ports.result in
    let has = c.deal_ends-ports.ensures in
    let left = g.S.Source.left in
    let written = g.K.Sink.written in
    let source_faults = g.S.Source.faults in
    let sink_faults = g.K.Sink.faults in
    let readings = g.C.Clock.readings in
    let read = c.run_readers-readers.result.0 in
    let run = c.run_readers-readers.result.1 in
    let filled = c.run_readers-readers.ensures.filled in
    let ran = c.run_readers-readers.ensures.run in
    line_matched left written source_faults sink_faults readings ready room begun fits has read run filled ran

pub returns-clause-plan : goal.returns-clause-plan
returns-clause-plan g c =
    let said = c.in-Ok.ensures in
    let ready = c.args.ready in
    let room = c.in-Ok.room in
    let fits : FitsRoom ready room =
    record {
      plan = c.args.plan;
      size = c.requires.planned;
      seats = said.seats;
      there = said.there ∙ c.is_some.ensures;
      line_seat = said.line_seat;
      readers = said.readers;
      services = said.services;
      buffer = said.buffer;
      first = said.first;
    } in
    let begun = c.deal_ends-ports.result in
    let has = c.deal_ends-ports.ensures in
    let left = g.S.Source.left in
    let written = g.K.Sink.written in
    let source_faults = g.S.Source.faults in
    let sink_faults = g.K.Sink.faults in
    let readings = g.C.Clock.readings in
    let read = c.run_readers-readers.result.0 in
    let run = c.run_readers-readers.result.1 in
    let filled = c.run_readers-readers.ensures.filled in
    let ran = c.run_readers-readers.ensures.run in
    let law : LeaveRows left written source_faults sink_faults readings =
    record {
      ingress = c.whole_sessions_leave_rows.ensures.ingress;
      egress = c.whole_sessions_leave_rows.ensures.egress;
      control = c.whole_sessions_leave_rows.ensures.control;
      none = c.whole_sessions_leave_rows.ensures.none;
      ticker = c.whole_sessions_leave_rows.ensures.ticker;
    } in
    plan_closed left written source_faults sink_faults readings ready room begun fits has read run filled ran law c.closed_by.result c.closed_by.ensures

pub returns-clause-served : goal.returns-clause-served
returns-clause-served g c =
    let said = c.in-Ok.ensures in
    let ready = c.args.ready in
    let room = c.in-Ok.room in
    let fits : FitsRoom ready room =
    record {
      plan = c.args.plan;
      size = c.requires.planned;
      seats = said.seats;
      there = said.there ∙ c.is_some.ensures;
      line_seat = said.line_seat;
      readers = said.readers;
      services = said.services;
      buffer = said.buffer;
      first = said.first;
    } in
    let begun = c.deal_ends-ports.result in
    let has = c.deal_ends-ports.ensures in
    let left = g.S.Source.left in
    let written = g.K.Sink.written in
    let source_faults = g.S.Source.faults in
    let sink_faults = g.K.Sink.faults in
    let readings = g.C.Clock.readings in
    let read = c.run_readers-readers.result.0 in
    let run = c.run_readers-readers.result.1 in
    let filled = c.run_readers-readers.ensures.filled in
    let ran = c.run_readers-readers.ensures.run in
    let law : LeaveRows left written source_faults sink_faults readings =
    record {
      ingress = c.whole_sessions_leave_rows.ensures.ingress;
      egress = c.whole_sessions_leave_rows.ensures.egress;
      control = c.whole_sessions_leave_rows.ensures.control;
      none = c.whole_sessions_leave_rows.ensures.none;
      ticker = c.whole_sessions_leave_rows.ensures.ticker;
    } in
    served left written source_faults sink_faults readings ready room begun fits has read run filled ran law c.closed_by.result c.closed_by.ensures
