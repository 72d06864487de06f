use Rattle.std.proofs.Common.{◌+◌, ◌*◌, ◌<◌, length, arith, rules}
use denote.Param.{param}
use denote.Param.Send.{IsSend, IsSync, sendable}
use Rattle.savi_kinds.specs.declared.entry.Who.TheVariants as passes
use Rattle.live_turns.specs.Seats.{IsDealtTo}
use Rattle.live_switch.specs.Works.{IsReadyShift}
use Rattle.live_switch.proofs.Shifts.{done_more, input_is_dealt, output_is_dealt, rest_ready}
use Rattle.live_switch.proofs.workers.+works.Goals as goal

pub run_all-join-others-requires-after_bounds : goal.run_all-join-others-requires-after_bounds
run_all-join-others-requires-after_bounds g t c κs within =
    let raw = c.requires-raw in
    let send_k : IsSend (param 2 g.row.K) = search rules in
    let send_c : IsSend (param 3 g.row.C) = search rules in
    let sync_r : IsSync (param 0 g.row.R) = search rules in
    let sync_g : IsSync (param 1 g.row.G) = search rules in
    let lock = c.args.lock.now in
    let port = c.take_port-port.result.0 in
    let left = c.take_port-port.result.1 in
    let input : IsDealtTo lock (passes.Ingress port.judge.port) port.input = input_is_dealt lock c.args.shift port left c.requires.ready c.take_port-port.ensures in
    let output : IsDealtTo lock (passes.Egress port.writer.port) port.output = output_is_dealt lock c.args.shift port left c.requires.ready c.take_port-port.ensures in
    let others : IsReadyShift lock left = rest_ready lock c.args.shift port left c.requires.ready c.take_port-port.ensures in
    let smaller : 4 * length left.service.ports.items + 3 < 4 * length c.args.shift.service.ports.items =
    omega (arith, c.take_port-port.ensures.ports_len, left.service.ports.ok.0, c.args.shift.service.ports.ok.0) in
    search (rules, sendable)

pub run_all-returns : goal.run_all-returns
run_all-returns g t c =
    let joined = c.join-others in
    done_more c.args.lock.now c.args.shift c.take_port-port.result.0 c.take_port-port.result.1 c.requires.ready c.take_port-port.ensures
    g.K.Sink.written g.K.Sink.faults g.C.Clock.readings joined.result.0.0 c.put_port.result
    (record { judge = joined.result.1.0; input = joined.result.1.1; writer = joined.result.0.1; output = joined.result.0.2 })
    joined.ensures.second joined.ensures.first.1 joined.ensures.first.0 c.put_port.ensures

pub run_beside-join-writer-requires-after_bounds : goal.run_beside-join-writer-requires-after_bounds
run_beside-join-writer-requires-after_bounds g t c κs within =
    let raw = c.requires-raw in
    let send_k : IsSend (param 2 g.row.K) = search rules in
    let send_c : IsSend (param 3 g.row.C) = search rules in
    let sync_r : IsSync (param 0 g.row.R) = search rules in
    let sync_g : IsSync (param 1 g.row.G) = search rules in
    let ready : IsReadyShift c.args.lock.now c.args.shift = c.requires.shift in
    let output : IsDealtTo c.args.lock.now (passes.Egress c.args.writer.port) c.args.output = c.requires.output in
    search (rules, sendable)
