use Rattle.live_switch.specs.Rounds.{ServesOn}
use Rattle.live_switch.proofs.Roundwise.{serves_both}
use Rattle.live_switch.proofs.rounds.go_round.Goals as goal

pub returns : goal.returns
returns g c =
    let kept = c.args.kept.now in
    let service = c.args.service.now in
    let lines = c.go_round_control-has_line in
    let arrivals = c.go_round_inputs-has_arrival in
    let ticks = c.go_round_ticker in
    let sent = c.go_round_outputs in
    let one : ServesOn g.K.Sink.written g.K.Sink.faults g.C.Clock.readings kept service arrivals.new.kept arrivals.new.service =
    serves_both g.K.Sink.written g.K.Sink.faults g.C.Clock.readings kept lines.new.kept arrivals.new.kept service lines.new.service arrivals.new.service lines.ensures arrivals.ensures in
    let two : ServesOn g.K.Sink.written g.K.Sink.faults g.C.Clock.readings kept service ticks.new.kept ticks.new.service =
    serves_both g.K.Sink.written g.K.Sink.faults g.C.Clock.readings kept arrivals.new.kept ticks.new.kept service arrivals.new.service ticks.new.service one ticks.ensures in
    serves_both g.K.Sink.written g.K.Sink.faults g.C.Clock.readings kept ticks.new.kept sent.new.kept service ticks.new.service sent.new.service two sent.ensures
