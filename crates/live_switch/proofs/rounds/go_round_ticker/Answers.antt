use Rattle.live_switch.proofs.Roundwise.{ticker_moved}
use Rattle.live_switch.proofs.rounds.go_round_ticker.Goals as goal

pub returns-then-not-ended : goal.returns-then-not-ended
returns-then-not-ended g c =
    ticker_moved g.K.Sink.written g.K.Sink.faults g.C.Clock.readings c.args.kept.now c.round.new.core c.args.service.now c.requires c.round.new.self c.round.ensures.plan c.round.ensures.checkpoint c.round.ensures.made
    (λ first before legals base legal stands. c.round.ensures.stands before first legals base stands)
