use Rattle.live_control.proofs.Working.{by_side}
use Rattle.live_switch.proofs.rounds.fetch_line.Goals as goal

pub returns-in-Some-clause-stands : goal.returns-in-Some-clause-stands
returns-in-Some-clause-stands g c = λ plan segments first unended stands.
    by_side g.K.Sink.written g.K.Sink.faults plan segments segments first c.args.control.now.ends c.in-Some.side c.fetch_from_ring.new.side c.in-Some.is
    (λ f stood. c.fetch_from_ring.ensures.stands plan segments f unended stood) stands
