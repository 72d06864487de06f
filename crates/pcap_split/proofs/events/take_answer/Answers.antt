use Rattle.std.proofs.Common.{append-nil, refl, ap, arith}
use Rattle.pcap_split.specs.Counts.{tally_of, interfaces_of}
use Rattle.pcap_split.proofs.Outputs.{all_idle, has_place, has_none}
use Rattle.pcap_split.proofs.events.take_answer.Goals as goal

pub returns-in-Some : goal.returns-in-Some
returns-in-Some g c = rw c.in-Long.is (
  all_idle g.K.Sink.written g.K.Sink.faults _ c.args.outputs.now (λ k d within. refl),
  (omega arith, rw (has_place c.args.outputs.now c.in-Some.field-0 c.in-Long.interface c.in-Some.ensures.some) (ap (tally_of _) (append-nil (interfaces_of c.args.outputs.now)))),
)

pub returns-in-None : goal.returns-in-None
returns-in-None g c = rw c.in-Long.is (
  all_idle g.K.Sink.written g.K.Sink.faults _ c.args.outputs.now (λ k d within. refl),
  (omega arith, rw (has_none c.args.outputs.now c.in-Long.interface c.in-None.ensures.none) (ap (tally_of _) (append-nil (interfaces_of c.args.outputs.now)))),
)
