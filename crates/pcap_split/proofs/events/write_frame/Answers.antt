use Rattle.std.proofs.Common.{append-nil, refl, ap, arith}
use Rattle.pcap_split.specs.Counts.{tally_of, interfaces_of}
use Rattle.pcap_split.proofs.Outputs.{one_taken, one_front, one_risen, all_idle, none_here, has_place, has_none}
use Rattle.pcap_split.proofs.events.write_frame.Goals as goal

pub returns-in_default : goal.returns-in_default
returns-in_default g c =
    let none = c.in_default.ensures.none in (
      all_idle g.K.Sink.written g.K.Sink.faults _ c.args.outputs.now (none_here c.args.outputs.now c.args.interface c.args.stamp c.args.frame.now none),
      (omega arith, rw (has_none c.args.outputs.now c.args.interface none) (ap (tally_of _) (append-nil (interfaces_of c.args.outputs.now)))),
    )

pub returns-in-Done : goal.returns-in-Done
returns-in-Done g c =
    let here = c.in-Some.ensures.some in
    let x = c.index-outputs-place.result in
    let y = c.put.new.sink in
    let still = c.in-Done.ensures.still refl in
    let text = c.in-Done.ensures.extends in (
      one_taken g.K.Sink.written g.K.Sink.faults c.args.outputs.now c.in-Some.place c.args.interface c.args.stamp c.args.frame.now x y c.requires.differ here still text,
      (omega arith, rw (has_place c.args.outputs.now c.in-Some.place c.args.interface here) (ap (tally_of _) (append-nil (interfaces_of c.args.outputs.now)))),
    )

pub returns-in-Failed : goal.returns-in-Failed
returns-in-Failed g c =
    let here = c.in-Some.ensures.some in
    let x = c.index-outputs-place.result in
    let y = c.put.new.sink in
    let rose = (c.in-Failed.ensures.cause refl) in
    let text = c.in-Failed.ensures.extends in (
      c.args.stamp,
      c.args.frame.now,
      refl,
      one_front g.K.Sink.written g.K.Sink.faults c.args.outputs.now c.in-Some.place c.args.interface c.args.stamp c.args.frame.now x y c.requires.differ here rose text,
      (omega arith, rw (has_place c.args.outputs.now c.in-Some.place c.args.interface here) (ap (tally_of _) (append-nil (interfaces_of c.args.outputs.now)))),
      one_risen g.K.Sink.faults c.args.outputs.now c.in-Some.place c.args.interface x y here rose,
    )
