use Rattle.std.proofs.Common.{◌++◌, length, take, drop, refl, sym, subst, arith}
use Rattle.pcap_split.specs.declared.counts.Counts.{Counts}
use Rattle.split_run.specs.declared.outcome.Outcome.TheVariants as outcome
use Rattle.split_run.specs.Names.{name_in}
use Rattle.split_run.specs.Steps.{HasSplit}
use Rattle.split_run.proofs.Loops.{so_far_none, slice_differs, slice_reads, stops_end, stops_malformed, stops_failed, stops_unwritten, opens_low, opens_room, opens_ready, opens_on, opens_more, opens_stop}
use Rattle.split_run.proofs.splitting.split_source.Goals as goal

pub loop-interface-init : goal.loop-interface-init
loop-interface-init g c = record {
  room = c.requires.room;
  so_far = so_far_none g.W.S.Source.left g.W.K.Sink.written g.W.S.Source.faults g.W.K.Sink.faults (name_in c.args.names.now) c.args.source.now (g.W.World.book c.args.world.now) c.new-splitter.result.reading c.new-splitter.result.counts c.args.held.now.items
      c.new-splitter.ensures.reading c.new-splitter.ensures.counts c.requires.empty;
}

pub go_on-requires : goal.go_on-requires
go_on-requires g c =
    slice_differs g.W.S.Source.left g.W.K.Sink.written g.W.S.Source.faults g.W.K.Sink.faults c.args.names.now c.requires.count c.requires.apart c.args.source.now c.loop-interface.source c.loop-interface.source (g.W.World.book c.args.world.now) (g.W.World.book c.loop-interface.world) c.loop-interface.splitter.reading c.loop-interface.splitter.reading c.loop-interface.splitter.counts c.loop-interface.splitter.counts c.loop-interface.held.items c.as_mut_slice.result.now c.as_mut_slice.result.now c.loop-interface.held.len c.loop-interface.invariant.so_far c.as_mut_slice.ensures.value (omega (arith, c.loop-interface.held.ok.0))

pub begin_output-requires-clause-named : goal.begin_output-requires-clause-named
begin_output-requires-clause-named g c κs within =
    opens_low g.W.S.Source.left g.W.K.Sink.written g.W.S.Source.faults g.W.K.Sink.faults c.args.names.now c.requires.count c.requires.apart c.args.source.now c.loop-interface.source c.go_on.new.source (g.W.World.book c.args.world.now) (g.W.World.book c.loop-interface.world) c.loop-interface.splitter.reading c.go_on.new.self.reading c.loop-interface.splitter.counts c.go_on.new.self.counts c.loop-interface.held.items c.as_mut_slice.result.now c.go_on.new.outputs c.loop-interface.held.len c.loop-interface.invariant.so_far c.as_mut_slice.ensures.value (omega (arith, c.loop-interface.held.ok.0)) (c.in-Opens.ensures.still (λ same. absurd cc)) c.in-Opens.interface c.in-Opens.ensures.split

pub begin_output-requires-clause-room : goal.begin_output-requires-clause-room
begin_output-requires-clause-room g c κs within =
    let room = opens_room g.W.S.Source.left g.W.K.Sink.written g.W.S.Source.faults g.W.K.Sink.faults c.args.names.now c.requires.count c.requires.apart c.args.source.now c.loop-interface.source c.go_on.new.source (g.W.World.book c.args.world.now) (g.W.World.book c.loop-interface.world) c.loop-interface.splitter.reading c.go_on.new.self.reading c.loop-interface.splitter.counts c.go_on.new.self.counts c.loop-interface.held.items c.as_mut_slice.result.now c.go_on.new.outputs c.loop-interface.held.len c.loop-interface.invariant.so_far c.as_mut_slice.ensures.value (omega (arith, c.loop-interface.held.ok.0)) (c.in-Opens.ensures.still (λ same. absurd cc)) c.in-Opens.interface c.in-Opens.ensures.split in
    omega (arith, room, c.loop-interface.invariant.room)

pub begin_output-requires-clause-ready : goal.begin_output-requires-clause-ready
begin_output-requires-clause-ready g c κs within =
    opens_ready g.W.S.Source.left g.W.K.Sink.written g.W.S.Source.faults g.W.K.Sink.faults c.args.names.now c.requires.count c.requires.apart c.args.source.now c.loop-interface.source c.go_on.new.source (g.W.World.book c.args.world.now) (g.W.World.book c.loop-interface.world) c.loop-interface.splitter.reading c.go_on.new.self.reading c.loop-interface.splitter.counts c.go_on.new.self.counts c.loop-interface.held.items c.as_mut_slice.result.now c.go_on.new.outputs c.loop-interface.held.len c.loop-interface.invariant.so_far c.as_mut_slice.ensures.value (omega (arith, c.loop-interface.held.ok.0)) (c.in-Opens.ensures.still (λ same. absurd cc)) c.in-Opens.interface c.in-Opens.ensures.split _ c.requires.outputs

pub returns-in-Some : goal.returns-in-Some
returns-in-Some g c =
    opens_stop g.W.S.Source.left g.W.K.Sink.written g.W.S.Source.faults g.W.K.Sink.faults c.args.names.now c.requires.count c.requires.apart c.args.source.now c.loop-interface.source c.go_on.new.source (g.W.World.book c.args.world.now) (g.W.World.book c.loop-interface.world) c.loop-interface.splitter.reading c.go_on.new.self.reading c.loop-interface.splitter.counts c.go_on.new.self.counts c.loop-interface.held.items c.as_mut_slice.result.now c.go_on.new.outputs c.loop-interface.held.len c.loop-interface.invariant.so_far c.as_mut_slice.ensures.value (omega (arith, c.loop-interface.held.ok.0)) (c.in-Opens.ensures.still (λ same. absurd cc)) c.in-Opens.interface c.in-Opens.ensures.split
    (g.W.World.book c.begin_output.new.world) c.begin_output.new.held.items c.begin_output.ensures.others c.begin_output.ensures.rest c.in-Some.outcome c.in-Some.ensures.tried c.in-Some.ensures.still_unwritten

pub loop-interface-smaller : goal.loop-interface-smaller
loop-interface-smaller g c =
    let room = opens_room g.W.S.Source.left g.W.K.Sink.written g.W.S.Source.faults g.W.K.Sink.faults c.args.names.now c.requires.count c.requires.apart c.args.source.now c.loop-interface.source c.go_on.new.source (g.W.World.book c.args.world.now) (g.W.World.book c.loop-interface.world) c.loop-interface.splitter.reading c.go_on.new.self.reading c.loop-interface.splitter.counts c.go_on.new.self.counts c.loop-interface.held.items c.as_mut_slice.result.now c.go_on.new.outputs c.loop-interface.held.len c.loop-interface.invariant.so_far c.as_mut_slice.ensures.value (omega (arith, c.loop-interface.held.ok.0)) (c.in-Opens.ensures.still (λ same. absurd cc)) c.in-Opens.interface c.in-Opens.ensures.split in
    let more = opens_more g.W.S.Source.left g.W.K.Sink.written g.W.S.Source.faults g.W.K.Sink.faults c.args.names.now c.requires.count c.requires.apart c.args.source.now c.loop-interface.source c.go_on.new.source (g.W.World.book c.args.world.now) (g.W.World.book c.loop-interface.world) c.loop-interface.splitter.reading c.go_on.new.self.reading c.loop-interface.splitter.counts c.go_on.new.self.counts c.loop-interface.held.items c.as_mut_slice.result.now c.go_on.new.outputs c.loop-interface.held.len c.loop-interface.invariant.so_far c.as_mut_slice.ensures.value (omega (arith, c.loop-interface.held.ok.0)) (c.in-Opens.ensures.still (λ same. absurd cc)) c.in-Opens.interface c.in-Opens.ensures.split
    (g.W.World.book c.begin_output.new.world) c.begin_output.new.held.items c.begin_output.ensures.others c.begin_output.ensures.rest c.in_default.ensures.tried in
    omega (arith, room, more, c.loop-interface.held.ok.0)

pub loop-interface-preserved : goal.loop-interface-preserved
loop-interface-preserved g c = record {
  room = omega (arith, c.loop-interface.invariant.room, c.begin_output.ensures.capacity);
  so_far = opens_on g.W.S.Source.left g.W.K.Sink.written g.W.S.Source.faults g.W.K.Sink.faults c.args.names.now c.requires.count c.requires.apart c.args.source.now c.loop-interface.source c.go_on.new.source (g.W.World.book c.args.world.now) (g.W.World.book c.loop-interface.world) c.loop-interface.splitter.reading c.go_on.new.self.reading c.loop-interface.splitter.counts c.go_on.new.self.counts c.loop-interface.held.items c.as_mut_slice.result.now c.go_on.new.outputs c.loop-interface.held.len c.loop-interface.invariant.so_far c.as_mut_slice.ensures.value (omega (arith, c.loop-interface.held.ok.0)) (c.in-Opens.ensures.still (λ same. absurd cc)) c.in-Opens.interface c.in-Opens.ensures.split
      (g.W.World.book c.begin_output.new.world) c.begin_output.new.held.items c.begin_output.ensures.others c.begin_output.ensures.rest c.in_default.ensures.tried c.in_default.ensures.still;
}

pub returns-in-Unwritten : goal.returns-in-Unwritten
returns-in-Unwritten g c =
    stops_unwritten g.W.S.Source.left g.W.K.Sink.written g.W.S.Source.faults g.W.K.Sink.faults c.args.names.now c.requires.count c.requires.apart c.args.source.now c.loop-interface.source c.go_on.new.source (g.W.World.book c.args.world.now) (g.W.World.book c.loop-interface.world) c.loop-interface.splitter.reading c.go_on.new.self.reading c.loop-interface.splitter.counts c.go_on.new.self.counts c.loop-interface.held.items c.as_mut_slice.result.now c.go_on.new.outputs c.loop-interface.held.len c.loop-interface.invariant.so_far c.as_mut_slice.ensures.value (omega (arith, c.loop-interface.held.ok.0)) (c.in-Unwritten.ensures.still (λ same. absurd cc)) c.in-Unwritten.interface c.in-Unwritten.ensures.split c.in-Unwritten.ensures.unwritten

pub returns-in-Failed : goal.returns-in-Failed
returns-in-Failed g c =
    let reads = slice_reads g.W.S.Source.left g.W.K.Sink.written g.W.S.Source.faults g.W.K.Sink.faults c.args.names.now c.requires.count c.requires.apart c.args.source.now c.loop-interface.source c.go_on.new.source (g.W.World.book c.args.world.now) (g.W.World.book c.loop-interface.world) c.loop-interface.splitter.reading c.go_on.new.self.reading c.loop-interface.splitter.counts c.go_on.new.self.counts c.loop-interface.held.items c.as_mut_slice.result.now c.go_on.new.outputs c.loop-interface.held.len c.loop-interface.invariant.so_far c.as_mut_slice.ensures.value (omega (arith, c.loop-interface.held.ok.0)) in
    stops_failed g.W.S.Source.left g.W.K.Sink.written g.W.S.Source.faults g.W.K.Sink.faults c.args.names.now c.requires.count c.requires.apart c.args.source.now c.loop-interface.source c.go_on.new.source (g.W.World.book c.args.world.now) (g.W.World.book c.loop-interface.world) c.loop-interface.splitter.reading c.go_on.new.self.reading c.loop-interface.splitter.counts c.go_on.new.self.counts c.loop-interface.held.items c.as_mut_slice.result.now c.go_on.new.outputs c.loop-interface.held.len c.loop-interface.invariant.so_far c.as_mut_slice.ensures.value (omega (arith, c.loop-interface.held.ok.0)) c.in-Failed.ensures.split (c.in-Failed.ensures.cause refl reads)

pub returns-in-Malformed : goal.returns-in-Malformed
returns-in-Malformed g c =
    subst (λ (counts : Counts). HasSplit g.W.S.Source.left g.W.K.Sink.written g.W.S.Source.faults g.W.K.Sink.faults (name_in c.args.names.now) c.args.source.now c.go_on.new.source (g.W.World.book c.args.world.now) (g.W.World.book c.loop-interface.world) (take c.loop-interface.held.len (c.go_on.new.outputs ++ drop (length c.go_on.new.outputs) c.loop-interface.held.items)) (outcome.Malformed c.in-Malformed.at counts)) (sym c.counts.ensures)
    (stops_malformed g.W.S.Source.left g.W.K.Sink.written g.W.S.Source.faults g.W.K.Sink.faults c.args.names.now c.requires.count c.requires.apart c.args.source.now c.loop-interface.source c.go_on.new.source (g.W.World.book c.args.world.now) (g.W.World.book c.loop-interface.world) c.loop-interface.splitter.reading c.go_on.new.self.reading c.loop-interface.splitter.counts c.go_on.new.self.counts c.loop-interface.held.items c.as_mut_slice.result.now c.go_on.new.outputs c.loop-interface.held.len c.loop-interface.invariant.so_far c.as_mut_slice.ensures.value (omega (arith, c.loop-interface.held.ok.0)) (c.in-Malformed.ensures.still (λ same. absurd cc)) c.in-Malformed.at c.in-Malformed.ensures.split)

pub returns-in-End : goal.returns-in-End
returns-in-End g c =
    subst (λ (counts : Counts). HasSplit g.W.S.Source.left g.W.K.Sink.written g.W.S.Source.faults g.W.K.Sink.faults (name_in c.args.names.now) c.args.source.now c.go_on.new.source (g.W.World.book c.args.world.now) (g.W.World.book c.loop-interface.world) (take c.loop-interface.held.len (c.go_on.new.outputs ++ drop (length c.go_on.new.outputs) c.loop-interface.held.items)) (outcome.Split counts)) (sym c.counts-in-End.ensures)
    (stops_end g.W.S.Source.left g.W.K.Sink.written g.W.S.Source.faults g.W.K.Sink.faults c.args.names.now c.requires.count c.requires.apart c.args.source.now c.loop-interface.source c.go_on.new.source (g.W.World.book c.args.world.now) (g.W.World.book c.loop-interface.world) c.loop-interface.splitter.reading c.go_on.new.self.reading c.loop-interface.splitter.counts c.go_on.new.self.counts c.loop-interface.held.items c.as_mut_slice.result.now c.go_on.new.outputs c.loop-interface.held.len c.loop-interface.invariant.so_far c.as_mut_slice.ensures.value (omega (arith, c.loop-interface.held.ok.0)) (c.in-End.ensures.still (λ same. absurd cc)) c.in-End.ensures.split)
