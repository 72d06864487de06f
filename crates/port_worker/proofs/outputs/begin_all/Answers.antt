use Rattle.std.proofs.Common.{◌<◌, length, get_or, arith}
use Rattle.std.proofs.lemmas.List.{get_or_default}
use Rattle.port_worker.proofs.Planned.{count_is}
use Rattle.port_worker.proofs.Beginning.{begins_none, begins_more, begins_all, open_here}
use Rattle.port_worker.proofs.outputs.begin_all.Goals as goal

pub loop-place-init : goal.loop-place-init
loop-place-init g c = begins_none g.K.Sink.written g.K.Sink.faults c.args.core.now c.args.ports.now c.requires.base c.requires.start

pub begin_port-requires : goal.begin_port-requires
begin_port-requires g c =
    let old = c.args.ports.now in
    let new = c.loop-place.ports in
    let place = c.loop-place.place in
    let inside : place < length new = omega arith in
    let x = get_or new place c.index-ports-place.result in
    record {
      «open» = open_here g.K.Sink.written g.K.Sink.faults place c.args.core.now c.loop-place.core c.loop-place.core old new x x c.requires.ports c.requires.rising c.loop-place.invariant inside (get_or_default new place _ _ inside);
    }

pub loop-place-preserved : goal.loop-place-preserved
loop-place-preserved g c =
    let old = c.args.ports.now in
    let new = c.loop-place.ports in
    let place = c.loop-place.place in
    let inside : place < length new = omega arith in
    let x = get_or new place c.index-ports-place.result in
    let y = c.begin_port.new.port in
    begins_more g.K.Sink.written g.K.Sink.faults place c.args.core.now c.loop-place.core c.begin_port.new.core old new x y c.requires.ports c.requires.rising c.loop-place.invariant inside (get_or_default new place _ _ inside)
    c.begin_port.ensures.plan c.begin_port.ensures.base c.begin_port.ensures.sink c.begin_port.ensures.begun

pub returns-clause-begun : goal.returns-clause-begun
returns-clause-begun g c =
    let count = count_is c.args.ports.now c.args.core.now.plan c.requires.ports in
    begins_all g.K.Sink.written g.K.Sink.faults c.loop-place.place c.args.core.now c.loop-place.core c.args.ports.now c.loop-place.ports (omega arith) count c.loop-place.invariant
