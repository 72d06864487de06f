use Rattle.std.proofs.Common.{◌<◌, length, get_or, arith}
use Rattle.std.proofs.lemmas.List.{get_or_default}
use Rattle.port_worker.proofs.Planned.{count_is}
use Rattle.port_worker.proofs.Draining.{drains_none, drains_more, drains_all}
use Rattle.port_worker.proofs.outputs.drain_all.Goals as goal

pub loop-place-preserved : goal.loop-place-preserved
loop-place-preserved g c =
    let old = c.args.ports.now in
    let new = c.loop-place.ports in
    let place = c.loop-place.place in
    let inside : place < length new = omega arith in
    let x = get_or new place c.index-ports-place.result in
    let y = c.drain_port.new.port in
    drains_more g.K.Sink.written g.K.Sink.faults place c.args.core.now c.loop-place.core c.drain_port.new.core old new x y c.requires.ports c.requires.rising c.loop-place.invariant inside (get_or_default new place _ _ inside)
    c.drain_port.ensures.plan c.drain_port.ensures.base c.drain_port.ensures.sink c.drain_port.ensures.drained

pub loop-place-init : goal.loop-place-init
loop-place-init g c = drains_none g.K.Sink.written g.K.Sink.faults c.args.core.now c.args.ports.now c.requires.drainable

pub returns-clause-outputs : goal.returns-clause-outputs
returns-clause-outputs g c run stands =
    let count = count_is c.args.ports.now c.args.core.now.plan c.requires.ports in
    drains_all g.K.Sink.written g.K.Sink.faults c.loop-place.place c.args.core.now c.loop-place.core c.args.ports.now c.loop-place.ports (omega arith) c.loop-place.invariant run stands

pub returns-clause-low : goal.returns-clause-low
returns-clause-low g c = c.loop-place.invariant.low
