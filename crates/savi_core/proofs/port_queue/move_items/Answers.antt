use Rattle.std.proofs.Common.{arith, refl}
use Rattle.savi_kinds.specs.Ports.{number_of}
use Rattle.egress_ring.specs.declared.item.Item.TheVariants.{Frame, Probe}
use Rattle.savi_core.specs.Waits.{queued_item}
use Rattle.savi_core.proofs.Moving.{never_none, next_there, moved_more}
use Rattle.savi_core.proofs.port_queue.move_items.Goals as goal

pub put_frame-requires-clause-there : goal.put_frame-requires-clause-there
put_frame-requires-clause-there c =
    let arm = c.in-Some-Frame in
    next_there c.loop-port.invariant c.requires.there (omega (arith, c.len.ensures, c.loop-port-test.true)) c.requires.count (Frame arm.n) c.take.new.self (rw arm.field-0-is at arm.ensures)

pub loop-port-preserved-in-Some-Frame : goal.loop-port-preserved-in-Some-Frame
loop-port-preserved-in-Some-Frame c =
    let arm = c.in-Some-Frame in
    let item = Frame arm.n in
    moved_more c.loop-port.invariant c.requires.there (omega (arith, c.len.ensures, c.loop-port-test.true)) c.requires.count item c.take.new.self (rw arm.field-0-is at arm.ensures)
    (queued_item c.args.ports.now c.args.hist.now.rows (number_of c.args.port) item) c.put_frame.new.into refl c.put_frame.ensures

pub loop-port-preserved : goal.loop-port-preserved
loop-port-preserved c =
    let arm = c.in-Some-Probe in
    let item = Probe arm.due arm.target arm.vid in
    moved_more c.loop-port.invariant c.requires.there (omega (arith, c.len.ensures, c.loop-port-test.true)) c.requires.count item c.take.new.self (rw arm.field-0-is at arm.ensures)
    (queued_item c.args.ports.now c.args.hist.now.rows (number_of c.args.port) item) c.put_probe.new.into refl c.put_probe.ensures

pub unreachable-requires : goal.unreachable-requires
unreachable-requires c = never_none c.loop-port.invariant c.requires.there (omega (arith, c.len.ensures, c.loop-port-test.true)) c.requires.count c.in-None.ensures.0
