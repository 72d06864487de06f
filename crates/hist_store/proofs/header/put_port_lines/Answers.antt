use Rattle.std.proofs.Common.{arith}
use Rattle.hist_store.specs.JournalTexts.{journal_port_fields}
use Rattle.hist_store.proofs.LineLemmas.{written_next}
use Rattle.hist_store.proofs.header.put_port_lines.Goals as goal

pub put_port_line-requires : goal.put_port_line-requires
put_port_line-requires c = record {
  vlans = rw c.port-item.is (c.requires.vlans c.loop-port.port-index c.port-item.result c.loop-port-test.true);
  room = omega (arith, c.loop-port.invariant.size, c.loop-port-test.true, c.requires.room);
}

pub loop-port-preserved : goal.loop-port-preserved
loop-port-preserved c =
    let was = c.loop-port.invariant in
    record {
      text = written_next journal_port_fields c.args.ports.now c.loop-port.port-index c.port-item.result c.args.into.now.items c.loop-port.into.items c.put_port_line.new.into.items c.loop-port-test.true c.port-item.is was.text c.put_port_line.ensures.text;
      size = omega (arith, was.size, c.put_port_line.ensures.size);
    }
