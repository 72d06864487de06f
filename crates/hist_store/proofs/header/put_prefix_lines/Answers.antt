use Rattle.std.proofs.Common.{arith}
use Rattle.hist_store.specs.JournalTexts.{address_text, prefix_fields}
use Rattle.hist_store.proofs.LineLemmas.{written_each}
use Rattle.hist_store.proofs.header.put_prefix_lines.Goals as goal

pub put_prefix_line-requires : goal.put_prefix_line-requires
put_prefix_line-requires c = record {
  vlan = c.requires.vlans c.loop-prefix.prefix-index _ c.loop-prefix-test.true;
  room = omega (arith, c.loop-prefix.invariant.size, c.loop-prefix-test.true, c.requires.room);
}

pub loop-prefix-preserved : goal.loop-prefix-preserved
loop-prefix-preserved c =
    let was = c.loop-prefix.invariant in
    record {
      text = written_each (prefix_fields address_text) c.args.prefixes.now c.loop-prefix.prefix-index _ c.args.into.now.items c.loop-prefix.into.items c.put_prefix_line.new.into.items c.loop-prefix-test.true was.text c.put_prefix_line.ensures.text;
      size = omega (arith, was.size, c.put_prefix_line.ensures.size);
    }
