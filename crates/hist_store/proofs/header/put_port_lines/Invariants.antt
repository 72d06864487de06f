use Rattle.std.proofs.Common.{◌≡◌, ◌+◌, ◌*◌, ◌≤◌, ◌++◌, length, take, map}
use Rattle.hist_store.specs.TextOfLines.{lines_text}
use Rattle.hist_store.specs.JournalTexts.{journal_port_fields}
use Rattle.hist_store.proofs.header.put_port_lines.Given as goal

abbrev pub invariant-loop-port : goal.invariant-loop-port
invariant-loop-port l = record {
  text : l.into.items ≡ l.initial.into.items ++ lines_text (map journal_port_fields (take l.port-index l.ports));
  size : length l.into.items ≤ length l.initial.into.items + 69 * l.port-index;
}
