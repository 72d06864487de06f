use Rattle.std.proofs.Common.{◌≡◌, ◌+◌, ◌*◌, ◌≤◌, ◌++◌, length, take, map}
use Rattle.hist_store.specs.TextOfLines.{lines_text}
use Rattle.hist_store.specs.JournalTexts.{address_text, prefix_fields}
use Rattle.hist_store.proofs.header.put_prefix_lines.Given as goal

abbrev pub invariant-loop-prefix : goal.invariant-loop-prefix
invariant-loop-prefix l = record {
  text : l.into.items ≡ l.initial.into.items ++ lines_text (map (prefix_fields address_text) (take l.prefix-index l.prefixes));
  size : length l.into.items ≤ length l.initial.into.items + 67 * l.prefix-index;
}
