use Rattle.std.proofs.Common.{◌≡◌, ◌+◌, ◌*◌, ◌≤◌, ◌++◌, flat_map, length, take, vec_capacity}
use Rattle.ra_learn.specs.Printed.{link_prefix_line}
use Rattle.ra_learn.specs.Tables.{prefixes_at}
use Rattle.ra_learn.proofs.prefixes.put_lines.Given as goal

abbrev pub invariant-loop-prefix : goal.invariant-loop-prefix
invariant-loop-prefix l = record {
  items : l.text.items ≡ l.fn.text.items ++ flat_map link_prefix_line (prefixes_at l.t (take l.prefix-index l.prefixes));
  len : length l.text.items ≤ length l.fn.text.items + 96 * l.prefix-index;
  capacity : vec_capacity l.fn.text ≤ vec_capacity l.text;
}
