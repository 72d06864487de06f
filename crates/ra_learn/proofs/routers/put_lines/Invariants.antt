use Rattle.std.proofs.Common.{◌≡◌, ◌+◌, ◌*◌, ◌≤◌, ◌++◌, flat_map, length, take, vec_capacity}
use Rattle.ra_learn.specs.Printed.{router_line}
use Rattle.ra_learn.specs.Tables.{routers_at}
use Rattle.ra_learn.proofs.routers.put_lines.Given as goal

abbrev pub invariant-loop-router : goal.invariant-loop-router
invariant-loop-router l = record {
  items : l.text.items ≡ l.fn.text.items ++ flat_map router_line (routers_at l.t (take l.router-index l.routers));
  len : length l.text.items ≤ length l.fn.text.items + 96 * l.router-index;
  capacity : vec_capacity l.fn.text ≤ vec_capacity l.text;
}
