use Rattle.std.proofs.Common.{◌≡◌, ◌+◌, ◌*◌, ◌≤◌, ◌++◌, flat_map, length, take, vec_capacity}
use Rattle.ra_learn.specs.Link.{link_ports}
use Rattle.ra_learn.specs.Printed.{learned_port_line}
use Rattle.ra_learn.proofs.report.put_ports.Given as goal

abbrev pub invariant-loop-port : goal.invariant-loop-port
invariant-loop-port l = record {
  items : l.text.items ≡ l.fn.text.items ++ flat_map (learned_port_line l.learner l.moment) (link_ports (take l.port-index l.ports));
  len : length l.text.items ≤ length l.fn.text.items + 96 * l.port-index;
  capacity : vec_capacity l.fn.text ≤ vec_capacity l.text;
}
