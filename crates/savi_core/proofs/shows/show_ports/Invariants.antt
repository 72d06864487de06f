use Rattle.std.proofs.Common.{◌≡◌, ◌*◌, ◌≤◌, length, take, map}
use Rattle.savi_kinds.specs.declared.plan.PortPlan.{PortPlan}
use Rattle.hist_store.specs.TextOfLines.{lines_text}
use Rattle.control_replies.specs.Shows.{port_fields}
use Rattle.savi_core.specs.Shows.{kept_row}
use Rattle.savi_core.proofs.shows.show_ports.Given as goal

abbrev pub invariant-loop-port : goal.invariant-loop-port
invariant-loop-port l = record {
  text : l.into ≡ lines_text (map (λ (port : PortPlan). port_fields (kept_row l.sets l.queues l.ports l.t port)) (take l.port-index l.ports.ports));
  size : length l.into ≤ 79 * l.port-index;
}
