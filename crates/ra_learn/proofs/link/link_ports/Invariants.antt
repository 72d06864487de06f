use Rattle.std.proofs.Common.{◌≡◌, ◌≤◌, ℕ, take}
use Rattle.std.specs.List.{list_any}
use Rattle.savi_kinds.specs.PortSets.{is_member}
use Rattle.ra_learn.specs.Link.{is_link_port_at}
use Rattle.ra_learn.proofs.link.link_ports.Given as goal

abbrev pub invariant-loop-port : goal.invariant-loop-port
invariant-loop-port l = (n : ℕ) → 1 ≤ n → is_member l.link n ≡ list_any (is_link_port_at n) (take l.port-index l.ports)
