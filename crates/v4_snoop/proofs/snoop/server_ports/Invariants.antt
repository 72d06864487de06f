use Rattle.std.proofs.Common.{◌≡◌, ◌≤◌, ℕ, take}
use Rattle.std.specs.List.{list_any}
use Rattle.savi_kinds.specs.PortSets.{is_member}
use Rattle.v4_snoop.specs.Reasons.{has_role_at, is_server_role}
use Rattle.v4_snoop.proofs.snoop.server_ports.Given as goal

abbrev pub invariant-loop-port : goal.invariant-loop-port
invariant-loop-port l = (n : ℕ) → 1 ≤ n → is_member l.servers n ≡ list_any (has_role_at is_server_role n) (take l.port-index l.ports)
