use Rattle.std.proofs.Common.{◌≡◌, ◌≤◌, ℕ, take}
use Rattle.std.specs.List.{list_any}
use Rattle.savi_kinds.specs.PortSets.{is_member}
use Rattle.ra_learn.specs.Guarding.{is_trusted_port}
use Rattle.ra_learn.proofs.learner.trusted_ports.Given as goal

abbrev pub invariant-loop-port : goal.invariant-loop-port
invariant-loop-port l = (n : ℕ) → 1 ≤ n → is_member l.trusted n ≡ list_any (is_trusted_port n) (take l.port-index l.ports)
