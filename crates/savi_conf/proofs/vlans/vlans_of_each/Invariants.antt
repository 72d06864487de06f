use Rattle.std.proofs.Common.{◌≡◌, map, take}
use Rattle.toml.specs.View.{table_view}
use Rattle.savi_conf.specs.Requirements.{vlans_in}
use Rattle.savi_conf.proofs.vlans.vlans_of_each.Given as goal

abbrev pub invariant-loop-port : goal.invariant-loop-port
invariant-loop-port l = map (λ numbers. numbers.items) l.vlans.items ≡ map (λ t. vlans_in (table_view t.now)) (take l.port-index l.ports)
