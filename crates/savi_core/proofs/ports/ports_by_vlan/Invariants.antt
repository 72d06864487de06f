use Rattle.std.proofs.Common.{◌≡◌, map, take}
use Rattle.savi_core.specs.PortTables.{ports_among}
use Rattle.savi_core.proofs.ports.ports_by_vlan.Given as goal

abbrev pub invariant-loop-vlan : goal.invariant-loop-vlan
invariant-loop-vlan l = l.by_vlan.items ≡ map (ports_among l.ports) (take l.vlan-index l.vlan-items)
