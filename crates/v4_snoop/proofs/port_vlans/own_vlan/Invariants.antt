use Rattle.std.proofs.Common.{◌≡◌, drop}
use Rattle.savi_kinds.specs.Vlans.{vlan_among}
use Rattle.v4_snoop.proofs.port_vlans.own_vlan.Given as goal

abbrev pub invariant-loop-port : goal.invariant-loop-port
invariant-loop-port l = vlan_among l.ports l.number ≡ vlan_among (drop l.port-index l.ports) l.number
