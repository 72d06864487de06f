use Rattle.std.proofs.Common.{◌≡◌, [], take}
use Rattle.std.specs.List.{fold}
use Rattle.std.specs.Ordering.{nat_cmp}
use Rattle.std.specs.BTreeSet.{insert_key}
use Rattle.savi_kinds.proofs.VlanSets.{numbers_in}
use Rattle.savi_kinds.proofs.vlan.vlans_of_ports.Given as goal

abbrev pub invariant-loop-port : goal.invariant-loop-port
invariant-loop-port l = l.vlans.items ≡ fold (insert_key nat_cmp) [] (numbers_in (take l.port-index l.ports))
