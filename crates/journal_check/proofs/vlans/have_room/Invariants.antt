use Rattle.std.proofs.Common.{◌≡◌, ◌≤◌, length, take, fold}
use Rattle.std.specs.BTreeSet.{insert_key}
use Rattle.std.specs.Ordering.{nat_cmp}
use Rattle.savi_kinds.specs.Vlans.{numbers_of_vlan, vlans_of_ports}
use Rattle.journal_check.proofs.vlans.have_room.Given as goal

abbrev pub invariant-loop-number : goal.invariant-loop-number
invariant-loop-number l = record {
  vlans : l.vlans.items ≡ fold (insert_key nat_cmp) (vlans_of_ports l.ports) (take l.number-index (numbers_of_vlan l.vlan));
  few : length l.vlans.items ≤ 8;
}
