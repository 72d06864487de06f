use Rattle.std.proofs.Common.{◌≡◌, take}
use Rattle.std.specs.List.{fold}
use Rattle.std.specs.Ordering.{nat_cmp}
use Rattle.std.specs.BTreeSet.{insert_key}
use Rattle.savi_kinds.proofs.vlan.add_vlans.Given as goal

abbrev pub invariant-loop-number : goal.invariant-loop-number
invariant-loop-number l = l.vlans.items ≡ fold (insert_key nat_cmp) l.initial.vlans.items (take l.number-index l.numbers)
