use Rattle.std.proofs.Common.{◌≡◌, ◌<◌, ℕ, length, get_or, Some, None}
use Rattle.savi_kinds.specs.Vlans.{vlan_among}
use Rattle.savi_kinds.specs.declared.plan.Vlan.TheVariants.{Access}
use Rattle.v4_snoop.proofs.port_vlans.access_vlans.Given as goal

abbrev pub invariant-loop-number : goal.invariant-loop-number
invariant-loop-number l = record {
  size : length l.vlans ≡ 17;
  filled : (n vlan : ℕ) → n < l.number → vlan_among l.ports n ≡ Some (Access vlan) → get_or l.vlans n None ≡ Some vlan;
}
