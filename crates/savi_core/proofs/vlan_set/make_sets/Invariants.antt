use Rattle.std.proofs.Common.{◌≡◌, ℕ, [], All, take}
use Rattle.savi_kinds.specs.Vlans.{vlans_of}
use Rattle.savi_access.specs.Plans.{rules_of}
use Rattle.savi_access.specs.Rules.{nothing_yet}
use Rattle.savi_core.specs.VlanSets.{AllRepresent, AreAgedTo, vlans_of_sets}
use Rattle.savi_core.proofs.vlan_set.make_sets.Given as goal

abbrev pub invariant-loop-place : goal.invariant-loop-place
invariant-loop-place l = record {
  vlans : vlans_of_sets l.sets.items ≡ take l.place (vlans_of l.ports);
  start : AllRepresent (rules_of l.ports) nothing_yet [] 0 l.sets.items;
  ready : (t : ℕ) → AreAgedTo (rules_of l.ports) t l.sets.items;
  unknown : All (λ set. set.fdb ≡ []) l.sets.items;
}
