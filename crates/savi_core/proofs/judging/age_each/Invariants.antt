use Rattle.std.proofs.Common.{◌≡◌, ℕ, ◌≤◌, List, fold, map, take}
use Rattle.std.specs.List.{flat_map}
use Rattle.savi_access.specs.Rules.{AccessBase}
use Rattle.savi_access.specs.Marks.{Mark, told}
use Rattle.savi_access.specs.Plans.{rules_of}
use Rattle.savi_access.specs.Probes.{probes_between}
use Rattle.access_table.specs.Kept.{IsAgedTo, Represents}
use Rattle.savi_history.specs.Offers.{offer_of}
use Rattle.savi_core.specs.Rings.{rings_after_probe}
use Rattle.savi_core.specs.VlanSets.{AllRepresent, AreAgedTo, IsStillAt, stations_of_sets, vlans_of_sets}
use Rattle.savi_core.proofs.SetLoops.{AllBefore, IsSameFrom}
use Rattle.savi_core.proofs.judging.age_each.Given as goal

abbrev pub invariant-loop-place : goal.invariant-loop-place
invariant-loop-place l = record {
  left : IsSameFrom l.place l.initial.sets l.sets;
  rest : stations_of_sets l.sets ≡ stations_of_sets l.initial.sets;
  still : AllBefore (IsStillAt l.t) l.place l.sets;
  ready : (from : ℕ) → AreAgedTo (rules_of l.plan) from l.initial.sets → AllBefore (λ set. IsAgedTo (rules_of l.plan) l.t set.access) l.place l.sets;
  kept : (from : ℕ) (base : AccessBase) (past : List Mark) → AllRepresent (rules_of l.plan) base past from l.initial.sets → from ≤ l.t → AllBefore (λ set. Represents (rules_of l.plan) base past l.t set.access) l.place l.sets;
  sent : (from : ℕ) (base : AccessBase) (past : List Mark) → AllRepresent (rules_of l.plan) base past from l.initial.sets → from ≤ l.t
      → l.queues ≡ fold rings_after_probe l.initial.queues (flat_map (λ vlan. map (offer_of vlan) (probes_between (rules_of l.plan).addresses base.addresses (told past) from l.t vlan)) (vlans_of_sets (take l.place l.initial.sets)));
}
