use Rattle.std.proofs.Common.{SFits, w64, rules, ℤ, List, [], length, pos, map, subst, sym, to_z-of_z, ◌≤◌, ◌≡◌, ◌∙◌}
use Rattle.std.specs.List.Sorted.{IsPermutation}
use Rattle.std.proofs.lemmas.List.Elements.{All-head}
use Rattle.toml.specs.View.{table_view}
use Rattle.savi_conf.specs.Requirements.{AreVlanNumbers, IsBetween, trunk_in, vlan_in}
use Rattle.savi_conf.proofs.VlansSaid.{access_numbers, says_trunk, trunk_numbers}
use Rattle.savi_conf.proofs.plan.port_vlan.Goals as goal

pub trunk-requires-clause-numbers : goal.trunk-requires-clause-numbers
trunk-requires-clause-numbers c =
    rw c.as_slice.ensures.value
    (subst AreVlanNumbers (trunk_numbers (table_view c.args.table.now) c.in-Some.numbers.items (rw c.in-Some.is at c.in_ok-numbers.ensures)) c.requires.numbers)

pub trunk-requires-clause-few : goal.trunk-requires-clause-few
trunk-requires-clause-few c =
    rw c.as_slice.ensures.value
    (subst (λ (zs : List ℤ). length zs ≤ 8) (trunk_numbers (table_view c.args.table.now) c.in-Some.numbers.items (rw c.in-Some.is at c.in_ok-numbers.ensures)) c.requires.few)

pub returns-in-Some : goal.returns-in-Some
returns-in-Some c = (
  says_trunk (trunk_in (table_view c.args.table.now)) c.in-Some.numbers.items (λ zs. IsPermutation zs (map (λ v. pos v) c.trunk.result.items)) (rw c.in-Some.is at c.in_ok-numbers.ensures) (rw c.as_slice.ensures.value at c.trunk.ensures.permutation),
  c.trunk.ensures.order,
)

pub vlan_number-requires : goal.vlan_number-requires
vlan_number-requires c =
    let t = table_view c.args.table.now in
    let fits : SFits w64 c.vlan.result = search rules in
    let numbers = subst AreVlanNumbers (access_numbers t (rw c.in-None.is at c.in_ok-numbers.ensures)) c.requires.numbers in
    let between : IsBetween 1 4094 c.vlan.result = rw c.vlan.ensures (All-head (IsBetween 1 4094) (vlan_in t) [] numbers.range) in
    rw (to_z-of_z fits) between

pub returns-in-None : goal.returns-in-None
returns-in-None c =
    let fits : SFits w64 c.vlan.result = search rules in
    let number : pos c.vlan_number.result ≡ c.vlan.result = simp to_z-of_z at c.vlan_number.ensures in
    (sym (rw c.in-None.is at c.in_ok-numbers.ensures), sym c.vlan.ensures ∙ sym number)
