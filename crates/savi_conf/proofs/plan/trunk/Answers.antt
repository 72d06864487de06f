use Rattle.std.proofs.Common.{SFits, w64, rules, ◌≡◌, ap, sym, to_z-of_z, ◌∙◌, get_or, length, pos, take, arith}
use Rattle.std.proofs.lemmas.List.{length-map, length-take-le, map_push, take_all, take_more}
use Rattle.savi_conf.specs.Requirements.{IsBetween}
use Rattle.savi_conf.proofs.VlansSaid.{numbers_rise, numbers_sorted}
use Rattle.savi_conf.proofs.plan.trunk.Goals as goal

pub push-requires : goal.push-requires
push-requires c =
    let size : length c.loop-number.vlans.items ≡ length (take c.loop-number.number-index c.args.numbers.now) = sym (length-map c.loop-number.vlans.items (λ v. pos v)) ∙ ap length c.loop-number.invariant in
    omega (arith, size, length-take-le c.loop-number.number-index c.args.numbers.now (omega (arith, c.loop-number-test.true)), c.loop-number-test.true, c.requires.few)

pub vlan_number-requires : goal.vlan_number-requires
vlan_number-requires c =
    let number = get_or c.args.numbers.now c.loop-number.number-index (pos 0) in
    let fits : SFits w64 number = search rules in
    let between : IsBetween 1 4094 number = c.requires.numbers.range c.loop-number.number-index (pos 0) c.loop-number-test.true in
    rw (to_z-of_z fits) between

pub loop-number-preserved : goal.loop-number-preserved
loop-number-preserved c =
    let number = get_or c.args.numbers.now c.loop-number.number-index (pos 0) in
    let fits : SFits w64 number = search rules in
    let is : pos c.vlan_number.result ≡ number = simp to_z-of_z at c.vlan_number.ensures in
    rw (c.push.ensures.items, map_push, c.loop-number.invariant, is, take_more c.args.numbers.now c.loop-number.number-index (pos 0) c.loop-number-test.true)

pub returns-clause-permutation : goal.returns-clause-permutation
returns-clause-permutation c =
    numbers_sorted c.args.numbers.now c.loop-number.vlans.items c.sort_vlans.new.vlans.items
    (c.loop-number.invariant ∙ take_all c.loop-number.number-index c.args.numbers.now c.loop-number-test.false) c.sort_vlans.ensures.permutation

pub returns-clause-order : goal.returns-clause-order
returns-clause-order c =
    numbers_rise c.args.numbers.now c.loop-number.vlans.items c.sort_vlans.new.vlans.items
    (c.loop-number.invariant ∙ take_all c.loop-number.number-index c.args.numbers.now c.loop-number-test.false) c.requires.numbers.different c.sort_vlans.ensures.permutation c.sort_vlans.ensures.order
