use Rattle.std.proofs.Common.{sym, ap, ◌∙◌, get_or}
use Rattle.std.proofs.lemmas.Bool.{false≢true}
use Rattle.std.proofs.lemmas.List.Sums.{fold_more}
use Rattle.std.specs.BTreeSet.{insert_key}
use Rattle.std.specs.Ordering.{nat_cmp}
use Rattle.savi_kinds.proofs.VlanSets.{no_room, puts_too_many}
use Rattle.savi_kinds.proofs.vlan.add_vlans.Goals as goal

pub returns-then-not-add_vlan-clause-added : goal.returns-then-not-add_vlan-clause-added
returns-then-not-add_vlan-clause-added c = λ yes. absurd (false≢true yes)

pub returns-then-not-add_vlan-clause-full : goal.returns-then-not-add_vlan-clause-full
returns-then-not-add_vlan-clause-full c = λ _.
    puts_too_many c.args.vlans.now.items c.args.numbers.now c.loop-number.number-index 0 c.loop-number-test.true
    (rw c.loop-number.invariant at (no_room _ c.add_vlan.result c.if-not-add_vlan.true c.add_vlan.ensures.added))

pub loop-number-preserved : goal.loop-number-preserved
loop-number-preserved c =
    rw c.if-not-add_vlan.false at c.add_vlan.ensures.vlans
    ∙ ap (λ vlans. insert_key nat_cmp vlans (get_or c.args.numbers.now c.loop-number.number-index 0)) c.loop-number.invariant
    ∙ sym (fold_more (insert_key nat_cmp) c.args.vlans.now.items c.args.numbers.now c.loop-number.number-index 0 c.loop-number-test.true)
