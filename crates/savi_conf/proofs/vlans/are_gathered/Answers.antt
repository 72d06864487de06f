use Rattle.std.proofs.Common.{SFits, w64, rules, get_or, pos, to_z-of_z}
use Rattle.savi_conf.proofs.Gathered.{none_yet, one_more, stopped_at, whole}
use Rattle.savi_conf.proofs.vlans.are_gathered.Goals as goal

pub loop-number-init : goal.loop-number-init
loop-number-init c = none_yet c.args.gathered.now.items

pub returns-then-not-is_gathered : goal.returns-then-not-is_gathered
returns-then-not-is_gathered c =
    let number = get_or c.args.numbers.now c.loop-number.number-index (pos 0) in
    let fits : SFits w64 number = search rules in
    let here = rw c.if-not-is_gathered.true at (simp to_z-of_z at c.is_gathered.ensures) in
    stopped_at _ _ _ c.args.numbers.now c.loop-number.number-index (pos 0) c.loop-number-test.true c.loop-number.invariant here

pub loop-number-preserved : goal.loop-number-preserved
loop-number-preserved c =
    let number = get_or c.args.numbers.now c.loop-number.number-index (pos 0) in
    let fits : SFits w64 number = search rules in
    let here = rw c.if-not-is_gathered.false at (simp to_z-of_z at c.is_gathered.ensures) in
    one_more _ _ _ c.args.numbers.now c.loop-number.number-index (pos 0) _ c.loop-number-test.true c.loop-number.invariant here

pub returns : goal.returns
returns c = whole _ _ c.args.numbers.now c.loop-number.number-index c.loop-number-test.false c.loop-number.invariant
