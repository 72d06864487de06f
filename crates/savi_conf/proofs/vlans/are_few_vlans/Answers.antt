use Rattle.std.proofs.Common.{◌≡◌, [], length, map, refl}
use Rattle.std.proofs.lemmas.Bool.{false≢true}
use Rattle.std.proofs.lemmas.List.{length-map}
use Rattle.savi_conf.proofs.Gathered.{are_few, are_many, lists_stopped, lists_whole, none_yet, thing_more}
use Rattle.savi_conf.proofs.vlans.are_few_vlans.Goals as goal

pub loop-numbers-init : goal.loop-numbers-init
loop-numbers-init c = rw c.new-gathered.ensures (none_yet [])

pub returns-then-not-are_gathered : goal.returns-then-not-are_gathered
returns-then-not-are_gathered c =
    let more =
    thing_more (λ v. v.items) [] _ _ c.args.vlans.now c.loop-numbers.numbers-index c.numbers-item.result _ c.loop-numbers-test.true c.numbers-item.is c.loop-numbers.invariant
    (rw (c.if-not-are_gathered.true, c.as_slice.ensures.value) at c.are_gathered.ensures) in
    let stopped = lists_stopped [] _ (map (λ v. v.items) c.args.vlans.now) _ more in
    (λ no. absurd (false≢true no), λ few. absurd (are_many _ _ stopped few))

pub loop-numbers-preserved : goal.loop-numbers-preserved
loop-numbers-preserved c =
    thing_more (λ v. v.items) [] _ _ c.args.vlans.now c.loop-numbers.numbers-index c.numbers-item.result _ c.loop-numbers-test.true c.numbers-item.is c.loop-numbers.invariant
    (rw (c.if-not-are_gathered.false, c.as_slice.ensures.value) at c.are_gathered.ensures)

pub returns : goal.returns
returns c =
    let all : length (map (λ v. v.items) c.args.vlans.now) ≡ length c.args.vlans.now = length-map c.args.vlans.now (λ v. v.items) in
    let gathered = lists_whole [] _ (map (λ v. v.items) c.args.vlans.now) c.loop-numbers.numbers-index (rw all c.loop-numbers-test.false) c.loop-numbers.invariant in
    (λ _. are_few _ _ gathered, λ _. refl)
