use Rattle.std.proofs.Common.{◌≡◌, ◌<◌, List, length, get_or, fold, refl, sym, ap, subst, ◌∙◌, arith}
use Rattle.std.proofs.lemmas.List.{get_or_default, take_all}
use Rattle.savi_access.specs.Plans.{rules_of}
use Rattle.access_table.specs.Kept.{IsAgedTo, Represents}
use Rattle.savi_core.specs.declared.vlan_set.VlanSet.{VlanSet}
use Rattle.savi_core.specs.Rings.{rings_after_probe}
use Rattle.savi_core.specs.VlanSets.{IsStillAt}
use Rattle.savi_core.proofs.Ageing.{round}
use Rattle.savi_core.proofs.AgedTo.{sent_more}
use Rattle.savi_core.proofs.SetLoops.{first_there, one_before, one_less, stations_at}
use Rattle.savi_core.proofs.judging.age_each.Goals as goal

pub loop-place-preserved : goal.loop-place-preserved
loop-place-preserved c =
    let r = rules_of c.args.plan.now in
    let t = c.args.t in
    let old = c.args.sets.now in
    let sets = c.loop-place.sets in
    let i = c.loop-place.place in
    let was = c.loop-place.invariant in
    let here : VlanSet = get_or c.loop-place.sets c.loop-place.place c.index-sets-place.result in
    let one : VlanSet = record here { access = c.age_to.new.self } in
    let inside : c.loop-place.place < length c.loop-place.sets = omega (arith, c.loop-place-test.true, was.left.size) in
    let at : here ≡ get_or c.loop-place.sets c.loop-place.place here = get_or_default sets i c.index-sets-place.result here inside in
    let there : here ≡ get_or c.args.sets.now c.loop-place.place here = first_there i old sets here here was.left inside at in
    let first : c.loop-place.place < length c.args.sets.now = omega (arith, inside, was.left.size) in
    record {
      left = one_less i old sets one was.left;
      rest = stations_at sets i here one at c.age_to.ensures.vlan refl ∙ was.rest;
      still = one_before (IsStillAt t) i sets one inside was.still c.age_to.ensures.still;
      ready = λ from all.
          one_before (λ (s : VlanSet). IsAgedTo (rules_of c.args.plan.now) c.args.t s.access) i sets one inside (was.ready from all)
          (c.age_to.ensures.ready r from (subst (λ (s : VlanSet). IsAgedTo (rules_of c.args.plan.now) from s.access) (sym there) (all i here first)));
      kept = λ from base past all order.
          one_before (λ (s : VlanSet). Represents (rules_of c.args.plan.now) base past c.args.t s.access) i sets one inside (was.kept from base past all order)
          (c.age_to.ensures.kept r base past from (subst (λ (s : VlanSet). Represents (rules_of c.args.plan.now) base past from s.access) (sym there) (all i here first)) order);
      sent = λ from base past all order.
          sent_more r base past from t old i here c.args.queues.now c.loop-place.queues c.age_to.new.sink first there (was.sent from base past all order)
          (c.age_to.ensures.sent r base past from (subst (λ (s : VlanSet). Represents (rules_of c.args.plan.now) base past from s.access) (sym there) (all i here first)) order);
    }

pub returns-clause-ready : goal.returns-clause-ready
returns-clause-ready c = λ from all. λ k d inside. c.loop-place.invariant.ready from all k d (omega (arith, inside, c.loop-place-test.false, c.loop-place.invariant.left.size))

pub returns-clause-kept : goal.returns-clause-kept
returns-clause-kept c = λ from base past all order. λ k d inside.
    c.loop-place.invariant.kept from base past all order k d (omega (arith, inside, c.loop-place-test.false, c.loop-place.invariant.left.size))

pub returns-clause-sent : goal.returns-clause-sent
returns-clause-sent c = λ from base past all order.
    c.loop-place.invariant.sent from base past all order
    ∙ ap (λ (sets : List VlanSet). fold rings_after_probe c.args.queues.now (round (rules_of c.args.plan.now) base past from c.args.t sets))
    (take_all c.loop-place.place c.args.sets.now (omega (arith, c.loop-place-test.false, c.loop-place.invariant.left.size)))
