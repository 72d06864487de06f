use Rattle.std.proofs.Common.{◌≡◌, true≢false, sym, ◌∙◌, subst, rules}
use Rattle.std.proofs.lemmas.Option.{none-some, same_Some}
use Rattle.savi_kinds.specs.declared.plan.PrefixPlan.{PrefixPlan}
use Rattle.savi_kinds.specs.ValidPlan.{IsPlanPrefix}
use Rattle.journal_check.proofs.LastListed.{IsLastPrefix, last_prefix_next, next_prefix_last}
use Rattle.journal_check.proofs.lists.Lists.read_prefix.Goals as goal

pub returns-then-is_plan_prefix-clause-read : goal.returns-then-is_plan_prefix-clause-read
returns-then-is_plan_prefix-clause-read c =
    let last : IsLastPrefix c.args.self.now.prefixes.items c.last_prefix.result = (c.last_prefix.ensures.none, c.last_prefix.ensures.some) in
    let read = c.in-Some.ensures.read in (
      record {
        some_port = search rules;
        few = search rules;
        plan_prefix = c.is_plan_prefix.ensures.plan_prefix.0 c.if-is_plan_prefix.true;
        address = c.is_plan_prefix.ensures.address;
        vlan = read.2;
        past = last_prefix_next c.args.self.now.prefixes.items c.last_prefix.result c.in-Some.plan last read.3;
      },
      read.0,
    )

pub returns-else-is_plan_prefix-clause-none : goal.returns-else-is_plan_prefix-clause-none
returns-else-is_plan_prefix-clause-none c = λ next may e.
    let last : IsLastPrefix c.args.self.now.prefixes.items c.last_prefix.result = (c.last_prefix.ensures.none, c.last_prefix.ensures.some) in
    let stands = next_prefix_last c.args.self.now.prefixes.items c.last_prefix.result next last may.past in
    let same : c.in-Some.plan ≡ next = same_Some c.in-Some.plan next (c.in-Some.ensures.whole next may.address may.plan_prefix.prefix may.vlan stands e) in
    let yes = c.is_plan_prefix.ensures.plan_prefix.1 (subst (λ (p : PrefixPlan). IsPlanPrefix p.prefix) (sym same) may.plan_prefix) in
    true≢false (sym yes ∙ c.if-is_plan_prefix.false)

pub returns-in-None-clause-none : goal.returns-in-None-clause-none
returns-in-None-clause-none c = λ next may e.
    let last : IsLastPrefix c.args.self.now.prefixes.items c.last_prefix.result = (c.last_prefix.ensures.none, c.last_prefix.ensures.some) in
    let stands = next_prefix_last c.args.self.now.prefixes.items c.last_prefix.result next last may.past in
    none-some next (c.in-None.ensures.whole next may.address may.plan_prefix.prefix may.vlan stands e)
