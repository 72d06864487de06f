use Rattle.std.proofs.Common.{rules}
use Rattle.std.proofs.lemmas.List.Sorted.{answers_always}
use Rattle.savi_kinds.specs.declared.plan.PrefixPlan.{PrefixPlan}
use Rattle.savi_kinds.specs.Prefixes.{first_of}
use Rattle.savi_conf.proofs.lists.sort_prefixes.Goals as goal

pub returns-clause-order : goal.returns-clause-order
returns-clause-order c =
    c.sort_unstable_by_key.ensures.sorted (λ (p : PrefixPlan). (p.vlan, first_of p.prefix)) (answers_always _ _ _ (λ f a r q k. search rules))
