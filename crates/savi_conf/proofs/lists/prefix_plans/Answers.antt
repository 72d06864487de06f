use Rattle.savi_conf.specs.PlanOf.{IsPrefixOf}
use Rattle.savi_conf.proofs.InOrder.{SayInOrder-map, are_plan_prefixes, are_prefix_vlans, prefixes_in_order}
use Rattle.savi_conf.proofs.PartsLemmas.{view_of}
use Rattle.savi_conf.proofs.lists.prefix_plans.Goals as goal

pub returns-clause-lists : goal.returns-clause-lists
returns-clause-lists c = record {
  said = c.in_ok-plans.plans.items;
  in_order = SayInOrder-map IsPrefixOf (λ t. view_of t) c.args.tables.now _ c.in_ok-plans.ensures;
  permutation = c.sort_prefixes.ensures.permutation;
}

pub returns-clause-planned : goal.returns-clause-planned
returns-clause-planned c =
    are_plan_prefixes c.args.tables.now _ c.sort_prefixes.new.plans.items c.in_ok-plans.ensures c.sort_prefixes.ensures.permutation c.requires.planned

pub returns-clause-vlans : goal.returns-clause-vlans
returns-clause-vlans c =
    are_prefix_vlans c.args.tables.now _ c.sort_prefixes.new.plans.items c.in_ok-plans.ensures c.sort_prefixes.ensures.permutation c.requires.each

pub returns-clause-order : goal.returns-clause-order
returns-clause-order c =
    prefixes_in_order c.args.tables.now _ c.sort_prefixes.new.plans.items c.in_ok-plans.ensures c.sort_prefixes.ensures.permutation c.sort_prefixes.ensures.order c.requires.apart
