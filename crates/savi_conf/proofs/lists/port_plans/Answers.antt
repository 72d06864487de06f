use Rattle.savi_conf.specs.PlanOf.{IsPortOf}
use Rattle.savi_conf.proofs.InOrder.{SayInOrder-map, ports_have_few, ports_have_vlans, ports_rise}
use Rattle.savi_conf.proofs.PartsLemmas.{view_of}
use Rattle.savi_conf.proofs.lists.port_plans.Goals as goal

pub returns-clause-lists : goal.returns-clause-lists
returns-clause-lists c = record {
  said = c.in_ok-plans.plans.items;
  in_order = SayInOrder-map IsPortOf (λ t. view_of t) c.args.tables.now _ c.in_ok-plans.ensures;
  permutation = c.sort_ports.ensures.permutation;
}

pub returns-clause-order : goal.returns-clause-order
returns-clause-order c =
    ports_rise c.args.tables.now _ c.sort_ports.new.plans.items c.in_ok-plans.ensures c.sort_ports.ensures.permutation c.sort_ports.ensures.order c.requires.different

pub returns-clause-vlans : goal.returns-clause-vlans
returns-clause-vlans c =
    ports_have_vlans c.args.tables.now _ c.sort_ports.new.plans.items c.in_ok-plans.ensures c.sort_ports.ensures.permutation c.requires.each c.requires.trusted

pub returns-clause-few : goal.returns-clause-few
returns-clause-few c = ports_have_few c.args.tables.now _ c.sort_ports.new.plans.items c.in_ok-plans.ensures c.sort_ports.ensures.permutation c.requires.few
