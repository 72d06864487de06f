use Rattle.savi_conf.proofs.InOrder.{SayInOrder-more, SaysPort}
use Rattle.savi_conf.proofs.lists.told_ports.Goals as goal

pub loop-table-preserved : goal.loop-table-preserved
loop-table-preserved c =
    rw c.in_ok-push.ensures.items (SayInOrder-more SaysPort c.args.tables.now c.loop-table.plans.items c.loop-table.table-index c.table-item.result _ c.loop-table-test.true c.table-item.is c.loop-table.invariant c.in_ok-port_plan.ensures)
