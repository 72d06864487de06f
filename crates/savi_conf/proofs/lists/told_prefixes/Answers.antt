use Rattle.savi_conf.proofs.InOrder.{SayInOrder-more, SaysPrefix}
use Rattle.savi_conf.proofs.lists.told_prefixes.Goals as goal

pub loop-table-preserved : goal.loop-table-preserved
loop-table-preserved c =
    rw c.in_ok-push.ensures.items (SayInOrder-more SaysPrefix c.args.tables.now c.loop-table.plans.items c.loop-table.table-index c.table-item.result _ c.loop-table-test.true c.table-item.is c.loop-table.invariant c.prefix_plan.ensures)
