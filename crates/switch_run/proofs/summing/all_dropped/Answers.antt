use Rattle.savi_core.specs.Machines.{base_of}
use Rattle.savi_history.specs.Shown.{counts_of}
use Rattle.switch_run.proofs.Concluding.{dropped_all, dropped_more}
use Rattle.switch_run.proofs.summing.all_dropped.Goals as goal

pub loop-i-preserved : goal.loop-i-preserved
loop-i-preserved c =
    dropped_more (counts_of (base_of c.args.core.now) c.args.core.now.past) c.loop-i.i c.loop-i.dropped c.count.result c.saturating_add-dropped.result
    c.loop-i-test.true c.loop-i.invariant c.count.ensures c.saturating_add-dropped.ensures

pub returns : goal.returns
returns c = dropped_all (counts_of (base_of c.args.core.now) c.args.core.now.past) c.loop-i.i c.loop-i.dropped c.loop-i-test.false c.loop-i.invariant
