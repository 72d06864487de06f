use Rattle.std.proofs.Common.{refl}
use Rattle.savi_core.specs.Machines.{base_of}
use Rattle.savi_history.specs.Shown.{counts_of}
use Rattle.switch_run.proofs.Concluding.{summed_by}
use Rattle.switch_run.proofs.summing.sum_up.Goals as goal

pub returns : goal.returns
returns c =
    summed_by c.args.entries (counts_of (base_of c.args.core.now) c.args.core.now.past)
    (record {
      entries = c.args.entries;
      frames = c.saturating_add.result;
      passed = c.count-passed.result;
      dropped = c.all_dropped-dropped.result;
      cut = c.count.result;
      probes = c.count-2.result;
      lost = c.count-3.result;
    })
    refl c.count-passed.ensures c.all_dropped-dropped.ensures c.saturating_add.ensures c.count.ensures c.count-2.ensures c.count-3.ensures
