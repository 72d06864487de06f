use Rattle.std.proofs.Common.{sym}
use Rattle.savi_core.proofs.Ending.{all_open_among}
use Rattle.savi_core.proofs.passes.Passes.make.Goals as goal

pub invariant_of-result : goal.invariant_of-result
invariant_of-result c = (sym (all_open_among c.args.inputs), c.requires)
