use Rattle.std.proofs.Common.{ap, ◌∙◌}
use Rattle.control_replies.specs.Counting.{counter_at}
use Rattle.savi_core.proofs.machine.Core.count.Goals as goal

pub returns : goal.returns
returns c = c.at.ensures ∙ ap (counter_at c.args.i) c.counts.ensures
