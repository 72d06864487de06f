use Rattle.control_replies.proofs.Bounds.{counters_size}
use Rattle.control_replies.proofs.laws.counters_fit.Goals as goal

pub returns : goal.returns
returns c = counters_size
