use Rattle.std.proofs.Common.{arith}
use Rattle.control_replies.proofs.Counting.{counted_at}
use Rattle.control_replies.proofs.counts.Counts.at.Goals as goal

pub returns-in_default : goal.returns-in_default
returns-in_default c = counted_at c.args.self.now c.args.i (omega (arith, c.requires))
