use Rattle.std.proofs.Common.{length}
use Rattle.journal_check.proofs.apart.+first_apart.Given as goal

abbrev pub decreases-first_apart : goal.decreases-first_apart
decreases-first_apart l = length l.want.now
