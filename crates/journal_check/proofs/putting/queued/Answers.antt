use Rattle.std.proofs.Common.{arith}
use Rattle.journal_check.proofs.putting.queued.Goals as goal

pub returns-clause-few : goal.returns-clause-few
returns-clause-few c =
    let depth = c.history-history.ensures.valid.depth.1 in
    let short = c.len-entries.ensures.within c.args.port c.requires in
    omega (arith, c.queued.ensures, short, depth)
