use Rattle.std.proofs.Common.{arith, ◌-◌}
use Rattle.std.proofs.lemmas.Nat.{pow_pos}
use Rattle.std.proofs.Math.Facts.{Fits-lt-pow}
use Rattle.journal_check.proofs.RangeLemmas.{past-fits, size-fits}
use Rattle.journal_check.proofs.ranges.last_behind.Goals as goal

pub overflow_add-result : goal.overflow_add-result
overflow_add-result c =
    let len = c.args.len in
    rw (size-fits len c.requires.short) (omega (arith, past-fits c.args.net len c.requires.short c.requires.long (Fits-lt-pow c.ranges.net) c.requires.net, pow_pos (128 - len)))

pub returns : goal.returns
returns c =
    let len = c.args.len in
    rw (size-fits len c.requires.short) (omega (arith, pow_pos (128 - len)))
