use Rattle.ra_learn.proofs.PrefixRanges.{size-fits, size-most}
use Rattle.ra_learn.proofs.options.size_of.Goals as goal

pub returns-clause-most : goal.returns-clause-most
returns-clause-most c = rw (size-fits c.args.bits c.requires.least) (size-most c.args.bits c.requires.least)
