use Rattle.std.proofs.Common.{length}
use Rattle.nd_read.proofs.OptionLists.{Continues}
use Rattle.nd_read.proofs.options.names_source.Given as goal

abbrev pub invariant-option : goal.invariant-option
invariant-option l = Continues l.octets l.rest l.found

abbrev pub decreases-option : goal.decreases-option
decreases-option l = length l.rest
