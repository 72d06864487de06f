use Rattle.nd_read.proofs.ReadingOf.{nd_is, nd_only}
use Rattle.nd_read.proofs.laws.a_message_has_its_reading.Goals as goal

pub returns-clause-reading : goal.returns-clause-reading
returns-clause-reading c = nd_is

pub returns-clause-only : goal.returns-clause-only
returns-clause-only c = nd_only
