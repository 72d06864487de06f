use Rattle.std.proofs.lemmas.Bool.{false≢true}
use Rattle.v4_snoop.proofs.inner_frame.outer_header.Goals as goal

pub unreachable-requires : goal.unreachable-requires
unreachable-requires c = absurd (false≢true (c.in-Err.ensures.read.1 (c.requires.least, c.requires.most)))
