use Rattle.std.proofs.lemmas.Bool.{false≢true}
use Rattle.audit_run.proofs.inner_kind.outer_kind.Goals as goal

pub unreachable-requires : goal.unreachable-requires
unreachable-requires c = absurd (false≢true (c.in-Err.ensures.read.1 (c.requires.least, c.requires.most)))
