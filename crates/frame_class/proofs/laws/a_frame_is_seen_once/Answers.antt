use Rattle.frame_class.proofs.SeenIs.{seen_is, seen_only}
use Rattle.frame_class.proofs.laws.a_frame_is_seen_once.Goals as goal

pub returns-clause-reading : goal.returns-clause-reading
returns-clause-reading c = seen_is

pub returns-clause-only : goal.returns-clause-only
returns-clause-only c = seen_only
