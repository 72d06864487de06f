use Rattle.frame_class.proofs.ClassIs.{class_is, class_only}
use Rattle.frame_class.proofs.laws.a_frame_has_its_class.Goals as goal

pub returns-clause-reading : goal.returns-clause-reading
returns-clause-reading c = class_is

pub returns-clause-only : goal.returns-clause-only
returns-clause-only c = class_only
