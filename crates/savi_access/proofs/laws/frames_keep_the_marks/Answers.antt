use Rattle.savi_access.proofs.Keeping.{judged_marks}
use Rattle.savi_access.proofs.laws.frames_keep_the_marks.Goals as goal

pub returns : goal.returns
returns c = λ r base vlan port t past class is right after early short own. judged_marks r base is vlan port t early past right after class short own
