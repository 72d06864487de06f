use Rattle.savi_access.proofs.OneCase.{one_case}
use Rattle.savi_access.proofs.laws.a_frame_meets_one_case.Goals as goal

pub returns : goal.returns
returns c = λ r base vlan port t past class times tables. one_case r base vlan port t times tables past class
