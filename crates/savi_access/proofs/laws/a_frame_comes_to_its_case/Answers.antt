use Rattle.savi_access.proofs.CaseOf.{case_of}
use Rattle.savi_access.proofs.laws.a_frame_comes_to_its_case.Goals as goal

pub returns : goal.returns
returns c = λ r base vlan port t past class times tables. case_of r base vlan port t times tables past class
