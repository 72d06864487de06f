use Rattle.core_keep.proofs.PlansApart.{one_plan}
use Rattle.core_keep.proofs.laws.a_code_says_one_plan.Goals as goal

pub returns : goal.returns
returns c plan other same = one_plan plan other same
