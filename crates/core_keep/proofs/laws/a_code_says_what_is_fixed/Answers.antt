use Rattle.core_keep.proofs.BasesApart.{one_fixed}
use Rattle.core_keep.proofs.laws.a_code_says_what_is_fixed.Goals as goal

pub returns : goal.returns
returns c plan other columns before same = one_fixed plan other columns before same
