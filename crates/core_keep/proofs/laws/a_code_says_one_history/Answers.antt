use Rattle.core_keep.proofs.PastsRead.{past_again, size_coded, one_past}
use Rattle.core_keep.proofs.laws.a_code_says_one_history.Goals as goal

pub returns-clause-read : goal.returns-clause-read
returns-clause-read c past = past_again past

pub returns-clause-size : goal.returns-clause-size
returns-clause-size c past = size_coded past

pub returns-clause-one : goal.returns-clause-one
returns-clause-one c past other same = one_past past other same
