use Rattle.savi_history.proofs.Starting.{empty_within}
use Rattle.savi_history.proofs.laws.a_switch_starts_within_limits.Goals as goal

pub returns : goal.returns
returns c = λ plan valid. empty_within plan valid
