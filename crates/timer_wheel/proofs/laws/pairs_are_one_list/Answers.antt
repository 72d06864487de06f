use Rattle.timer_wheel.proofs.Pointwise.{one_list}
use Rattle.timer_wheel.proofs.laws.pairs_are_one_list.Goals as goal

pub returns : goal.returns
returns c = one_list
