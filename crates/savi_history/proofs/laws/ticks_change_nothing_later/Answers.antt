use Rattle.savi_history.proofs.Ticking.{tick_leaves}
use Rattle.savi_history.proofs.laws.ticks_change_nothing_later.Goals as goal

pub returns : goal.returns
returns c plan base past stamp = tick_leaves plan base past stamp
