use Rattle.savi_history.proofs.Guarded.{guarded}
use Rattle.savi_history.proofs.laws.adverts_are_stopped.Goals as goal

pub returns : goal.returns
returns c = guarded
