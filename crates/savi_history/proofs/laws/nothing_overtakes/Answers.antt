use Rattle.savi_history.proofs.Offered.{in_order}
use Rattle.savi_history.proofs.laws.nothing_overtakes.Goals as goal

pub returns : goal.returns
returns c plan base q past never = in_order plan base q past never
