use Rattle.savi_history.proofs.Depth.{queue_within}
use Rattle.savi_history.proofs.laws.queues_stay_within_depth.Goals as goal

pub returns : goal.returns
returns c plan base q past = queue_within plan base q past
