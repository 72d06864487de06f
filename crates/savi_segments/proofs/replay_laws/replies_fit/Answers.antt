use Rattle.savi_segments.proofs.FittingReplies.{all_replies_fit}
use Rattle.savi_segments.proofs.replay_laws.replies_fit.Goals as goal

pub returns : goal.returns
returns c plan lines inputs stops before after is session took = all_replies_fit plan lines inputs stops before after is session took
