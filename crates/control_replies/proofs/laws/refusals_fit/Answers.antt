use Rattle.control_replies.proofs.Bounds.{refusal_size}
use Rattle.control_replies.proofs.laws.refusals_fit.Goals as goal

pub returns : goal.returns
returns c = refusal_size
