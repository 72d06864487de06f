use Rattle.ra_guard.proofs.Stopping.{hidden_frames}
use Rattle.ra_guard.proofs.laws.hidden_fragments_are_refused.Goals as goal

pub returns : goal.returns
returns c = hidden_frames
