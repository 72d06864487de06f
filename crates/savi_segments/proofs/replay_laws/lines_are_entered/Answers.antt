use Rattle.savi_segments.proofs.EnteringLines.{lines_entered}
use Rattle.savi_segments.proofs.replay_laws.lines_are_entered.Goals as goal

pub returns : goal.returns
returns c plan input inputs stops fits legal = lines_entered plan input inputs stops fits legal
