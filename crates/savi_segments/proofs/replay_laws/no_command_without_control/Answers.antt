use Rattle.savi_segments.proofs.EnteringLines.{without_control}
use Rattle.savi_segments.proofs.replay_laws.no_command_without_control.Goals as goal

pub returns : goal.returns
returns c plan inputs stops legal = without_control plan inputs stops legal
