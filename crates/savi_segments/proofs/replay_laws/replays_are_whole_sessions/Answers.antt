use Rattle.savi_segments.proofs.Runs.{whole_session}
use Rattle.savi_segments.proofs.replay_laws.replays_are_whole_sessions.Goals as goal

pub returns : goal.returns
returns c plan lines inputs stops valid size control_is are of = whole_session plan valid stops lines inputs size control_is are of
