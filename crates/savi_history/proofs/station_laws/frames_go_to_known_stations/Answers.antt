use Rattle.savi_history.proofs.Directing.{all_directed}
use Rattle.savi_history.proofs.station_laws.frames_go_to_known_stations.Goals as goal

pub returns : goal.returns
returns c = all_directed
