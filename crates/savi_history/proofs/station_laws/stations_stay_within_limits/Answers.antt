use Rattle.savi_history.proofs.Teaching.{stations_stay}
use Rattle.savi_history.proofs.station_laws.stations_stay_within_limits.Goals as goal

pub returns : goal.returns
returns c = stations_stay
