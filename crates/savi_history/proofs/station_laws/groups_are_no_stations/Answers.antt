use Rattle.savi_history.proofs.Individuals.{all_individual}
use Rattle.savi_history.proofs.station_laws.groups_are_no_stations.Goals as goal

pub returns : goal.returns
returns c = all_individual
