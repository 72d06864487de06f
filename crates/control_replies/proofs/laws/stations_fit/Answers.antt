use Rattle.control_replies.proofs.Bounds.{station_size, stations_size}
use Rattle.control_replies.proofs.laws.stations_fit.Goals as goal

pub returns-clause-row : goal.returns-clause-row
returns-clause-row c = station_size

pub returns-clause-whole : goal.returns-clause-whole
returns-clause-whole c = stations_size
