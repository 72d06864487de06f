use Rattle.end_places.proofs.ManyPlaces.{untold}
use Rattle.end_places.proofs.named_spots.NamedSpots.is_full.Goals as goal

pub returns-clause-untold : goal.returns-clause-untold
returns-clause-untold g c name new = untold c.args.self.now.spots.items name new
