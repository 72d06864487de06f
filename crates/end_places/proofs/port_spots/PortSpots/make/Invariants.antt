use Rattle.std.proofs.Common.{◌≡◌, ℕ, vec_len}
use Rattle.end_places.specs.Spots.{unopened}
use Rattle.end_places.specs.PortPlaces.{nth_place}
use Rattle.end_places.proofs.port_spots.PortSpots.make.Given as goal

abbrev pub invariant-loop : goal.invariant-loop
invariant-loop g l = record {
  len : vec_len l.spots ≡ l.counter;
  unopened : (n : ℕ) → nth_place l.spots.items n ≡ unopened;
}
