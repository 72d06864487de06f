-- The places of ports by number: port n has the n-th of the places.
use Rattle.std.specs.Prelude.{ℕ, zero, suc, List, Option, None, Some, slice_get}
use Rattle.savi_ends.specs.Places.{Place}
use Rattle.end_places.specs.declared.spot.Spot.{Spot}
use Rattle.end_places.specs.declared.port_spots.PortSpots.{PortSpots}
use Rattle.end_places.specs.Spots.{spot_place, unopened}

abbrev pub place_at : {X : Type 0} → Option (Spot X) → Place X
place_at None = unopened
place_at (Some spot) = spot_place spot

abbrev pub nth_place : {X : Type 0} → List (Spot X) → ℕ → Place X
nth_place spots zero = unopened
nth_place spots (suc n) = place_at (slice_get spots n)

abbrev pub port_place : {X : Type 0} → PortSpots X → ℕ → Place X
port_place p n = nth_place p.spots.items n
