-- A place as contracts see it.
use Rattle.std.specs.Prelude.{false, None}
use Rattle.savi_ends.specs.Places.{Place}
use Rattle.end_places.specs.declared.spot.Spot.{Spot}

abbrev pub spot_place : {X : Type 0} → Spot X → Place X
spot_place spot = record { is_out = spot.is_out; stands = spot.kept }

-- nothing was handed out, and what will be isn't told
abbrev pub unopened : {X : Type 0} → Place X
unopened = record { is_out = false; stands = None }
