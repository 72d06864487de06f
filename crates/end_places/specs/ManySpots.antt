-- Places that have a name once an end was handed out of them, as contracts see them.
use Rattle.std.specs.Prelude.{ℕ, Bool, true, nat_le, if◌then◌else◌, List, [], ◌∷◌, Option, length}
use Rattle.std.specs.Str.{bytes_eq}
use Rattle.savi_ends.specs.Places.{Place}
use Rattle.end_places.specs.declared.named_spots.NamedSpots.{NamedSpots}
use Rattle.end_places.specs.Spots.{unopened}

-- the first place of this name, and else one that wasn't opened
abbrev pub spot_among : {X : Type 0} → List (List ℕ × Option X) → List ℕ → Place X
spot_among [] name = unopened
spot_among (p ∷ places) name = if bytes_eq p.0 name then record { is_out = true; stands = p.1 } else spot_among places name

abbrev pub spot_named : {X : Type 0} → NamedSpots X → List ℕ → Place X
spot_named spots name = spot_among spots.spots.items name

-- an end was handed out of each of the sixteen places
abbrev pub are_full : {X : Type 0} → NamedSpots X → Bool
are_full spots = nat_le 16 (length spots.spots.items)
