-- A place that has a name once its end was handed out, as contracts see it.
use Rattle.std.specs.Prelude.{ℕ, Bool, true, if◌then◌else◌, List, Option, None, Some, is_none}
use Rattle.std.specs.Str.{bytes_eq}
use Rattle.savi_ends.specs.Places.{Place}
use Rattle.end_places.specs.declared.named_spot.NamedSpot.{NamedSpot}
use Rattle.end_places.specs.Spots.{unopened}

abbrev pub is_free : {X : Type 0} → NamedSpot X → Bool
is_free spot = is_none spot.name

-- the place of each name: that of the name under which the end was handed out, and else one that wasn't opened
abbrev pub place_named : {X : Type 0} → Option (List ℕ) → Option X → List ℕ → Place X
place_named None kept name = unopened
place_named (Some given) kept name = if bytes_eq given name then record { is_out = true; stands = kept } else unopened

abbrev pub named_place : {X : Type 0} → NamedSpot X → List ℕ → Place X
named_place spot name = place_named spot.name spot.kept name
