-- The places of a world in memory: lists of ends under names or ports.
use Rattle.std.specs.Prelude.{◌≢◌, ℕ, ◌==◌, Bool, false, List, [], ◌∷◌, map, Option, None, is_none, if◌then◌else◌, AllPairs}
use Rattle.std.specs.Str.{bytes_eq}
use Rattle.savi_kinds.specs.declared.port.Port.{Port}
use Rattle.savi_kinds.specs.Ports.{number_of}
use Rattle.savi_ends.specs.Places.{Place}

-- a place that is empty counts as handed out
abbrev pub place_holding : {X : Type 0} → Option X → Place X
place_holding x = record { is_out = is_none x; stands = x }

-- a name or port without a place is an opening that fails
abbrev pub no_place : {X : Type 0} → Place X
no_place = record { is_out = false; stands = None }

-- the first place whose key passes the test
abbrev pub first_place : {Key X : Type 0} → (Key → Bool) → List (Key × Option X) → Place X
first_place test [] = no_place
first_place test (p ∷ places) = if test p.0 then place_holding p.1 else first_place test places

-- the first place of this name
abbrev pub named_places : {X : Type 0} → List (List ℕ × Option X) → List ℕ → Place X
named_places places name = first_place (λ key. bytes_eq key name) places

-- the first place of the port with this number
abbrev pub numbered_places : {X : Type 0} → List (Port × Option X) → ℕ → Place X
numbered_places places n = first_place (λ p. number_of p == n) places

-- the names or ports, in order
abbrev pub keys_of : {Key X : Type 0} → List (Key × Option X) → List Key
keys_of places = map (λ p. p.0) places

-- no two places have one name
abbrev pub NamesDiffer : {X : Type 0} → List (List ℕ × Option X) → Type 0
NamesDiffer places = AllPairs (λ a b. a ≢ b) (keys_of places)
