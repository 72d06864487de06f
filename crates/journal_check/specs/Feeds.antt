-- The first line of a text.
use Rattle.std.specs.Prelude.{◌≡◌, ◌≢◌, ◌≤◌, ℕ, List, [], ◌∷◌, ◌++◌, length}
use Rattle.savi_kinds.specs.Characters.{line_feed}

abbrev pub HasNoFeed : List ℕ → Type 0
HasNoFeed [] = Unit {0}
HasNoFeed (octet ∷ octets) = (octet ≢ line_feed) × HasNoFeed octets

-- nothing, or a line feed and more
abbrev pub IsBehindLine : List ℕ → Type 0
IsBehindLine [] = Unit {0}
IsBehindLine (octet ∷ octets) = octet ≡ line_feed

-- no line of at most 3,400 octets, with its line feed, begins the octets
abbrev pub BeginsWithNoLine : List ℕ → Type 0
BeginsWithNoLine octets = (line : List ℕ) (more : List ℕ) → HasNoFeed line → length line ≤ 3400 → octets ≢ line ++ line_feed ∷ more
