-- What was taken from a source for one octet, and for one line.
use Rattle.std.specs.Prelude.{◌≡◌, ◌⊎◌, ℕ, ◌≤◌, List, [], ◌∷◌, ◌++◌, length, take, Option}
use Rattle.savi_kinds.specs.Characters.{line_feed}
use Rattle.savi_ends.specs.Octets.{NothingLeft}
use Rattle.cli_lang.specs.declared.ahead.Octet.{Octet}
use Rattle.cli_lang.specs.declared.ahead.Octet.TheVariants as octet
use Rattle.cli_lang.specs.declared.taking.Taken.{Taken}
use Rattle.cli_lang.specs.declared.taking.Taken.TheVariants as taken
use Rattle.cli_lang.specs.Arrivals.{HasNoFeed}

-- The next of these octets was given and the others are held; or there is none, since nothing is left or a read failed.
abbrev pub GivesOctet : Octet → List ℕ → List ℕ → Option (List ℕ) → Type 0
GivesOctet (octet.Is c) octets held left = octets ≡ c ∷ held
GivesOctet octet.End octets held left = (octets ≡ []) × (held ≡ []) × NothingLeft left
GivesOctet octet.Failed octets held left = (octets ≡ []) × (held ≡ [])

-- A line and its line feed were taken, and the octets behind it are held; or all that is left, and it has no line feed; or
-- more octets than a line may have; or the read of what was missing failed.
abbrev pub TakesLine : Taken → List ℕ → List ℕ → List ℕ → Option (List ℕ) → Type 0
TakesLine (taken.Whole n) octets held buf left = (n ≤ length buf) × HasNoFeed (take n buf) × (octets ≡ take n buf ++ (line_feed ∷ held))
TakesLine (taken.Last n) octets held buf left = (n ≤ length buf) × HasNoFeed (take n buf) × (octets ≡ take n buf) × NothingLeft left
TakesLine taken.Long octets held buf left = (front : List ℕ) × (length front ≡ 121) × HasNoFeed front × (octets ≡ front ++ held)
TakesLine taken.Failed octets held buf left = HasNoFeed octets × (length octets ≤ 120)

-- These octets decide the line at their front: there is a line feed behind at most 120 of them, or there are more than a
-- line may have.
abbrev pub DecideLine : List ℕ → Type 0
DecideLine held =
    ((front : List ℕ) × (rest : List ℕ) × (held ≡ front ++ (line_feed ∷ rest)) × (length front ≤ 120)) ⊎ (121 ≤ length held)
