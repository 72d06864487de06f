-- How far a text is read.
use Rattle.std.specs.Prelude.{ℕ, zero, suc, ◌^◌, List, [], ◌∷◌}

-- What is seen of octets by who reads lines that end at this place or before it: the octets up to there, and of those
-- behind, where there are some, one that ends no line.
abbrev pub seen_to : List ℕ → ℕ → List ℕ
seen_to [] place = []
seen_to (octet ∷ octets) zero = 0 ∷ []
seen_to (octet ∷ octets) (suc place) = octet ∷ seen_to octets place

-- each line that is read ends at place 2^62 or before it
abbrev pub seen : List ℕ → List ℕ
seen octets = seen_to octets (2 ^ 62)
