-- A text of lines: the fields of a line are parted by one space each, and each line ends with a line feed.
use Rattle.std.specs.Prelude.{ℕ, ◌≢◌, List, [], ◌∷◌, ◌++◌}
use Rattle.std.specs.List.{join_with_byte}
use Rattle.savi_kinds.specs.Characters.{space, line_feed}

-- ','
abbrev pub comma : ℕ
comma = 44

-- '-'
abbrev pub dash : ℕ
dash = 45

-- a line without its line feed
abbrev pub joined : List (List ℕ) → List ℕ
joined fields = join_with_byte space fields

-- the lines, each with its line feed
abbrev pub lines_text : List (List (List ℕ)) → List ℕ
lines_text [] = []
lines_text (fields ∷ lines) = joined fields ++ line_feed ∷ lines_text lines

-- a text, or `-` where it is empty
abbrev pub or_dash : List ℕ → List ℕ
or_dash [] = dash ∷ []
or_dash (octet ∷ octets) = octet ∷ octets

-- further fields of a line, each with its space in front
abbrev pub spaced : List (List ℕ) → List ℕ
spaced [] = []
spaced (field ∷ fields) = space ∷ field ++ spaced fields

-- a field that doesn't end before its end
abbrev pub HasNoSpace : List ℕ → Type 0
HasNoSpace [] = Unit {0}
HasNoSpace (octet ∷ octets) = (octet ≢ space) × HasNoSpace octets
