-- The row of whole options that octets are, as a function: the options are taken off the front, one after the other.
use Rattle.std.specs.Prelude.{ℕ, zero, suc, ◌+◌, ◌*◌, ◌-◌, ◌==◌, ◌&&◌, nat_le, Bool, false, if◌then◌else◌, List, [], ◌∷◌, length, take, drop, Option, Some, None}
use Rattle.std.specs.List.{list_any}
use Rattle.nd_read.specs.Options.{NdOption}

-- the option at the front of these octets, by its length
abbrev pub front_option : ℕ → ℕ → List ℕ → NdOption
front_option kind units rest = record { kind = kind; units = units; content = take (8 * units - 2) rest }

-- this option in front of those, if they are a row
abbrev pub with_nd_option : NdOption → Option (List NdOption) → Option (List NdOption)
with_nd_option option None = None
with_nd_option option (Some others) = Some (option ∷ others)

-- the row of whole options that these octets are, if they are one, with at most so many
abbrev pub options_within : ℕ → List ℕ → Option (List NdOption)
options_within most [] = Some []
options_within zero (kind ∷ rest) = None
options_within (suc most) (kind ∷ []) = None
options_within (suc most) (kind ∷ units ∷ rest) =
    if nat_le 1 units && nat_le (8 * units) (2 + length rest) then with_nd_option (front_option kind units rest) (options_within most (drop (8 * units) (kind ∷ units ∷ rest))) else None

-- the row, if the octets are one: it has no more options than octets
abbrev pub option_row : List ℕ → Option (List NdOption)
option_row octets = options_within (length octets) octets

-- an option of this type is among them
abbrev pub has_kind : ℕ → Option (List NdOption) → Bool
has_kind kind None = false
has_kind kind (Some options) = list_any (λ option. option.kind == kind) options
