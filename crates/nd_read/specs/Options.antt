-- The options of neighbor discovery (RFC 4861 section 4.6) as a list.
use Rattle.std.specs.Prelude.{◌≡◌, ℕ, ◌+◌, ◌*◌, ◌≤◌, List, ◌∷◌, length, All, Any}
use Rattle.std.specs.List.{flat_map}

-- an option: its type, its length in units of 8 octets, and what stands behind these two octets
pub record NdOption : Type 0 where
  pub kind : ℕ
  pub units : ℕ
  pub content : List ℕ

-- the octets of an option
abbrev pub octets_of : NdOption → List ℕ
octets_of option = option.kind ∷ option.units ∷ option.content

-- an option has the length that it says, which isn't 0
pub record IsWhole (option : NdOption) : Type 0 where
  pub some : 1 ≤ option.units
  pub long : 2 + length option.content ≡ 8 * option.units

-- the octets are those of whole options, one behind the other
pub record AreOptions (octets : List ℕ) (options : List NdOption) : Type 0 where
  pub whole : All IsWhole options
  pub row : octets ≡ flat_map octets_of options

-- an option of this type is among them
abbrev pub HasKind : ℕ → List NdOption → Type 0
HasKind kind options = Any (λ option. option.kind ≡ kind) options
