-- The options of DHCPv6 (RFC 8415 section 21.1) as a list.
use Rattle.std.specs.Prelude.{◌≡◌, ℕ, List, ◌++◌, length, All}
use Rattle.std.specs.List.{flat_map}
use Rattle.byteorder.specs.Endian.{big_number}

-- an option as it stands: two octets of code, two octets of length, and its content
pub record DhcpOption : Type 0 where
  pub code : List ℕ
  pub len : List ℕ
  pub content : List ℕ

-- the number of its code
abbrev pub option_code : DhcpOption → ℕ
option_code option = big_number 2 option.code

abbrev pub octets_of : DhcpOption → List ℕ
octets_of option = option.code ++ (option.len ++ option.content)

-- its content has as many octets as its length says
pub record IsWhole (option : DhcpOption) : Type 0 where
  pub code : length option.code ≡ 2
  pub len : length option.len ≡ 2
  pub content : length option.content ≡ big_number 2 option.len

-- no whole option stands at the front of the octets
abbrev pub BeginsNone : List ℕ → Type 0
BeginsNone octets = (option : DhcpOption) (behind : List ℕ) → IsWhole option → octets ≡ octets_of option ++ behind → ⊥

-- options, and the octets behind the last of them
pub record OptionsRead : Type 0 where
  pub options : List DhcpOption
  pub rest : List ℕ

-- The octets are these whole options, one behind the other, and a rest with which none begins. The options tile the
-- octets where nothing is left.
pub record IsOptionsRead (octets : List ℕ) (row : OptionsRead) : Type 0 where
  pub whole : All IsWhole row.options
  pub ends : BeginsNone row.rest
  pub joined : octets ≡ flat_map octets_of row.options ++ row.rest

-- each list of octets has a row, and only one
abbrev pub EachHasOneRow : Type 0
EachHasOneRow = (octets : List ℕ) → (row : OptionsRead) × IsOptionsRead octets row × ((other : OptionsRead) → IsOptionsRead octets other → other ≡ row)

-- the row of each list of octets, as a function
abbrev pub GivesRows : (List ℕ → OptionsRead) → Type 0
GivesRows row_of = (octets : List ℕ) → IsOptionsRead octets (row_of octets)
