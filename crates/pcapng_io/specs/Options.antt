-- The options of a block (draft-ietf-opsawg-pcapng section 3.5): codes with values, one behind the other.
use Rattle.std.specs.Prelude.{◌≡◌, ◌≢◌, ℕ, ◌+◌, ◌-◌, ◌*◌, ◌/◌, ◌^◌, ◌≤◌, ◌==◌, nat_lt, Bool, true, false, List, [], ◌∷◌, ◌++◌, length, take, drop, slice_index, All, if◌then◌else◌, ◌⊎◌}
use Rattle.pcap_io.specs.declared.kind.ByteOrder.{ByteOrder}
use Rattle.pcapng_io.specs.Numbers.{half_at}

-- so many octets, and their padding to a multiple of four
abbrev pub padded : ℕ → ℕ
padded n = (n + 3) / 4 * 4

pub record BlockOption : Type 0 where
  pub code : ℕ
  pub value : List ℕ

-- These octets are this option and no other octets: code and length of the value, of 2 octets each, then the value and
-- its padding. The code 0 isn't one of these: it ends the options.
pub record IsOption (order : ByteOrder) (octets : List ℕ) (option : BlockOption) : Type 0 where
  pub size : length octets ≡ 4 + padded (half_at order 2 octets)
  pub code_is : option.code ≡ half_at order 0 octets
  pub some : half_at order 0 octets ≢ 0
  pub value_is : option.value ≡ take (half_at order 2 octets) (drop 4 octets)

-- the end of the options: that of the block's octets, or a code of 0 with whatever is behind it
abbrev pub EndsOptions : ByteOrder → List ℕ → Type 0
EndsOptions order octets = (octets ≡ []) ⊎ ((4 ≤ length octets) × (half_at order 0 octets ≡ 0))

-- These octets are these options, one behind the other, and their end.
abbrev pub AreOptions : ByteOrder → List BlockOption → List ℕ → Type 0
AreOptions order [] octets = EndsOptions order octets
AreOptions order (option ∷ options) octets =
    (first : List ℕ) × (rest : List ℕ) × (octets ≡ first ++ rest) × IsOption order first option × AreOptions order options rest

-- the units of a second that a resolution names: ten to this power, or two with the high bit set (section 4.2, if_tsresol)
abbrev pub units_of : ℕ → ℕ
units_of resolution = if nat_lt resolution 128 then 10 ^ resolution else 2 ^ (resolution - 128)

-- a resolution of at most 10^-38 s or 2^-100 s, in one octet
abbrev pub IsResolution : List ℕ → Type 0
IsResolution value = (length value ≡ 1) × ((slice_index value 0 ≤ 38) ⊎ ((128 ≤ slice_index value 0) × (slice_index value 0 ≤ 228)))

-- an option of an interface: where it is the resolution, that is one
abbrev pub IsSettled : BlockOption → Type 0
IsSettled option = option.code ≡ 9 → IsResolution option.value

-- the units of a second: those of the last resolution, or else the ones from before
abbrev pub resolved : ℕ → List BlockOption → ℕ
resolved units [] = units
resolved units (option ∷ options) = resolved (if option.code == 9 then units_of (slice_index option.value 0) else units) options

-- The options of an interface give it the units of a second, microseconds where none says otherwise. Those of other
-- blocks only have to stand there.
abbrev pub Settle : Bool → List BlockOption → ℕ → Type 0
Settle true options units = All IsSettled options × (units ≡ resolved 1000000 options)
Settle false options units = Unit {0}

-- these octets are options, of an interface with these units or of another block
abbrev pub HaveOptions : ByteOrder → Bool → ℕ → List ℕ → Type 0
HaveOptions order is_interface units octets = (options : List BlockOption) × AreOptions order options octets × Settle is_interface options units
