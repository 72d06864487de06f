-- The texts of a MAC address (RFC 6991 section 3): six pairs of hexadecimal digits with colons between.
use Rattle.std.specs.Prelude.{ℕ, ◌/◌, ◌%◌, ◌^◌, ◌<◌, ◌≡◌, List, [], ◌∷◌, ◌++◌, All, map, length, nat_lt, ◌+◌, if◌then◌else◌}
use Rattle.std.specs.List.{join_with_byte}
use Rattle.std.specs.Str.Parse.{AllDigits, digits_value}
use Rattle.savi_kinds.specs.declared.address.Mac.{Mac}

-- the digit of a number below 16: '0' to '9' are 48 to 57, and 'a' to 'f' are 97 to 102
abbrev pub hex_digit : ℕ → ℕ
hex_digit value = if nat_lt value 10 then 48 + value else 87 + value

-- the two digits of an octet, the high one first
abbrev pub hex_pair : ℕ → List ℕ
hex_pair octet = hex_digit (octet / 16) ∷ hex_digit (octet % 16) ∷ []

-- ':'
abbrev pub colon : ℕ
colon = 58

-- what the type keeps: six numbers of eight bits
abbrev pub HasSixOctets : Mac → Type 0
HasSixOctets mac = (length mac.0 ≡ 6) × All (λ octet. octet < 2 ^ 8) mac.0

-- the text that is written, in lower case
abbrev pub mac_text : Mac → List ℕ
mac_text mac = join_with_byte colon (map hex_pair mac.0)

-- two hexadecimal digits, of either case
abbrev pub IsPair : List ℕ → Type 0
IsPair digits = AllDigits 16 digits × (length digits ≡ 2)

-- The text writes this MAC address: six pairs of hexadecimal digits, of either case, with a colon between each two.
pub record IsMacText (text : List ℕ) (mac : Mac) : Type 0 where
  pub pairs : List (List ℕ)
  pub hex_digits : All IsPair pairs
  pub six : length pairs ≡ 6
  pub spelled : text ≡ join_with_byte colon pairs
  pub value : mac.0 ≡ map (digits_value 16) pairs

-- the text begins with a pair that writes this octet, and `rest` stands behind it
abbrev pub BeginsWithPair : List ℕ → ℕ → List ℕ → Type 0
BeginsWithPair text octet rest = (pair : List ℕ) × IsPair pair × (octet ≡ digits_value 16 pair) × (text ≡ pair ++ rest)

-- the same behind a colon
abbrev pub BeginsWithNext : List ℕ → ℕ → List ℕ → Type 0
BeginsWithNext text octet rest = (next : List ℕ) × (text ≡ colon ∷ next) × BeginsWithPair next octet rest
