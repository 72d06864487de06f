-- The texts of an IPv6 address: those that are read (RFC 4291 section 2.2, forms 1 and 2), and the one that is written
-- (RFC 5952 section 4).
use Rattle.std.specs.Prelude.{ℕ, ◌+◌, ◌/◌, ◌%◌, ◌^◌, ◌<◌, ◌≤◌, ◌≡◌, ◌⊎◌, List, [], ◌∷◌, ◌++◌, All, map, length, replicate, take, drop, codes, nat_lt, if◌then◌else◌}
use Rattle.std.specs.List.{join_with_byte}
use Rattle.std.specs.Str.Parse.{IsNumeral, digits_value}
use Rattle.std.specs.Int.Digits.{number_from_digits}
use Rattle.std.specs.Net.Text.{hex, longest_zero_run}
use Rattle.savi_kinds.specs.declared.address.Addr.{Addr}
use Rattle.savi_kinds.specs.MacText.{colon}

-- a group: one to four hexadecimal digits, of either case
abbrev pub IsGroup : List ℕ → Type 0
IsGroup digits = IsNumeral 16 digits × (length digits ≤ 4)

-- the numbers that groups write
abbrev pub group_numbers : List (List ℕ) → List ℕ
group_numbers groups = map (digits_value 16) groups

-- groups with a colon between each two
abbrev pub joined_groups : List (List ℕ) → List ℕ
joined_groups groups = join_with_byte colon groups

-- numbers of 16 bits as one number, the first of them the highest
abbrev pub number_of_groups : List ℕ → ℕ
number_of_groups numbers = number_from_digits (2 ^ 16) numbers

-- form 1: eight groups
pub record IsEightGroups (text : List ℕ) (a : Addr) : Type 0 where
  pub groups : List (List ℕ)
  pub hex_digits : All IsGroup groups
  pub eight : length groups ≡ 8
  pub spelled : text ≡ joined_groups groups
  pub value : a.0 ≡ number_of_groups (group_numbers groups)

-- form 2: groups on each side of one '::', which stands for one group of zeros or more
pub record IsCompressed (text : List ℕ) (a : Addr) : Type 0 where
  pub front : List (List ℕ)
  pub zeros : ℕ
  pub back : List (List ℕ)
  pub hex_front : All IsGroup front
  pub hex_back : All IsGroup back
  pub some : 1 ≤ zeros
  pub eight : length front + zeros + length back ≡ 8
  pub spelled : text ≡ joined_groups front ++ codes "::" ++ joined_groups back
  pub value : a.0 ≡ number_of_groups (group_numbers front ++ replicate zeros 0 ++ group_numbers back)

-- the text writes this address
abbrev pub IsAddrText : List ℕ → Addr → Type 0
IsAddrText text a = IsEightGroups text a ⊎ IsCompressed text a

-- the eight numbers of 16 bits that an address is, the highest first
unfoldable pub groups_of : Addr → List ℕ
groups_of a =
    (a.0 / 2 ^ 112 % 2 ^ 16) ∷ (a.0 / 2 ^ 96 % 2 ^ 16) ∷ (a.0 / 2 ^ 80 % 2 ^ 16) ∷ (a.0 / 2 ^ 64 % 2 ^ 16)
    ∷ (a.0 / 2 ^ 48 % 2 ^ 16) ∷ (a.0 / 2 ^ 32 % 2 ^ 16) ∷ (a.0 / 2 ^ 16 % 2 ^ 16) ∷ (a.0 % 2 ^ 16) ∷ []

-- each group in lower case and without leading zeros (RFC 5952 sections 4.1 and 4.3), with colons between
abbrev pub groups_text : List ℕ → List ℕ
groups_text groups = joined_groups (map hex groups)

-- The spelling of RFC 5952 section 4: '::' in place of the longest run of zero groups, and of two as long in place of
-- the first; a single zero group is written as it is.
unfoldable pub spelling : List ℕ → List ℕ
spelling groups =
    let run = longest_zero_run groups in
    if nat_lt 1 run.1
    then groups_text (take run.0 groups) ++ codes "::" ++ groups_text (drop (run.0 + run.1) groups)
    else groups_text groups

-- the text of an address that is written
abbrev pub addr_text : Addr → List ℕ
addr_text a = spelling (groups_of a)

-- from `start` on stand `len` groups of zeros
pub record IsZeroRun (groups : List ℕ) (start len : ℕ) : Type 0 where
  pub within : start + len ≤ length groups
  pub zeros : take len (drop start groups) ≡ replicate len 0

-- no run of zeros is longer, and none as long begins earlier
pub record IsFirstLongest (groups : List ℕ) (start len : ℕ) : Type 0 where
  pub run : IsZeroRun groups start len
  pub longest : (other_start other_len : ℕ) → IsZeroRun groups other_start other_len → other_len ≤ len
  pub first : (other_start : ℕ) → IsZeroRun groups other_start len → start ≤ other_start

-- The rules of RFC 5952 section 4.2: the first of the longest runs of zeros is shortened, where it has two groups or
-- more.
pub record IsSpelling (text groups : List ℕ) : Type 0 where
  pub start : ℕ
  pub len : ℕ
  pub run : IsFirstLongest groups start len
  pub shortened : 1 < len → text ≡ groups_text (take start groups) ++ codes "::" ++ groups_text (drop (start + len) groups)
  pub whole : len ≤ 1 → text ≡ groups_text groups

-- '0' to '9', 'a' to 'f', or ':'
abbrev pub IsAddrChar : ℕ → Type 0
IsAddrChar c = ((48 ≤ c) × (c ≤ 57)) ⊎ (((97 ≤ c) × (c ≤ 102)) ⊎ (c ≡ colon))
