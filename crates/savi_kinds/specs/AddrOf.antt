-- The address that a text writes (RFC 4291 section 2.2, forms 1 and 2), as a function: a law says that it is the one of the
-- grammar (`AddrText`), and none where the text is of none.
use Rattle.std.specs.Prelude.{ℕ, ◌+◌, ◌-◌, ◌==◌, ◌&&◌, Bool, List, [], ◌∷◌, ◌++◌, length, replicate, take, drop, codes, bytes_eq, nat_lt, nat_le, Option, Some, None, option_map, if◌then◌else◌}
use Rattle.std.specs.List.{list_all}
use Rattle.std.specs.Option.{option_map_or}
use Rattle.std.specs.Char.{is_digit}
use Rattle.savi_kinds.specs.declared.address.Addr.{Addr}
use Rattle.savi_kinds.specs.MacText.{colon}
use Rattle.savi_kinds.specs.AddrText.{group_numbers, number_of_groups}

-- the parts of a text with one octet more at the front of the first
abbrev pub begun_with : ℕ → List (List ℕ) → List (List ℕ)
begun_with c [] = (c ∷ []) ∷ []
begun_with c (part ∷ parts) = (c ∷ part) ∷ parts

-- what stands between the colons of a text, an empty part too
abbrev pub between_colons : List ℕ → List (List ℕ)
between_colons [] = [] ∷ []
between_colons (c ∷ text) = if c == colon then [] ∷ between_colons text else begun_with c (between_colons text)

-- its groups, if these are groups: none in the empty text
abbrev pub groups_in : List ℕ → List (List ℕ)
groups_in [] = []
groups_in (c ∷ text) = between_colons (c ∷ text)

-- one to four hexadecimal digits, of either case
abbrev pub is_hex_group : List ℕ → Bool
is_hex_group digits = list_all (λ c. is_digit c 16) digits && (nat_lt 0 (length digits) && nat_le (length digits) 4)

-- the texts in front of the first '::' and behind it
abbrev pub sides_of : List ℕ → Option (List ℕ × List ℕ)
sides_of [] = None
sides_of (c ∷ text) =
    if bytes_eq (take 2 (c ∷ text)) (codes "::") then Some ([], drop 1 text)
    else option_map (λ sides. (c ∷ sides.0, sides.1)) (sides_of text)

-- form 1 of RFC 4291 section 2.2: eight groups
abbrev pub whole_addr : List (List ℕ) → Option Addr
whole_addr groups =
    if list_all is_hex_group groups && (length groups == 8)
    then Some (record { 0 = number_of_groups (group_numbers groups) }) else None

-- form 2: groups on each side of '::', which stands for as many zeros as there are groups missing, one at least
abbrev pub compressed_addr : List (List ℕ) → List (List ℕ) → Option Addr
compressed_addr front back =
    let zeros = 8 - (length front + length back) in
    if list_all is_hex_group front && (list_all is_hex_group back && nat_lt 0 zeros)
    then Some (record { 0 = number_of_groups (group_numbers front ++ replicate zeros 0 ++ group_numbers back) }) else None

-- the address that a text writes
unfoldable pub addr_of : List ℕ → Option Addr
addr_of text =
    option_map_or (λ sides. compressed_addr (groups_in sides.0) (groups_in sides.1)) (sides_of text)
    (whole_addr (groups_in text))
