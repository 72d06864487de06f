-- The VLAN and the address that a text writes, as a function: the law of its reader says that they are those of the grammar
-- (`KeyText`), and none where the text is of none.
use Rattle.std.specs.Prelude.{ℕ, ◌+◌, ◌==◌, ◌&&◌, List, take, drop, position, decimal, bytes_eq, nat_lt, Option, Some, None, option_map, option_and_then, if◌then◌else◌}
use Rattle.std.specs.Option.{option_map_or}
use Rattle.std.specs.Str.Parse.{digits_value}
use Rattle.savi_kinds.specs.declared.address.Addr.{Addr}
use Rattle.savi_kinds.specs.AddrOf.{addr_of}
use Rattle.savi_kinds.specs.KeyText.{at_sign}

-- the number from 2 to 4,094 that digits write, without a leading zero
abbrev pub vid_of : List ℕ → Option ℕ
vid_of digits =
    let vlan = digits_value 10 digits in
    if (nat_lt 1 vlan && nat_lt vlan 4095) && bytes_eq digits (decimal vlan) then Some vlan else None

-- an address in this VLAN
abbrev pub addr_in : ℕ → List ℕ → Option (ℕ × Addr)
addr_in vlan text = option_map (λ a. (vlan, a)) (addr_of text)

-- an address in front of the first '@', and the number of a VLAN behind it; where there is none, an address in VLAN 1
unfoldable pub key_of : List ℕ → Option (ℕ × Addr)
key_of text =
    option_map_or
    (λ at. option_and_then (λ vlan. addr_in vlan (take at text)) (vid_of (drop (at + 1) text)))
    (position (λ c. c == at_sign) text)
    (addr_in 1 text)
