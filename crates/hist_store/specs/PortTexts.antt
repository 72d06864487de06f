-- The texts of ports and sets of ports.
use Rattle.std.specs.Prelude.{ℕ, ◌≡◌, ◌+◌, ◌-◌, ◌^◌, ◌<◌, ◌≤◌, List, map, filter, decimal, length}
use Rattle.std.specs.List.{join_with_byte, range_with_len}
use Rattle.savi_kinds.specs.declared.port.Port.{Port}
use Rattle.savi_kinds.specs.declared.port.PortSet.{PortSet}
use Rattle.savi_kinds.specs.Ports.{number_of}
use Rattle.savi_kinds.specs.PortSets.{is_member}
use Rattle.hist_store.specs.TextOfLines.{comma, or_dash}

-- a port's number
abbrev pub port_text : Port → List ℕ
port_text port = decimal (number_of port)

-- the numbers that a port may have, 1 to 16
unfoldable pub port_numbers : List ℕ
port_numbers = range_with_len 1 16

-- the numbers of the members, in rising order
abbrev pub members : PortSet → List ℕ
members set = filter (is_member set) port_numbers

-- the members with commas between, or `-` for none
abbrev pub members_text : PortSet → List ℕ
members_text set = or_dash (join_with_byte comma (map decimal (members set)))

-- the members above a port
abbrev pub members_above : ℕ → PortSet → List ℕ
members_above last set = filter (is_member set) (range_with_len (last + 1) (16 - last))

-- the text is that of a set's members above a port, of which there are some; up to the port the set is the same as another
pub record ListsMembersAbove (last : ℕ) (before set : PortSet) (text : List ℕ) : Type 0 where
  pub same : (n : ℕ) → 1 ≤ n → n ≤ last → is_member set n ≡ is_member before n
  pub size : set.0 < 2 ^ 16
  pub text_is : text ≡ join_with_byte comma (map decimal (members_above last set))
  pub some : 0 < length (members_above last set)
