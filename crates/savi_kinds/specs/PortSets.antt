-- A set of ports as a number: bit n - 1 stands for port n.
use Rattle.std.specs.Prelude.{ℕ, ◌-◌, ◌^◌, ◌==◌, Bool, List, [], ◌∷◌, bit_or}
use Rattle.std.specs.Int.{bit_at}
use Rattle.savi_kinds.specs.declared.port.PortSet.{PortSet}

-- whether port n is a member
abbrev pub is_member : PortSet → ℕ → Bool
is_member set n = bit_at set.0 (n - 1) == 1

-- the set without a member
abbrev pub no_ports : PortSet
no_ports = record { 0 = 0 }

-- the set with port n as a member too
abbrev pub with_member : PortSet → ℕ → PortSet
with_member set n = record { 0 = bit_or set.0 (2 ^ (n - 1)) }

-- the set of these ports
abbrev pub set_of : List ℕ → PortSet
set_of [] = no_ports
set_of (n ∷ ns) = with_member (set_of ns) n
