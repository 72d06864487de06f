-- How many addresses each port holds, kept as a number for each port.
use Rattle.std.specs.Prelude.{ℕ, ◌≡◌, ◌+◌, ◌-◌, ◌≤◌, if◌then◌else◌, List, slice_index}
use Rattle.savi_kinds.specs.declared.port.PortSet.{PortSet}
use Rattle.savi_kinds.specs.PortSets.{is_member}
use Rattle.mix_rules.specs.declared.state.AddrState.{AddrState}
use Rattle.mix_rules.specs.States.{is_held_at}

-- how often a port is in a set: once or not at all
abbrev pub once_in : PortSet → ℕ → ℕ
once_in ports port = if is_member ports port then 1 else 0

-- the numbers once an address went from the ports of one set to those of another one
abbrev pub AreMoved : PortSet → PortSet → List ℕ → List ℕ → Type 0
AreMoved left came old new = (port : ℕ) → 1 ≤ port → port ≤ 16 → slice_index new (port - 1) + once_in left port ≡ slice_index old (port - 1) + once_in came port

-- these are the ports that hold an address of this state
abbrev pub AreHolders : AddrState → PortSet → Type 0
AreHolders state ports = (port : ℕ) → 1 ≤ port → is_member ports port ≡ is_held_at port state
