-- The rows of a table of bindings: an address and its state each, in rising order of address, none without a state.
use Rattle.std.specs.Prelude.{◌≡◌, ℕ, ◌==◌, Bool, true, if◌then◌else◌, List, [], ◌∷◌, ◌++◌, filter, count_by}
use Rattle.std.specs.List.{AllByRecursion}
use Rattle.savi_kinds.specs.declared.address.Addr.{Addr}
use Rattle.savi_kinds.specs.Orders.{is_below, is_above, IsRising}
use Rattle.mix_rules.specs.declared.state.AddrState.{AddrState}
use Rattle.mix_rules.specs.States.{nobody, has_state, is_held_at}
use Rattle.savi_access.specs.declared.row.Row.{Row}

-- the address of a row as a number
abbrev pub address_of : Row → ℕ
address_of row = row.address.0

-- the state of an address: none where it has no row
abbrev pub state_in : List Row → ℕ → AddrState
state_in [] a = nobody
state_in (row ∷ rows) a = if address_of row == a then row.state else state_in rows a

-- the row of an address with a state
abbrev pub address_row : ℕ → AddrState → Row
address_row a state = record { address = record { 0 = a }; state = state }

-- the rows of this address: one, or none where it has no state
abbrev pub rows_of : ℕ → AddrState → List Row
rows_of a state = if has_state state then address_row a state ∷ [] else []

-- the rows once this address has this state: those of lower addresses, its own, and those of higher ones
abbrev pub with_state : ℕ → AddrState → List Row → List Row
with_state a state rows = filter (is_below address_of a) rows ++ (rows_of a state ++ filter (is_above address_of a) rows)

-- each row has a state
abbrev pub AllStand : List Row → Type 0
AllStand rows = AllByRecursion (λ row. has_state row.state ≡ true) rows

-- the rows of a table
pub record IsTable (rows : List Row) : Type 0 where
  pub rising : IsRising address_of rows
  pub stand : AllStand rows

-- whether the port of this number holds the address of a row
abbrev pub is_at : ℕ → Row → Bool
is_at port row = is_held_at port row.state

-- how many addresses a port holds: each counts once
abbrev pub count_at : ℕ → List Row → ℕ
count_at port rows = count_by (is_at port) rows

-- what is told of a row: its address and its state
abbrev pub pair_of : Row → Addr × AddrState
pair_of row = (row.address, row.state)
