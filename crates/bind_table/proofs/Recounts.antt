-- The numbers that are kept of what each port holds, once one address has another state.
use Rattle.std.proofs.Common.{◌≡◌, ◌⊎◌, ℕ, ◌+◌, ◌-◌, ◌≤◌, true, List, slice_index, get_or, arith}
use Rattle.mix_rules.specs.declared.state.AddrState.{AddrState}
use Rattle.mix_rules.specs.States.{nobody, has_state}
use Rattle.savi_access.specs.declared.row.Row.{Row}
use Rattle.savi_kinds.specs.Orders.{IsRising}
use Rattle.savi_access.specs.Rows.{address_of, state_in, with_state, AllStand, count_at}
use Rattle.savi_access.proofs.Held.{held_once, recounted}

-- the numbers once one address has the state after in place of the state before
abbrev pub IsRecounted : AddrState → AddrState → List ℕ → List ℕ → Type 0
IsRecounted before after old new = (port : ℕ) → 1 ≤ port → port ≤ 16 → slice_index new (port - 1) + held_once port before ≡ slice_index old (port - 1) + held_once port after

-- the numbers go on to be those of the rows
pub counts_kept : (a : ℕ) (state : AddrState) (rows : List Row) (old new : List ℕ) → IsRising address_of rows → AllStand rows → (has_state state ≡ true) ⊎ (state ≡ nobody) → IsRecounted (state_in rows a) state old new → ((port : ℕ) → 1 ≤ port → port ≤ 16 → get_or old (port - 1) 0 ≡ count_at port rows) → (port : ℕ) → 1 ≤ port → port ≤ 16 → get_or new (port - 1) 0 ≡ count_at port (with_state a state rows)
counts_kept a state rows old new rising stand known changed counted port low high =
    let change : get_or new (port - 1) 0 + held_once port (state_in rows a) ≡ get_or old (port - 1) 0 + held_once port state = changed port low high in
    omega (arith, change, counted port low high, recounted port a state rows rising stand known)
