-- How many addresses a port holds once one address has another state.
use Rattle.std.proofs.Common.{◌≡◌, ◌⊎◌, ℕ, ◌+◌, ◌≤◌, Bool, true, false, cond, List, ◌++◌, filter, length, if◌then◌else◌, refl, ◌∙◌, ap, inl, inr, arith}
use Rattle.std.proofs.lemmas.List.Sums.{sum_by-append, count_by-le-length}
use Rattle.mix_rules.specs.declared.state.AddrState.{AddrState}
use Rattle.mix_rules.specs.States.{nobody, has_state, is_held_at}
use Rattle.savi_access.specs.declared.row.Row.{Row}
use Rattle.savi_kinds.specs.Orders.{is_below, is_above, IsRising}
use Rattle.savi_access.specs.Rows.{address_of, state_in, rows_of, with_state, AllStand, is_at, count_at}
use Rattle.savi_access.proofs.Parts.{parts, state_cases}

-- how often a port holds an address of this state: once or not at all
abbrev pub held_once : ℕ → AddrState → ℕ
held_once port state = if is_held_at port state then 1 else 0

-- the state of an address counts as often as its rows do
own_count : (port a : ℕ) (state : AddrState) → (has_state state ≡ true) ⊎ (state ≡ nobody) → count_at port (rows_of a state) ≡ held_once port state
own_count port a state (inl stands) = rw stands (one (is_held_at port state))
  where
    one : (b : Bool) → 0 + cond b 1 0 ≡ cond b 1 0
    one true = refl
    one false = refl
own_count port a state (inr none) = rw none refl

held_with : (port a : ℕ) (state : AddrState) (rows : List Row) → (has_state state ≡ true) ⊎ (state ≡ nobody) → count_at port (with_state a state rows) ≡ count_at port (filter (is_below address_of a) rows) + (held_once port state + count_at port (filter (is_above address_of a) rows))
held_with port a state rows known =
    let all : count_at port (with_state a state rows) ≡ count_at port (filter (is_below address_of a) rows) + count_at port (rows_of a state ++ filter (is_above address_of a) rows) = sum_by-append (λ row. cond (is_at port row) 1 0) (filter (is_below address_of a) rows) (rows_of a state ++ filter (is_above address_of a) rows) in
    let some : count_at port (rows_of a state ++ filter (is_above address_of a) rows) ≡ count_at port (rows_of a state) + count_at port (filter (is_above address_of a) rows) = sum_by-append (λ row. cond (is_at port row) 1 0) (rows_of a state) (filter (is_above address_of a) rows) in
    omega (arith, all, some, own_count port a state known)

pub recounted : (port a : ℕ) (state : AddrState) (rows : List Row) → IsRising address_of rows → AllStand rows → (has_state state ≡ true) ⊎ (state ≡ nobody) → count_at port (with_state a state rows) + held_once port (state_in rows a) ≡ count_at port rows + held_once port state
recounted port a state rows rising stand known =
    let now : count_at port (with_state a state rows) ≡ count_at port (filter (is_below address_of a) rows) + (held_once port state + count_at port (filter (is_above address_of a) rows)) = held_with port a state rows known in
    let was : count_at port rows ≡ count_at port (filter (is_below address_of a) rows) + (held_once port (state_in rows a) + count_at port (filter (is_above address_of a) rows)) = ap (count_at port) (parts a rows rising stand) ∙ held_with port a (state_in rows a) rows (state_cases rows a stand) in
    omega (arith, now, was)

-- what a port holds of one address it holds of all
pub held_least : (port a : ℕ) (rows : List Row) → IsRising address_of rows → AllStand rows → held_once port (state_in rows a) ≤ count_at port rows
held_least port a rows rising stand =
    let was : count_at port rows ≡ count_at port (filter (is_below address_of a) rows) + (held_once port (state_in rows a) + count_at port (filter (is_above address_of a) rows)) = ap (count_at port) (parts a rows rising stand) ∙ held_with port a (state_in rows a) rows (state_cases rows a stand) in
    omega (arith, was)

-- no port holds more addresses than there are rows
pub held_most : (port : ℕ) (rows : List Row) → count_at port rows ≤ length rows
held_most port rows = count_by-le-length (is_at port) rows
