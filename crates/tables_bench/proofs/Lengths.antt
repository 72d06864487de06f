-- How many rows a table or a wheel has after a renewal.
use Rattle.std.proofs.Common.{◌≤◌, ◌+◌, ℕ, nat_lt, List, [], ◌∷◌, ◌++◌, Some, length, length-append, filter, arith, inl, inr}
use Rattle.std.proofs.lemmas.Bool.{cases_Bool, ltb-true}
use Rattle.mix_rules.specs.declared.state.AddrState.{AddrState}
use Rattle.mix_rules.specs.States.{has_state}
use Rattle.savi_access.specs.declared.row.Row.{Row}
use Rattle.timer_wheel.specs.declared.armed.Armed.{Armed}
use Rattle.savi_kinds.specs.Orders.{is_below, is_above}
use Rattle.timer_wheel.specs.Arms.{armed_address, with_due}
use Rattle.savi_access.specs.Rows.{address_of, rows_of, with_state}

-- no row is both below and above an address
length_parts : {X : Type 0} (number : X → ℕ) (a : ℕ) (rows : List X) → length (filter (λ row. nat_lt (number row) a) rows) + length (filter (λ row. nat_lt a (number row)) rows) ≤ length rows
length_parts number a [] = omega arith
length_parts {X} number a (row ∷ rows) =
    let rest : length (filter (λ (x : X). nat_lt (number x) a) rows) + length (filter (λ (x : X). nat_lt a (number x)) rows) ≤ length rows = length_parts number a rows in
    elim (cases_Bool (nat_lt (number row) a)) [
      | inl below ↦
          elim (cases_Bool (nat_lt a (number row))) [
            | inl above ↦ absurd (omega (arith, ltb-true (number row) a below, ltb-true a (number row) above))
            | inr not_above ↦ rw (below, not_above) (omega (arith, rest))
          ]
      | inr not_below ↦
          elim (cases_Bool (nat_lt a (number row))) [
            | inl above ↦ rw (not_below, above) (omega (arith, rest))
            | inr not_above ↦ rw (not_below, not_above) (omega (arith, rest))
          ]
    ]

one_row : (a : ℕ) (state : AddrState) → length (rows_of a state) ≤ 1
one_row a state =
    elim (cases_Bool (has_state state)) [
      | inl some ↦ rw some (omega arith)
      | inr none ↦ rw none (omega arith)
    ]

-- a renewal adds one row at most
pub length-with_state : (a : ℕ) (state : AddrState) (rows : List Row) → length (with_state a state rows) ≤ length rows + 1
length-with_state a state rows =
    omega (arith, length-append (filter (is_below address_of a) rows) (rows_of a state ++ filter (is_above address_of a) rows), length-append (rows_of a state) (filter (is_above address_of a) rows), length_parts address_of a rows, one_row a state)

pub length-with_due : (a due : ℕ) (arms : List Armed) → length (with_due a (Some due) arms) ≤ length arms + 1
length-with_due a due arms =
    omega (arith, length-append (filter (is_below armed_address a) arms) (record { address = record { 0 = a }; due = due } ∷ filter (is_above armed_address a) arms), length_parts (λ (armed : Armed). armed.address.0) a arms)
