-- Rows address by address.
use Rattle.std.proofs.Common.{◌≡◌, ◌≢◌, ℕ, ◌≤◌, ◌<◌, ◌==◌, false, if◌then◌else◌, List, [], ◌∷◌, ◌++◌, filter, refl, sym, ◌∙◌, inl, inr, arith, rules}
use Rattle.std.proofs.lemmas.Bool.{cases_Bool, cases_lt, cases_eq, ltb-true, ltb-false, eq-eqb}
use Rattle.mix_rules.specs.declared.state.AddrState.{AddrState}
use Rattle.mix_rules.specs.States.{nobody, has_state}
use Rattle.savi_access.specs.declared.row.Row.{Row}
use Rattle.savi_kinds.specs.Orders.{is_below, is_above}
use Rattle.savi_access.specs.Rows.{address_of, state_in, rows_of, with_state}
use Rattle.savi_access.proofs.Parts.{other_address}

-- rows above a in front of nothing, at an address
above_at : (a b : ℕ) (rows : List Row) → a < b → state_in (filter (is_above address_of a) rows) b ≡ state_in rows b
above_at a b [] higher = refl
above_at a b (row ∷ rows) higher =
    elim (cases_Bool (is_above address_of a row)) [
      | inl is ↦
          elim (cases_Bool (address_of row == b)) [
            | inl same ↦ rw (is, same) refl
            | inr other ↦ rw (is, other) (above_at a b rows higher)
          ]
      | inr not_above ↦
          let low : address_of row ≤ a = ltb-false a (address_of row) not_above in
          rw (not_above, other_address (address_of row) b (λ same. omega (arith, higher, low, same))) (above_at a b rows higher)
    ]

none_above : (a b : ℕ) (rows : List Row) → b ≤ a → state_in (filter (is_above address_of a) rows) b ≡ nobody
none_above a b [] low = refl
none_above a b (row ∷ rows) low =
    elim (cases_Bool (is_above address_of a row)) [
      | inl is ↦
          let high : a < address_of row = ltb-true a (address_of row) is in
          rw (is, other_address (address_of row) b (λ same. omega (arith, high, low, same))) (none_above a b rows low)
      | inr not_above ↦ rw not_above (none_above a b rows low)
    ]

-- rows below a, in front of others
behind_below : (a b : ℕ) (rows ys : List Row) → a ≤ b → state_in (filter (is_below address_of a) rows ++ ys) b ≡ state_in ys b
behind_below a b [] ys high = refl
behind_below a b (row ∷ rows) ys high =
    elim (cases_Bool (is_below address_of a row)) [
      | inl is ↦
          let low : address_of row < a = ltb-true (address_of row) a is in
          rw (is, other_address (address_of row) b (λ same. omega (arith, high, low, same))) (behind_below a b rows ys high)
      | inr not_below ↦ rw not_below (behind_below a b rows ys high)
    ]

below_at : (a b : ℕ) (rows ys : List Row) → b < a → state_in ys b ≡ nobody → state_in (filter (is_below address_of a) rows ++ ys) b ≡ state_in rows b
below_at a b [] ys low none = none
below_at a b (row ∷ rows) ys low none =
    elim (cases_Bool (is_below address_of a row)) [
      | inl is ↦
          elim (cases_Bool (address_of row == b)) [
            | inl same ↦ rw (is, same) refl
            | inr other ↦ rw (is, other) (below_at a b rows ys low none)
          ]
      | inr not_below ↦
          let high : a ≤ address_of row = ltb-false (address_of row) a not_below in
          rw (not_below, other_address (address_of row) b (λ same. omega (arith, low, high, same))) (below_at a b rows ys low none)
    ]

gone_is : (state : AddrState) → has_state state ≡ false → state ≡ nobody
gone_is state gone = search rules

-- an address's own row, in front of others
own_at : (a : ℕ) (state : AddrState) (ys : List Row) → state_in ys a ≡ nobody → state_in (rows_of a state ++ ys) a ≡ state
own_at a state ys none =
    elim (cases_Bool (has_state state)) [
      | inl stands ↦ rw (stands, eq-eqb a a refl) refl
      | inr gone ↦ rw gone (none ∙ sym (gone_is state gone))
    ]

other_at : (a b : ℕ) (state : AddrState) (ys : List Row) → a ≢ b → state_in (rows_of a state ++ ys) b ≡ state_in ys b
other_at a b state ys apart =
    elim (cases_Bool (has_state state)) [
      | inl stands ↦ rw (stands, other_address a b apart) refl
      | inr gone ↦ rw gone refl
    ]

pub changed_at : (a b : ℕ) (state : AddrState) (rows : List Row) → state_in (with_state a state rows) b ≡ (if a == b then state else state_in rows b)
changed_at a b state rows =
    let above = filter (is_above address_of a) rows in
    let ys = rows_of a state ++ above in
    elim (cases_eq a b) [
      | inl same ↦ rw (eq-eqb a b same) (rw (← same) (behind_below a a rows ys (omega arith) ∙ own_at a state above (none_above a a rows (omega arith))))
      | inr apart ↦
          rw (other_address a b apart)
          (elim (cases_lt a b) [
            | inl higher ↦ behind_below a b rows ys (omega (arith, higher)) ∙ other_at a b state above apart ∙ above_at a b rows higher
            | inr lower ↦
                let low : b < a = omega (arith, lower, apart) in
                below_at a b rows ys low (other_at a b state above apart ∙ none_above a b rows (omega (arith, low)))
          ])
    ]
