-- What is armed follows the rows.
use Rattle.std.proofs.Common.{◌≡◌, ℕ, ◌+◌, ◌<◌, ◌≤◌, ◌==◌, nat_lt, Bool, true, false, Option, Some, None, List, [], ◌∷◌, ◌++◌, filter, length, append-nil, refl, sym, ◌∙◌, ap, subst, inl, inr, arith}
use Rattle.std.specs.List.{AllByRecursion}
use Rattle.std.proofs.lemmas.Bool.{cases_Bool, eqb-true, ltb-true, le-ltb}
use Rattle.std.proofs.lemmas.List.{length-append}
use Rattle.std.proofs.lemmas.List.Elements.{filter-append}
use Rattle.fcfs_states.specs.declared.times.Times.{Times}
use Rattle.mix_rules.specs.declared.state.AddrState.{AddrState}
use Rattle.mix_rules.specs.Ageing.{due_next as due_of}
use Rattle.savi_access.specs.declared.row.Row.{Row}
use Rattle.savi_kinds.specs.Orders.{IsRising, is_below, is_above}
use Rattle.savi_kinds.proofs.Orders.{rising-head, rising-tail}
use Rattle.savi_access.specs.Rows.{address_of, state_in, with_state}
use Rattle.savi_access.proofs.Parts.{none_there}
use Rattle.timer_wheel.specs.declared.armed.Armed.{Armed}
use Rattle.timer_wheel.specs.Arms.{armed_address, due_in, pair_for, with_due}
use Rattle.addr_table.specs.Dues.{dues}
use Rattle.addr_table.proofs.Splits.{lower, higher, flat-with}

-- a filter over what it left, and over what another one left that shares nothing with it
filter_twice : {X : Type 0} (p : X → Bool) (xs : List X) → filter p (filter p xs) ≡ filter p xs
filter_twice p [] = refl
filter_twice p (x ∷ xs) =
    elim (cases_Bool (p x)) [
      | inl passes ↦ rw (passes, passes) (ap (λ rest. x ∷ rest) (filter_twice p xs))
      | inr stops ↦ rw stops (filter_twice p xs)
    ]

filter_apart : {X : Type 0} (p q : X → Bool) → ((x : X) → p x ≡ true → q x ≡ false) → (xs : List X) → filter q (filter p xs) ≡ []
filter_apart p q apart [] = refl
filter_apart p q apart (x ∷ xs) =
    elim (cases_Bool (p x)) [
      | inl passes ↦ rw (passes, apart x passes) (filter_apart p q apart xs)
      | inr stops ↦ rw stops (filter_apart p q apart xs)
    ]

-- to arm an address that was taken out
pub due_again : (a : ℕ) (due : Option ℕ) (arms : List Armed) → with_due a due (with_due a None arms) ≡ with_due a due arms
due_again a due arms =
    let front : List Armed = filter (is_below armed_address a) arms in
    let back : List Armed = filter (is_above armed_address a) arms in
    let below : filter (is_below armed_address a) (front ++ back) ≡ front =
    filter-append (is_below armed_address a) front back
    ∙ ap (λ xs. xs ++ filter (is_below armed_address a) back) (filter_twice (is_below armed_address a) arms)
    ∙ ap (λ xs. front ++ xs) (filter_apart (is_above armed_address a) (is_below armed_address a) (λ x above. le-ltb x.address.0 a (let more : a < x.address.0 = ltb-true a x.address.0 above in omega (arith, more))) arms)
    ∙ append-nil front
    in
    let above : filter (is_above armed_address a) (front ++ back) ≡ back =
    filter-append (is_above armed_address a) front back
    ∙ ap (λ xs. xs ++ filter (is_above armed_address a) back) (filter_apart (is_below armed_address a) (is_above armed_address a) (λ x low. le-ltb a x.address.0 (let less : x.address.0 < a = ltb-true x.address.0 a low in omega (arith, less))) arms)
    ∙ filter_twice (is_above armed_address a) arms
    in
    ap (λ xs. xs ++ (pair_for a due ++ filter (is_above armed_address a) (front ++ back))) below ∙ ap (λ xs. front ++ (pair_for a due ++ xs)) above

module _ (k : Times) where
  pair_passes : (p : ℕ → Bool) (a : ℕ) → p a ≡ true → (d : Option ℕ) → filter (λ (armed : Armed). p armed.address.0) (pair_for a d) ≡ pair_for a d
  pair_passes p a passes None = refl
  pair_passes p a passes (Some due) = rw passes refl

  pair_stops : (p : ℕ → Bool) (a : ℕ) → p a ≡ false → (d : Option ℕ) → filter (λ (armed : Armed). p armed.address.0) (pair_for a d) ≡ []
  pair_stops p a stops None = refl
  pair_stops p a stops (Some due) = rw stops refl

  dues-filter : (p : ℕ → Bool) (rows : List Row) → dues k (filter (λ row. p (address_of row)) rows) ≡ filter (λ (armed : Armed). p armed.address.0) (dues k rows)
  dues-filter p [] = refl
  dues-filter p (row ∷ rows) =
      let own : List Armed = pair_for (address_of row) (due_of k row.state) in
      let all : filter (λ (armed : Armed). p armed.address.0) (own ++ dues k rows) ≡ filter (λ (armed : Armed). p armed.address.0) own ++ filter (λ (armed : Armed). p armed.address.0) (dues k rows) = filter-append (λ (armed : Armed). p armed.address.0) own (dues k rows) in
      elim (cases_Bool (p (address_of row))) [
        | inl passes ↦ rw passes (ap (λ rest. own ++ rest) (dues-filter p rows) ∙ ap (λ mine. mine ++ filter (λ (armed : Armed). p armed.address.0) (dues k rows)) (sym (pair_passes p (address_of row) passes (due_of k row.state))) ∙ sym all)
        | inr stops ↦ rw stops (dues-filter p rows ∙ ap (λ mine. mine ++ filter (λ (armed : Armed). p armed.address.0) (dues k rows)) (sym (pair_stops p (address_of row) stops (due_of k row.state))) ∙ sym all)
      ]

  dues-with : (a : ℕ) (state : AddrState) (rows : List Row) → dues k (with_state a state rows) ≡ dues k (lower a rows) ++ (pair_for a (due_of k state) ++ dues k (higher a rows))
  dues-with a state rows = flat-with (λ row. pair_for (address_of row) (due_of k row.state)) (λ s. pair_for a (due_of k s)) a (λ s. refl) refl state rows

  -- to change a state is to arm its address anew
  pub arms-with : (a : ℕ) (state : AddrState) (rows : List Row) → with_due a (due_of k state) (dues k rows) ≡ dues k (with_state a state rows)
  arms-with a state rows =
      ap (λ xs. xs ++ (pair_for a (due_of k state) ++ filter (is_above armed_address a) (dues k rows))) (sym (dues-filter (λ n. nat_lt n a) rows))
      ∙ ap (λ xs. dues k (lower a rows) ++ (pair_for a (due_of k state) ++ xs)) (sym (dues-filter (λ n. nat_lt a n) rows))
      ∙ sym (dues-with a state rows)

  length-pair : (a : ℕ) (d : Option ℕ) → length (pair_for a d) ≤ 1
  length-pair a None = omega arith
  length-pair a (Some due) = omega arith

  length-dues : (rows : List Row) → length (dues k rows) ≤ length rows
  length-dues [] = omega arith
  length-dues (row ∷ rows) = omega (arith, length-append (pair_for (address_of row) (due_of k row.state)) (dues k rows), length-pair (address_of row) (due_of k row.state), length-dues rows)

  -- without the address there are no more pairs than other rows
  pub length-others : (a : ℕ) (state : AddrState) (rows : List Row) → due_of k state ≡ None → length (dues k (with_state a state rows)) ≤ length (lower a rows) + length (higher a rows)
  length-others a state rows none =
      let all : dues k (with_state a state rows) ≡ dues k (lower a rows) ++ dues k (higher a rows) = dues-with a state rows ∙ ap (λ d. dues k (lower a rows) ++ (pair_for a d ++ dues k (higher a rows))) none in
      omega (arith, ap length all, length-append (dues k (lower a rows)) (dues k (higher a rows)), length-dues (lower a rows), length-dues (higher a rows))

  -- what is armed for an address is what is due first in its state
  pair_there : (b a : ℕ) → (b == a) ≡ true → (d : Option ℕ) (rest : List Armed) → due_in rest a ≡ None → due_in (pair_for b d ++ rest) a ≡ d
  pair_there b a here None rest none = none
  pair_there b a here (Some due) rest none = rw here refl

  pair_other : (b a : ℕ) → (b == a) ≡ false → (d : Option ℕ) (rest : List Armed) → due_in (pair_for b d ++ rest) a ≡ due_in rest a
  pair_other b a other None rest = refl
  pair_other b a other (Some due) rest = rw other refl

  pub dues-at : (rows : List Row) → IsRising address_of rows → (a : ℕ) → due_in (dues k rows) a ≡ due_of k (state_in rows a)
  dues-at [] rising a = refl
  dues-at (row ∷ rows) rising a =
      elim (cases_Bool (address_of row == a)) [
        | inl here ↦
            let high : AllByRecursion (λ other. a < address_of other) rows = subst (λ n. AllByRecursion (λ other. n < address_of other) rows) (eqb-true (address_of row) a here) (rising-head address_of row rows rising) in
            rw here (pair_there (address_of row) a here (due_of k row.state) (dues k rows) (dues-at rows (rising-tail address_of row rows rising) a ∙ ap (due_of k) (none_there a rows high)))
        | inr other ↦ rw other (pair_other (address_of row) a other (due_of k row.state) (dues k rows) ∙ dues-at rows (rising-tail address_of row rows rising) a)
      ]
