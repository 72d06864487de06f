-- The rows of a table as those below an address, its own, and those above it.
use Rattle.std.proofs.Common.{◌≡◌, ◌⊎◌, ℕ, ◌≤◌, ◌<◌, ◌==◌, Bool, true, false, cond, List, [], ◌∷◌, ◌++◌, filter, refl, sym, ap, subst, inl, inr, arith}
use Rattle.std.specs.List.{AllByRecursion}
use Rattle.std.proofs.lemmas.Bool.{cases_Bool, cases_lt, cases_eq, ltb-true, lt-ltb, le-ltb, eqb-true, eq-eqb}
use Rattle.mix_rules.specs.declared.state.AddrState.{AddrState}
use Rattle.mix_rules.specs.States.{nobody, has_state}
use Rattle.savi_access.specs.declared.row.Row.{Row}
use Rattle.savi_kinds.specs.Orders.{is_below, is_above, IsRising}
use Rattle.savi_kinds.proofs.Orders.{rising-head, rising-tail, rising-cons}
use Rattle.savi_access.specs.Rows.{address_of, state_in, address_row, rows_of, with_state, AllStand}

-- what holds of each item of a list holds of each that a filter leaves
pub all_filtered : {X : Type 0} (P : X → Type 0) (p : X → Bool) (xs : List X) → AllByRecursion P xs → AllByRecursion P (filter p xs)
all_filtered P p [] all = tt
all_filtered P p (x ∷ xs) all =
    let rest : AllByRecursion P (filter p xs) = all_filtered P p xs all.1 in
    elim (cases_Bool (p x)) [
      | inl passes ↦ rw passes (all.0, rest)
      | inr stops ↦ rw stops rest
    ]

pub all_weaker : {X : Type 0} (P Q : X → Type 0) → ((x : X) → P x → Q x) → (xs : List X) → AllByRecursion P xs → AllByRecursion Q xs
all_weaker P Q weaker [] all = tt
all_weaker P Q weaker (x ∷ xs) all = (weaker x all.0, all_weaker P Q weaker xs all.1)

pub all_joined : {X : Type 0} (P : X → Type 0) (xs ys : List X) → AllByRecursion P xs → AllByRecursion P ys → AllByRecursion P (xs ++ ys)
all_joined P [] ys front back = back
all_joined P (x ∷ xs) ys front back = (front.0, all_joined P xs ys front.1 back)

-- those that a filter leaves pass it
pub all_pass : {X : Type 0} (p : X → Bool) (xs : List X) → AllByRecursion (λ x. p x ≡ true) (filter p xs)
all_pass p [] = tt
all_pass p (x ∷ xs) =
    elim (cases_Bool (p x)) [
      | inl passes ↦ rw passes (passes, all_pass p xs)
      | inr stops ↦ rw stops (all_pass p xs)
    ]

-- rows of higher addresses than a: none is below it, all are above it, and it has no state there
pub none_below : (a : ℕ) (rows : List Row) → AllByRecursion (λ row. a < address_of row) rows → filter (is_below address_of a) rows ≡ []
none_below a [] higher = refl
none_below a (row ∷ rows) higher = rw (le-ltb (address_of row) a (omega (arith, higher.0))) (none_below a rows higher.1)

pub all_above : (a : ℕ) (rows : List Row) → AllByRecursion (λ row. a < address_of row) rows → filter (is_above address_of a) rows ≡ rows
all_above a [] higher = refl
all_above a (row ∷ rows) higher = rw (lt-ltb a (address_of row) higher.0) (ap (λ rest. row ∷ rest) (all_above a rows higher.1))

pub other_address : (a b : ℕ) → (a ≡ b → ⊥) → (a == b) ≡ false
other_address a b other =
    elim (cases_Bool (a == b)) [
      | inl same ↦ absurd (other (eqb-true a b same))
      | inr is ↦ is
    ]

pub none_there : (a : ℕ) (rows : List Row) → AllByRecursion (λ row. a < address_of row) rows → state_in rows a ≡ nobody
none_there a [] higher = refl
none_there a (row ∷ rows) higher = rw (other_address (address_of row) a (λ same. omega (arith, higher.0, same))) (none_there a rows higher.1)

pub rows_of-standing : (a : ℕ) (state : AddrState) → has_state state ≡ true → rows_of a state ≡ address_row a state ∷ []
rows_of-standing a state stands = rw stands refl

-- a rising list of rows is that of the state that an address has there
pub parts : (a : ℕ) (rows : List Row) → IsRising address_of rows → AllStand rows → rows ≡ with_state a (state_in rows a) rows
parts a [] rising stand = refl
parts a (row ∷ rows) rising stand =
    elim (cases_lt (address_of row) a) [
      | inl lower ↦
          rw (lt-ltb (address_of row) a lower, le-ltb a (address_of row) (omega (arith, lower)), other_address (address_of row) a (λ same. omega (arith, lower, same)))
          (ap (λ rest. row ∷ rest) (parts a rows (rising-tail address_of row rows rising) stand.1))
      | inr not_lower ↦ upper not_lower (cases_eq (address_of row) a)
    ]
  where
    upper : a ≤ address_of row → (address_of row ≡ a) ⊎ (address_of row ≡ a → ⊥) → row ∷ rows ≡ with_state a (state_in (row ∷ rows) a) (row ∷ rows)
    upper not_lower (inl same) =
        let higher : AllByRecursion (λ later. a < address_of later) rows = subst (λ n. AllByRecursion (λ later. n < address_of later) rows) same (rising-head address_of row rows rising) in
        let mine : address_row a row.state ≡ row = ap (λ n. address_row n row.state) (sym same) in
        rw (le-ltb (address_of row) a not_lower, le-ltb a (address_of row) (omega (arith, same)), eq-eqb (address_of row) a same, none_below a rows higher, all_above a rows higher, rows_of-standing a row.state stand.0)
        (ap (λ first. first ∷ rows) (sym mine))
    upper not_lower (inr other) =
        let above : a < address_of row = omega (arith, not_lower, other) in
        let higher : AllByRecursion (λ later. a < address_of later) rows = all_weaker (λ later. address_of row < address_of later) (λ later. a < address_of later) (λ later h. omega (arith, h, above)) rows (rising-head address_of row rows rising) in
        rw (le-ltb (address_of row) a not_lower, lt-ltb a (address_of row) above, other_address (address_of row) a other, none_below a rows higher, all_above a rows higher, none_there a rows higher)
        refl

-- a change keeps the rows rising
pub rising_filter : (p : Row → Bool) (rows : List Row) → IsRising address_of rows → IsRising address_of (filter p rows)
rising_filter p [] rising = rising
rising_filter p (row ∷ rows) rising =
    let rest : IsRising address_of (filter p rows) = rising_filter p rows (rising-tail address_of row rows rising) in
    elim (cases_Bool (p row)) [
      | inl passes ↦ rw passes (rising-cons address_of row (filter p rows) (all_filtered (λ later. address_of row < address_of later) p rows (rising-head address_of row rows rising)) rest)
      | inr stops ↦ rw stops rest
    ]

pub rising_joined : (a : ℕ) (front back : List Row) → IsRising address_of front → IsRising address_of back → AllByRecursion (λ row. address_of row < a) front → AllByRecursion (λ row. a ≤ address_of row) back → IsRising address_of (front ++ back)
rising_joined a [] back rising later low high = later
rising_joined a (row ∷ front) back rising later low high =
    rising-cons address_of row (front ++ back)
    (all_joined (λ other. address_of row < address_of other) front back (rising-head address_of row front rising) (all_weaker (λ other. a ≤ address_of other) (λ other. address_of row < address_of other) (λ other h. omega (arith, h, low.0)) back high))
    (rising_joined a front back (rising-tail address_of row front rising) later low.1 high)

pub below_all : (a : ℕ) (rows : List Row) → AllByRecursion (λ row. address_of row < a) (filter (is_below address_of a) rows)
below_all a rows = all_weaker (λ row. is_below address_of a row ≡ true) (λ row. address_of row < a) (λ row h. ltb-true (address_of row) a h) (filter (is_below address_of a) rows) (all_pass (is_below address_of a) rows)

pub above_all : (a : ℕ) (rows : List Row) → AllByRecursion (λ row. a < address_of row) (filter (is_above address_of a) rows)
above_all a rows = all_weaker (λ row. is_above address_of a row ≡ true) (λ row. a < address_of row) (λ row h. ltb-true a (address_of row) h) (filter (is_above address_of a) rows) (all_pass (is_above address_of a) rows)

pub rising_with : (a : ℕ) (state : AddrState) (rows : List Row) → IsRising address_of rows → IsRising address_of (with_state a state rows)
rising_with a state rows rising =
    let back : List Row = filter (is_above address_of a) rows in
    let back_rising : IsRising address_of back = rising_filter (is_above address_of a) rows rising in
    let higher : AllByRecursion (λ row. a < address_of row) back = above_all a rows in
    let least : AllByRecursion (λ row. a ≤ address_of row) back = all_weaker (λ row. a < address_of row) (λ row. a ≤ address_of row) (λ row h. omega (arith, h)) back higher in
    let P : Bool → Type 0 = λ b. IsRising address_of (filter (is_below address_of a) rows ++ (cond b (address_row a state ∷ []) [] ++ back)) in
    elim (cases_Bool (has_state state)) [
      | inl stands ↦ subst P (sym stands) (rising_joined a (filter (is_below address_of a) rows) (address_row a state ∷ back) (rising_filter (is_below address_of a) rows rising) (rising-cons address_of (address_row a state) back higher back_rising) (below_all a rows) (omega arith, least))
      | inr none ↦ subst P (sym none) (rising_joined a (filter (is_below address_of a) rows) back (rising_filter (is_below address_of a) rows rising) back_rising (below_all a rows) least)
    ]

pub stand_with : (a : ℕ) (state : AddrState) (rows : List Row) → AllStand rows → AllStand (with_state a state rows)
stand_with a state rows stand =
    let front : AllStand (filter (is_below address_of a) rows) = all_filtered (λ row. has_state row.state ≡ true) (is_below address_of a) rows stand in
    let back : AllStand (filter (is_above address_of a) rows) = all_filtered (λ row. has_state row.state ≡ true) (is_above address_of a) rows stand in
    elim (cases_Bool (has_state state)) [
      | inl stands ↦ all_joined (λ row. has_state row.state ≡ true) (filter (is_below address_of a) rows) (rows_of a state ++ filter (is_above address_of a) rows) front (rw stands (stands, back))
      | inr none ↦ all_joined (λ row. has_state row.state ≡ true) (filter (is_below address_of a) rows) (rows_of a state ++ filter (is_above address_of a) rows) front (rw none back)
    ]

-- an address has a state, or none at all
pub state_cases : (rows : List Row) (a : ℕ) → AllStand rows → (has_state (state_in rows a) ≡ true) ⊎ (state_in rows a ≡ nobody)
state_cases [] a stand = inr refl
state_cases (row ∷ rows) a stand =
    elim (cases_Bool (address_of row == a)) [
      | inl here ↦ inl (rw here stand.0)
      | inr later ↦ rw later (state_cases rows a stand.1)
    ]
