-- Ageing of rows, address by address.
use Rattle.std.proofs.Common.{◌≡◌, ◌≢◌, ℕ, ◌<◌, ◌≤◌, ◌==◌, ◌⊎◌, Bool, true, false, Option, Some, None, List, [], ◌∷◌, if◌then◌else◌, refl, sym, ◌∙◌, ap, subst, inl, inr, arith, rules}
use Rattle.std.specs.List.{AllByRecursion}
use Rattle.std.proofs.lemmas.Bool.{cases_Bool, cases_lt, cases_eq, eq-eqb}
use Rattle.fcfs_states.specs.declared.state.Fcfs.TheVariants.{NoBind}
use Rattle.fcfs_states.specs.declared.times.Times.{Times}
use Rattle.fcfs_states.specs.Premises.{AreTimes}
use Rattle.fcfs_states.proofs.AgeingLemmas.{rested_none}
use Rattle.mix_rules.specs.declared.state.AddrState.{AddrState}
use Rattle.mix_rules.specs.States.{nobody, has_state}
use Rattle.mix_rules.specs.Ageing.{AgedAddr, aged_state, due_next, untouched, IsStill}
use Rattle.mix_rules.proofs.AgeingLemmas.{aged-still, still-untouched, aged-joins-all}
use Rattle.mix_rules.proofs.EndLemmas.{still-touched, due-touched, idle-touched}
use Rattle.savi_access.specs.declared.row.Row.{Row}
use Rattle.savi_kinds.specs.Orders.{IsRising}
use Rattle.savi_kinds.proofs.Orders.{rising-head, rising-tail, rising-cons}
use Rattle.savi_access.specs.Rows.{address_of, state_in, address_row, rows_of, with_state, AllStand, IsTable}
use Rattle.savi_access.proofs.Parts.{other_address, none_there, all_joined, rising_with, stand_with}
use Rattle.savi_access.proofs.Pointwise.{changed_at}
use Rattle.savi_access.specs.Ages.{aged_row, aged_rows}
use Rattle.savi_access.proofs.Rows.{one_table, head_state}

pub gone : (state : AddrState) → has_state state ≡ false → state ≡ nobody
gone state is = search rules

pub rows_of-all : (P : Row → Type 0) (a : ℕ) (state : AddrState) → P (address_row a state) → AllByRecursion P (rows_of a state)
rows_of-all P a state holds =
    elim (cases_Bool (has_state state)) [
      | inl stands ↦ rw stands (holds, tt)
      | inr none ↦ rw none tt
    ]

pub table_with : (a : ℕ) (state : AddrState) (rows : List Row) → IsTable rows → IsTable (with_state a state rows)
table_with a state rows is = record { rising = rising_with a state rows is.rising; stand = stand_with a state rows is.stand }

module _ (k : Times) (t : ℕ) where
  aged-higher : (a : ℕ) (rows : List Row) → AllByRecursion (λ row. a < address_of row) rows → AllByRecursion (λ row. a < address_of row) (aged_rows k t rows)
  aged-higher a [] higher = tt
  aged-higher a (row ∷ rows) higher =
      all_joined (λ row. a < address_of row) (aged_row k t row) (aged_rows k t rows)
      (rows_of-all (λ row. a < address_of row) (address_of row) (aged_state k t row.state).state higher.0)
      (aged-higher a rows higher.1)

  aged-rising : (rows : List Row) → IsRising address_of rows → IsRising address_of (aged_rows k t rows)
  aged-rising [] rising = rising
  aged-rising (row ∷ rows) rising =
      let later : IsRising address_of (aged_rows k t rows) = aged-rising rows (rising-tail address_of row rows rising) in
      let higher : AllByRecursion (λ later. address_of row < address_of later) (aged_rows k t rows) = aged-higher (address_of row) rows (rising-head address_of row rows rising) in
      elim (cases_Bool (has_state (aged_state k t row.state).state)) [
        | inl stands ↦ rw stands (rising-cons address_of (address_row (address_of row) (aged_state k t row.state).state) (aged_rows k t rows) higher later)
        | inr none ↦ rw none later
      ]

  aged-stand : (rows : List Row) → AllStand (aged_rows k t rows)
  aged-stand [] = tt
  aged-stand (row ∷ rows) =
      let later : AllStand (aged_rows k t rows) = aged-stand rows in
      elim (cases_Bool (has_state (aged_state k t row.state).state)) [
        | inl stands ↦ rw stands (stands, later)
        | inr none ↦ rw none later
      ]

  pub aged-table : (rows : List Row) → IsTable rows → IsTable (aged_rows k t rows)
  aged-table rows is = record { rising = aged-rising rows is.rising; stand = aged-stand rows }

module _ (k : Times) (times : AreTimes k) where
  pub nobody-still : (t : ℕ) → IsStill k t nobody
  nobody-still t = record { rested = rested_none k t NoBind refl; stands = refl }

  pub nobody-aged : (t : ℕ) → aged_state k t nobody ≡ untouched nobody
  nobody-aged t = still-untouched k times t nobody (nobody-still t)

  pub still-state : (t : ℕ) (s : AddrState) → IsStill k t s → (aged_state k t s).state ≡ s
  still-state t s still = ap (λ (a : AgedAddr). a.state) (still-untouched k times t s still)

  -- the state of an address in aged rows is its state, aged
  pub state_in-aged : (t : ℕ) (rows : List Row) (a : ℕ) → IsRising address_of rows → state_in (aged_rows k t rows) a ≡ (aged_state k t (state_in rows a)).state
  state_in-aged t [] a rising = sym (still-state t nobody (nobody-still t))
  state_in-aged t (row ∷ rows) a rising =
      let later : state_in (aged_rows k t rows) a ≡ (aged_state k t (state_in rows a)).state = state_in-aged t rows a (rising-tail address_of row rows rising) in
      elim (cases_eq (address_of row) a) [
        | inl here ↦
            let test : (address_of row == a) ≡ true = eq-eqb (address_of row) a here in
            let higher : AllByRecursion (λ later. a < address_of later) rows = subst (λ n. AllByRecursion (λ later. n < address_of later) rows) here (rising-head address_of row rows rising) in
            let none_later : state_in (aged_rows k t rows) a ≡ nobody = none_there a (aged_rows k t rows) (aged-higher k t a rows higher) in
            elim (cases_Bool (has_state (aged_state k t row.state).state)) [
              | inl stands ↦ rw (stands, test) refl
              | inr none ↦ rw (none, test) (none_later ∙ sym (gone (aged_state k t row.state).state none))
            ]
        | inr other ↦
            let test : (address_of row == a) ≡ false = other_address (address_of row) a other in
            elim (cases_Bool (has_state (aged_state k t row.state).state)) [
              | inl stands ↦ rw (stands, test) later
              | inr none ↦ rw (none, test) later
            ]
      ]

  -- two tables that give each address the same state are one; here the one is made of aged rows
  same_table : (rows others : List Row) → IsTable rows → IsTable others → ((a : ℕ) → state_in rows a ≡ state_in others a) → rows ≡ others
  same_table rows others is are same = one_table rows others is.rising is.stand are.rising are.stand same

  pub aged-twice : (t u : ℕ) (rows : List Row) → t ≤ u → IsTable rows → aged_rows k u (aged_rows k t rows) ≡ aged_rows k u rows
  aged-twice t u rows after is =
      let early : IsTable (aged_rows k t rows) = aged-table k t rows is in
      same_table (aged_rows k u (aged_rows k t rows)) (aged_rows k u rows) (aged-table k u (aged_rows k t rows) early) (aged-table k u rows is)
      (λ a.
      state_in-aged u (aged_rows k t rows) a early.rising
      ∙ ap (λ s. (aged_state k u s).state) (state_in-aged t rows a is.rising)
      ∙ sym (ap (λ (s : AgedAddr). s.state) (aged-joins-all k times t u after (state_in rows a)))
      ∙ sym (state_in-aged u rows a is.rising))

  pub aged-same : (t : ℕ) (rows : List Row) → IsTable rows → ((a : ℕ) → IsStill k t (state_in rows a)) → aged_rows k t rows ≡ rows
  aged-same t rows is still =
      same_table (aged_rows k t rows) rows (aged-table k t rows is) is (λ a. state_in-aged t rows a is.rising ∙ still-state t (state_in rows a) (still a))

  -- a change and ageing commute
  pub aged-with : (t a : ℕ) (state : AddrState) (rows : List Row) → IsTable rows → aged_rows k t (with_state a state rows) ≡ with_state a (aged_state k t state).state (aged_rows k t rows)
  aged-with t a state rows is =
      let changed : IsTable (with_state a state rows) = table_with a state rows is in
      same_table (aged_rows k t (with_state a state rows)) (with_state a (aged_state k t state).state (aged_rows k t rows)) (aged-table k t (with_state a state rows) changed) (table_with a (aged_state k t state).state (aged_rows k t rows) (aged-table k t rows is))
      (λ b.
      state_in-aged t (with_state a state rows) b changed.rising
      ∙ ap (λ s. (aged_state k t s).state) (changed_at a b state rows)
      ∙ by_test b (a == b)
      ∙ sym (changed_at a b (aged_state k t state).state (aged_rows k t rows)))
    where
      by_test : (b : ℕ) (here : Bool) → (aged_state k t (if here then state else state_in rows b)).state ≡ (if here then (aged_state k t state).state else state_in (aged_rows k t rows) b)
      by_test b true = refl
      by_test b false = sym (state_in-aged t rows b is.rising)

  -- nothing is due in a state, or ageing gives it another one
  still_or_other : (t : ℕ) (s : AddrState) → IsStill k t s ⊎ ((aged_state k t s).state ≢ s)
  still_or_other t s = by_due (due_next k s) refl
    where
      by_due : (due : Option ℕ) → due_next k s ≡ due → IsStill k t s ⊎ ((aged_state k t s).state ≢ s)
      by_due None is = inl ((still-touched k times s t).1 (idle-touched k times s t is))
      by_due (Some due) is =
          elim (cases_lt t due) [
            | inl below ↦ inl ((still-touched k times s t).1 (λ touched. absurd (omega (arith, below, (due-touched k times s t due is).0 touched))))
            | inr by ↦ inr (λ same. (still-touched k times s t).0 (subst (IsStill k t) same (aged-still k times t s)) ((due-touched k times s t due is).1 by))
          ]

  -- ageing leaves rows as they are, or some address has another state in them
  pub same_or_other : (t : ℕ) (rows : List Row) → IsTable rows → ((a : ℕ) × (state_in (aged_rows k t rows) a ≢ state_in rows a)) ⊎ (aged_rows k t rows ≡ rows)
  same_or_other t rows is =
      elim (search_all rows is.rising) [
        | inl found ↦ inl (found.0, λ same. found.1 (sym (state_in-aged t rows found.0 is.rising) ∙ same))
        | inr still ↦ inr (aged-same t rows is still)
      ]
    where
      search_all : (rows : List Row) → IsRising address_of rows → ((a : ℕ) × ((aged_state k t (state_in rows a)).state ≢ state_in rows a)) ⊎ ((a : ℕ) → IsStill k t (state_in rows a))
      search_all [] rising = inr (λ a. nobody-still t)
      search_all (row ∷ rows) rising =
          elim (still_or_other t row.state) [
            | inr other ↦ inl (address_of row, subst (λ s. (aged_state k t s).state ≢ s) (sym (head_state row rows)) other)
            | inl still ↦
                elim (search_all rows (rising-tail address_of row rows rising)) [
                  | inl found ↦ inl (found.0, λ same. found.1 (later found.0 same))
                  | inr rest ↦
                      inr
                      (λ a.
                      elim (cases_Bool (address_of row == a)) [
                        | inl here ↦ rw here still
                        | inr apart ↦ rw apart (rest a)
                      ])
                ]
          ]
        where
          later : (a : ℕ) → (aged_state k t (state_in (row ∷ rows) a)).state ≡ state_in (row ∷ rows) a → (aged_state k t (state_in rows a)).state ≡ state_in rows a
          later a same =
              elim (cases_eq (address_of row) a) [
                | inl here ↦
                    let higher : AllByRecursion (λ later. a < address_of later) rows = subst (λ n. AllByRecursion (λ later. n < address_of later) rows) here (rising-head address_of row rows rising) in
                    subst (λ s. (aged_state k t s).state ≡ s) (sym (none_there a rows higher)) (still-state t nobody (nobody-still t))
                | inr apart ↦
                    let test : (address_of row == a) ≡ false = other_address (address_of row) a apart in
                    let whole : state_in (row ∷ rows) a ≡ state_in rows a = rw test refl in
                    subst (λ s. (aged_state k t s).state ≡ s) whole same
              ]
