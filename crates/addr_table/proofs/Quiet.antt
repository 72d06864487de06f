-- Where nothing is due.
use Rattle.std.proofs.Common.{◌≡◌, ◌≢◌, ◌↔◌, ℕ, ◌<◌, ◌≤◌, ◌==◌, nat_le, Bool, true, false, Option, Some, None, is_some, List, [], ◌∷◌, ◌++◌, refl, sym, ◌∙◌, ap, subst, inl, inr, arith}
use Rattle.std.specs.List.{AllByRecursion}
use Rattle.std.proofs.lemmas.Bool.{cases_Bool, leb-true, leb-false, lt-leb, true≢false, false≢true}
use Rattle.savi_kinds.specs.declared.address.Addr.{Addr}
use Rattle.fcfs_states.specs.declared.times.Times.{Times}
use Rattle.fcfs_states.specs.Premises.{AreTimes}
use Rattle.mix_rules.specs.declared.state.AddrState.{AddrState}
use Rattle.mix_rules.specs.Ageing.{AgedAddr, aged_state, due_next, IsStill}
use Rattle.savi_access.specs.declared.row.Row.{Row}
use Rattle.savi_access.specs.Rows.{address_of, state_in, rows_of, AllStand, IsTable}
use Rattle.timer_wheel.specs.Arms.{due_within}
use Rattle.savi_access.specs.Ages.{aged_row, aged_rows, AllStill}
use Rattle.savi_access.specs.Sends.{sent_of, row_sends, all_sends, in_order}
use Rattle.addr_table.specs.Turns.{turns_of}
use Rattle.addr_table.specs.Dues.{IsUndue}
use Rattle.addr_table.specs.OneTurn.{IsQuiet}
use Rattle.addr_table.proofs.States.{nobody-still, idle-still, untouched-by, turns_fall}
use Rattle.savi_access.proofs.Aged.{state_in-aged}
use Rattle.addr_table.proofs.Firsts.{first_due, IsFirst, first_is, all_late, moment_in, never-some, some-same}
use Rattle.savi_access.proofs.Parts.{all_weaker}

module _ (k : Times) (times : AreTimes k) (t : ℕ) where
  all-still : (rows : List Row) → AllByRecursion (λ row. IsStill k t row.state) rows → (a : ℕ) → IsStill k t (state_in rows a)
  all-still [] still a = nobody-still k t
  all-still (row ∷ rows) still a = elim (cases_Bool (address_of row == a)) [ inl here ↦ rw here still.0 | inr other ↦ rw other (all-still rows still.1 a) ]

  same-aged : (rows : List Row) → AllStand rows → AllByRecursion (λ row. IsStill k t row.state) rows → aged_rows k t rows ≡ rows
  same-aged [] stand still = refl
  same-aged (row ∷ rows) stand still =
      let own : aged_row k t row ≡ rows_of (address_of row) row.state = ap (λ (a : AgedAddr). rows_of (address_of row) a.state) (untouched-by k times t row.state still.0) in
      let one : rows_of (address_of row) row.state ≡ row ∷ [] = rw stand.0 refl in
      ap (λ own. own ++ aged_rows k t rows) (own ∙ one) ∙ ap (λ rest. row ∷ rest) (same-aged rows stand.1 still.1)

  none-sent : (rows : List Row) → AllByRecursion (λ row. IsStill k t row.state) rows → all_sends k t rows ≡ []
  none-sent [] still = refl
  none-sent (row ∷ rows) still =
      let own : row_sends k t row ≡ [] = ap (λ (a : AgedAddr). sent_of (address_of row) a.probes) (untouched-by k times t row.state still.0) in
      ap (λ own. own ++ all_sends k t rows) own ∙ none-sent rows still.1

  pub quiet : (rows : List Row) (per_port : ℕ) → IsTable rows → due_within t (first_due k rows) ≡ None → IsQuiet t (record { rows = rows; times = k; per_port = per_port })
  quiet rows per_port table none =
      let still : AllByRecursion (λ row. IsStill k t row.state) rows =
      all_weaker (λ row. (n : ℕ) → due_next k row.state ≡ Some n → t < n) (λ row. IsStill k t row.state) (λ row late. idle-still k times t row.state late) rows (all_late k t rows table.rising (first_due k rows) refl none)
      in
      record {
        none = ap in_order (none-sent rows still);
        aged = same-aged rows table.stand still;
        still = all-still rows still;
      }

  -- where something is due, ageing changes the state in which it is due first
  pub changed-by : (rows : List Row) → IsTable rows → (due : ℕ) (a : Addr) → first_due k rows ≡ Some (due, a) → due ≤ t → aged_rows k t rows ≢ rows
  changed-by rows table due a first by same =
      let at : IsFirst k due a.0 rows = first_is k rows table.rising due a first in
      let kept : (aged_state k t (state_in rows a.0)).state ≡ state_in rows a.0 = sym (state_in-aged k times t rows a.0 table.rising) ∙ ap (λ (rs : List Row). state_in rs a.0) same in
      let less : turns_of (aged_state k t (state_in rows a.0)).state < turns_of (state_in rows a.0) = turns_fall k t (state_in rows a.0) due at.own by in
      let equal : turns_of (aged_state k t (state_in rows a.0)).state ≡ turns_of (state_in rows a.0) = ap turns_of kept in
      omega (arith, less, equal)

  none_by : (o : Option (ℕ × Addr)) → is_some (due_within t o) ≡ false → due_within t o ≡ None
  none_by None is = refl
  none_by (Some f) is = elim (cases_Bool (nat_le f.0 t)) [ inl by ↦ absurd (true≢false (rw by at is)) | inr late ↦ rw late refl ]

  some_by : (rows : List Row) → IsTable rows → (o : Option (ℕ × Addr)) → first_due k rows ≡ o → is_some (due_within t o) ≡ true → aged_rows k t rows ≢ rows
  some_by rows table None first is = absurd (false≢true is)
  some_by rows table (Some f) first is =
      elim (cases_Bool (nat_le f.0 t)) [
        | inl by ↦ changed-by rows table f.0 f.1 first (leb-true f.0 t by)
        | inr late ↦ absurd (false≢true (rw late at is))
      ]

  -- what a test says that asks whether anything is due by t
  pub quiet_by : (rows : List Row) (per_port : ℕ) → IsTable rows → (b : Bool) → b ≡ is_some (due_within t (first_due k rows)) → b ≡ false → IsQuiet t (record { rows = rows; times = k; per_port = per_port })
  quiet_by rows per_port table b is not_so = quiet rows per_port table (none_by (first_due k rows) (sym is ∙ not_so))

  pub changes_by : (rows : List Row) → IsTable rows → (b : Bool) → b ≡ is_some (due_within t (first_due k rows)) → ((b ≡ true) ↔ (aged_rows k t rows ≢ rows))
  changes_by rows table b is = (λ so. some_by rows table (first_due k rows) refl (sym is ∙ so), λ changed. elim (cases_Bool b) [ inl so ↦ so | inr not_so ↦ absurd (changed (quiet_by rows 0 table b is not_so).aged) ])

module _ (k : Times) (times : AreTimes k) where
  -- before what is due first up to a moment nothing is due

  none_undue : (t u : ℕ) (o : Option (ℕ × Addr)) → IsUndue (moment_in (due_within t o)) t u → due_within u o ≡ None
  none_undue t u None undue = refl
  none_undue t u (Some f) undue =
      elim (cases_Bool (nat_le f.0 t)) [
        | inl by ↦ let before : u < f.0 = rw by at undue in rw (lt-leb f.0 u before) refl
        | inr late ↦ let before : u ≤ t = rw late at undue in rw (lt-leb f.0 u (omega (arith, before, leb-false f.0 t late))) refl
      ]

  pub quiet_undue : (t u : ℕ) (rows : List Row) (per_port : ℕ) → IsTable rows → (o : Option ℕ) → o ≡ moment_in (due_within t (first_due k rows)) → IsUndue o t u → IsQuiet u (record { rows = rows; times = k; per_port = per_port })
  quiet_undue t u rows per_port table o is undue = quiet k times u rows per_port table (none_undue t u (first_due k rows) (subst (λ (x : Option ℕ). IsUndue x t u) is undue))

  -- where all is still at a moment, it is due later

  still_late : (u : ℕ) (s : AddrState) (due : ℕ) → IsStill k u s → due_next k s ≡ Some due → u < due
  still_late u s due still own =
      elim (cases_Bool (nat_le due u)) [
        | inl by ↦
            let less : turns_of (aged_state k u s).state < turns_of s = turns_fall k u s due own (leb-true due u by) in
            let equal : turns_of (aged_state k u s).state ≡ turns_of s = ap (λ (a : AgedAddr). turns_of a.state) (untouched-by k times u s still) in
            absurd (omega (arith, less, equal))
        | inr late ↦ leb-false due u late
      ]

  pub later_than : (t u : ℕ) (rows : List Row) → IsTable rows → AllStill k u rows → (o : Option (ℕ × Addr)) → first_due k rows ≡ o → (due : ℕ) → moment_in (due_within t o) ≡ Some due → u < due
  later_than t u rows table still None first due is = absurd (never-some (sym is))
  later_than t u rows table still (Some f) first due is =
      elim (cases_Bool (nat_le f.0 t)) [
        | inl by ↦
            let same : f.0 ≡ due = some-same f.0 due (rw by at is) in
            let at : IsFirst k f.0 f.1.0 rows = first_is k rows table.rising f.0 f.1 first in
            let late : u < f.0 = still_late u (state_in rows f.1.0) f.0 (still f.1.0) at.own in
            omega (arith, late, same)
        | inr late ↦ absurd (never-some (sym (rw late at is)))
      ]
