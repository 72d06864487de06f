-- What may still fall due only falls, and with it the probes that are to come.
use Rattle.std.proofs.Common.{◌≡◌, ℕ, ◌+◌, ◌*◌, ◌<◌, ◌≤◌, ◌⊎◌, true, false, Option, Some, None, List, [], ◌∷◌, ◌++◌, length, length-append, refl, ◌∙◌, ap, inl, inr, arith}
use Rattle.std.proofs.lemmas.Bool.{cases_lt}
use Rattle.std.proofs.lemmas.List.{length-map}
use Rattle.fcfs_states.specs.declared.answer.Probe.{Probe}
use Rattle.fcfs_states.specs.declared.state.Fcfs.{Fcfs}
use Rattle.fcfs_states.specs.declared.state.Fcfs.TheVariants.{NoBind, Tentative, Valid, TestLt, TestVp}
use Rattle.fcfs_states.specs.declared.times.Times.{Times}
use Rattle.fcfs_states.specs.Premises.{AreTimes}
use Rattle.fcfs_states.specs.Ageing.{probes_behind, AgeRow, tentative_probe, test_lt_probe, test_vp_probe, tentative_ends, valid_ends, test_lt_ends, test_vp_ends, Ages, rests, goes_on}
use Rattle.fcfs_states.proofs.AgeingLemmas.{Ages-aged}
use Rattle.mix_rules.specs.declared.state.AddrState.{AddrState}
use Rattle.mix_rules.specs.Ageing.{aged_state, bound_end, due_next, IsStill}
use Rattle.mix_rules.proofs.EndLemmas.{still-touched, due-touched, idle-touched}
use Rattle.savi_access.specs.declared.row.Row.{Row}
use Rattle.savi_access.specs.Rows.{address_of, rows_of, AllStand}
use Rattle.savi_access.proofs.Parts.{rows_of-standing}
use Rattle.savi_access.specs.Ages.{aged_row, aged_rows}
use Rattle.savi_access.specs.Sends.{row_sends, all_sends}
use Rattle.addr_table.specs.Turns.{steps_left, ends_left, turns_of, turns_left}
use Rattle.addr_table.proofs.States.{ends_aged, turns_fall}
use Rattle.addr_table.proofs.Splits.{turns_left-append, turns_left-own}
use Rattle.savi_access.proofs.Aged.{still-state}
use Rattle.savi_access.proofs.AllSends.{sent_at}

module _ (k : Times) where
  row-turns : {state new : Fcfs} {due : ℕ} {probe : Option Probe} → AgeRow k state due new probe → (probes : List (ℕ × Probe)) (left : ℕ) → left + length probes ≤ steps_left new → left + length (probes_behind due probe probes) ≤ steps_left state
  row-turns tentative_probe probes left few = omega arith
  row-turns test_lt_probe probes left few = omega arith
  row-turns test_vp_probe probes left few = omega arith
  row-turns (tentative_ends {two = true}) probes left few = omega arith
  row-turns (tentative_ends {two = false}) probes left few = omega arith
  row-turns valid_ends probes left few = omega arith
  row-turns (test_lt_ends {two = true}) probes left few = omega arith
  row-turns (test_lt_ends {two = false}) probes left few = omega arith
  row-turns (test_vp_ends {two = true}) probes left few = omega arith
  row-turns (test_vp_ends {two = false}) probes left few = omega arith

  ages-turns : (t : ℕ) {state new : Fcfs} {probes : List (ℕ × Probe)} → Ages k t state probes new → steps_left new + length probes ≤ steps_left state
  ages-turns t (rests rest) = omega arith
  ages-turns t (goes_on {new = new} {probes = probes} row by first later) = row-turns row probes (steps_left new) (ages-turns t later)

module _ (k : Times) (times : AreTimes k) (t : ℕ) where
  -- each probe of a state takes off one of its turns
  state-turns : (s : AddrState) → turns_of (aged_state k t s).state + length (aged_state k t s).probes ≤ turns_of s
  state-turns s = omega (arith, ages-turns k t (Ages-aged k times t s.fcfs), ends_aged t s.dhcp)

  -- and so does each change of it
  still_or_fewer : (s : AddrState) → IsStill k t s ⊎ (turns_of (aged_state k t s).state < turns_of s)
  still_or_fewer s = by_due (due_next k s) refl
    where
      by_due : (due : Option ℕ) → due_next k s ≡ due → IsStill k t s ⊎ (turns_of (aged_state k t s).state < turns_of s)
      by_due None is = inl ((still-touched k times s t).1 (idle-touched k times s t is))
      by_due (Some due) is =
          elim (cases_lt t due) [
            | inl before ↦ inl ((still-touched k times s t).1 (λ touched. absurd (omega (arith, before, (due-touched k times s t due is).0 touched))))
            | inr by ↦ inr (turns_fall k t s due is by)
          ]

  first-turns : (row : Row) (rows : List Row) → turns_left (aged_rows k t (row ∷ rows)) ≡ turns_of (aged_state k t row.state).state + turns_left (aged_rows k t rows)
  first-turns row rows =
      let all : turns_left (aged_rows k t (row ∷ rows)) ≡ turns_left (aged_row k t row) + turns_left (aged_rows k t rows) = turns_left-append (aged_row k t row) (aged_rows k t rows) in
      omega (arith, all, turns_left-own (address_of row) (aged_state k t row.state).state)

  pub rows-turns : (rows : List Row) → turns_left (aged_rows k t rows) + length (all_sends k t rows) ≤ turns_left rows
  rows-turns [] = omega arith
  rows-turns (row ∷ rows) =
      let all : length (all_sends k t (row ∷ rows)) ≡ length (row_sends k t row) + length (all_sends k t rows) = length-append (row_sends k t row) (all_sends k t rows) in
      let own : length (row_sends k t row) ≡ length (aged_state k t row.state).probes = length-map (aged_state k t row.state).probes (sent_at (address_of row)) in
      omega (arith, all, own, first-turns row rows, state-turns row.state, rows-turns rows)

  fewer_rows : (rows : List Row) → turns_left (aged_rows k t rows) ≤ turns_left rows
  fewer_rows rows = omega (arith, rows-turns rows)

  -- ageing leaves rows as they are, or less may fall due in them
  pub same_or_fewer : (rows : List Row) → AllStand rows → (aged_rows k t rows ≡ rows) ⊎ (turns_left (aged_rows k t rows) < turns_left rows)
  same_or_fewer [] stand = inl refl
  same_or_fewer (row ∷ rows) stand =
      elim (still_or_fewer row.state) [
        | inr fewer ↦ inr (omega (arith, first-turns row rows, fewer, fewer_rows rows))
        | inl still ↦
            let kept : (aged_state k t row.state).state ≡ row.state = still-state k times t row.state still in
            let own : aged_row k t row ≡ row ∷ [] = ap (rows_of (address_of row)) kept ∙ rows_of-standing (address_of row) row.state stand.0 in
            elim (same_or_fewer rows stand.1) [
              | inl same ↦ inl (ap (λ mine. mine ++ aged_rows k t rows) own ∙ ap (λ rest. row ∷ rest) same)
              | inr fewer ↦ let left : turns_of (aged_state k t row.state).state ≡ turns_of row.state = ap turns_of kept in inr (omega (arith, first-turns row rows, left, fewer))
            ]
      ]

-- at most six things may fall due in a state
few_steps : (f : Fcfs) → steps_left f ≤ 5
few_steps NoBind = omega arith
few_steps (Tentative p since true) = omega arith
few_steps (Tentative p since false) = omega arith
few_steps (Valid p until) = omega arith
few_steps (TestLt p since true) = omega arith
few_steps (TestLt p since false) = omega arith
few_steps (TestVp p q since true) = omega arith
few_steps (TestVp p q since false) = omega arith

few_ends : (end : Option ℕ) → ends_left end ≤ 1
few_ends None = omega arith
few_ends (Some end) = omega arith

pub few_turns_of : (s : AddrState) → turns_of s ≤ 6
few_turns_of s = omega (arith, few_steps s.fcfs, few_ends (bound_end s.dhcp))

pub few_turns : (rows : List Row) → turns_left rows ≤ 6 * length rows
few_turns [] = omega arith
few_turns (row ∷ rows) = omega (arith, few_turns_of row.state, few_turns rows)
