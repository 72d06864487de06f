-- The ageing table and the function that it is.
use Rattle.std.proofs.Common.{◌≡◌, ℕ, zero, suc, ◌+◌, ◌<◌, ◌≤◌, true, false, inl, inr, refl, sym, ◌∙◌, ap, arith, Option, Some, None, List, if◌then◌else◌, nat_le, ◌≢◌, subst, ◌↔◌, IfSome}
use Rattle.std.proofs.lemmas.Bool.{cases_Bool, leb-true, leb-false, le-leb, lt-leb, cases_lt}
use Rattle.fcfs_states.specs.declared.answer.Probe.{Probe}
use Rattle.fcfs_states.specs.declared.state.Fcfs.{Fcfs}
use Rattle.fcfs_states.specs.declared.state.Fcfs.TheVariants.{NoBind, Tentative, Valid, TestLt, TestVp}
use Rattle.fcfs_states.specs.declared.times.Times.{Times}
use Rattle.fcfs_states.specs.Premises.{AreTimes}
use Rattle.fcfs_states.specs.Ageing.{AgeRow, tentative_probe, test_lt_probe, test_vp_probe, tentative_ends, valid_ends, test_lt_ends, test_vp_ends, IsRested, IsEarliest, Ages, rests, goes_on}
use Rattle.fcfs_states.specs.Aged.{AgedState, due_of, after_due, probe_sent, rested, aged_by, aged, IsTouched}

-- how many rows may still follow
abbrev pub rank : Fcfs → ℕ
rank NoBind = 0
rank (TestLt p since false) = 1
rank (TestLt p since true) = 2
rank (Valid p until) = 3
rank (Tentative p since false) = 4
rank (Tentative p since true) = 5
rank (TestVp p q since false) = 4
rank (TestVp p q since true) = 5

-- how many probes may still follow
abbrev pub probes_left : Fcfs → ℕ
probes_left NoBind = 0
probes_left (TestLt p since false) = 0
probes_left (TestLt p since true) = 1
probes_left (Valid p until) = 2
probes_left (Tentative p since false) = 2
probes_left (Tentative p since true) = 3
probes_left (TestVp p q since false) = 2
probes_left (TestVp p q since true) = 3

-- there is a number, or none
data Known (o : Option ℕ) : Type 0 where
  nothing : o ≡ None → Known o
  something : (n : ℕ) → o ≡ Some n → Known o

known : (o : Option ℕ) → Known o
known None = nothing refl
known (Some n) = something n refl

module _ (k : Times) where
  -- what is due first is a row of the table
  pub first_row : (state : Fcfs) (due : ℕ) → due_of k state ≡ Some due → AgeRow k state due (after_due k due state) (probe_sent state)
  first_row NoBind due e = cc
  first_row (Tentative p since true) due e = let at : since + k.gap ≡ due = cc in rw (← at) tentative_probe
  first_row (Tentative p since false) due e = let at : since + k.test ≡ due = cc in rw (← at) tentative_ends
  first_row (Valid p until) due e = let at : until ≡ due = cc in rw (← at) valid_ends
  first_row (TestLt p since true) due e = let at : since + k.gap ≡ due = cc in rw (← at) test_lt_probe
  first_row (TestLt p since false) due e = let at : since + k.test ≡ due = cc in rw (← at) test_lt_ends
  first_row (TestVp p q since true) due e = let at : since + k.gap ≡ due = cc in rw (← at) test_vp_probe
  first_row (TestVp p q since false) due e = let at : since + k.test ≡ due = cc in rw (← at) test_vp_ends

  -- nothing is due before it
  row_after : AreTimes k → {state new : Fcfs} {due : ℕ} {probe : Option Probe} → AgeRow k state due new probe → (first : ℕ) → due_of k state ≡ Some first → first ≤ due
  row_after times (tentative_probe {since = since}) first e = let at : since + k.gap ≡ first = cc in omega arith
  row_after times (test_lt_probe {since = since}) first e = let at : since + k.gap ≡ first = cc in omega arith
  row_after times (test_vp_probe {since = since}) first e = let at : since + k.gap ≡ first = cc in omega arith
  row_after times (tentative_ends {since = since} {two = true}) first e = let at : since + k.gap ≡ first = cc in omega arith
  row_after times (tentative_ends {since = since} {two = false}) first e = let at : since + k.test ≡ first = cc in omega arith
  row_after times (valid_ends {until = until}) first e = let at : until ≡ first = cc in omega arith
  row_after times (test_lt_ends {since = since} {two = true}) first e = let at : since + k.gap ≡ first = cc in omega arith
  row_after times (test_lt_ends {since = since} {two = false}) first e = let at : since + k.test ≡ first = cc in omega arith
  row_after times (test_vp_ends {since = since} {two = true}) first e = let at : since + k.gap ≡ first = cc in omega arith
  row_after times (test_vp_ends {since = since} {two = false}) first e = let at : since + k.test ≡ first = cc in omega arith

  -- a state without a row has nothing due
  row_some : {state new : Fcfs} {due : ℕ} {probe : Option Probe} → AgeRow k state due new probe → (first : ℕ) × (due_of k state ≡ Some first)
  row_some (tentative_probe {since = since}) = (since + k.gap, refl)
  row_some (test_lt_probe {since = since}) = (since + k.gap, refl)
  row_some (test_vp_probe {since = since}) = (since + k.gap, refl)
  row_some (tentative_ends {since = since} {two = two}) = (since + (if two then k.gap else k.test), refl)
  row_some (valid_ends {until = until}) = (until, refl)
  row_some (test_lt_ends {since = since} {two = two}) = (since + (if two then k.gap else k.test), refl)
  row_some (test_vp_ends {since = since} {two = two}) = (since + (if two then k.gap else k.test), refl)

  pub earliest : AreTimes k → (state : Fcfs) (first : ℕ) → due_of k state ≡ Some first → IsEarliest k first state
  earliest times state first e = λ due new probe row. row_after times row first e

  pub rested_none : (t : ℕ) (state : Fcfs) → due_of k state ≡ None → IsRested k t state
  rested_none t state e = λ due new probe row. let some : (first : ℕ) × (due_of k state ≡ Some first) = row_some row in let is : due_of k state ≡ Some some.0 = some.1 in cc

  pub rested_late : AreTimes k → (t : ℕ) (state : Fcfs) (first : ℕ) → due_of k state ≡ Some first → t < first → IsRested k t state
  rested_late times t state first e late = λ due new probe row. let after : first ≤ due = row_after times row first e in omega arith

  -- a row that is the earliest is what is due first
  pub record IsFirst (state new : Fcfs) (due : ℕ) (probe : Option Probe) : Type 0 where
    pub due_is : due_of k state ≡ Some due
    pub new_is : after_due k due state ≡ new
    pub probe_is : probe_sent state ≡ probe

  pub first_is : AreTimes k → {state new : Fcfs} {due : ℕ} {probe : Option Probe} → AgeRow k state due new probe → IsEarliest k due state → IsFirst state new due probe
  first_is times tentative_probe first = record { due_is = refl; new_is = refl; probe_is = refl }
  first_is times test_lt_probe first = record { due_is = refl; new_is = refl; probe_is = refl }
  first_is times test_vp_probe first = record { due_is = refl; new_is = refl; probe_is = refl }
  first_is times (tentative_ends {p = p} {since = since} {two = true}) first = absurd (let below : since + k.test ≤ since + k.gap = first _ _ _ tentative_probe in omega arith)
  first_is times (tentative_ends {two = false}) first = record { due_is = refl; new_is = refl; probe_is = refl }
  first_is times valid_ends first = record { due_is = refl; new_is = refl; probe_is = refl }
  first_is times (test_lt_ends {p = p} {since = since} {two = true}) first = absurd (let below : since + k.test ≤ since + k.gap = first _ _ _ test_lt_probe in omega arith)
  first_is times (test_lt_ends {two = false}) first = record { due_is = refl; new_is = refl; probe_is = refl }
  first_is times (test_vp_ends {p = p} {q = q} {since = since} {two = true}) first = absurd (let below : since + k.test ≤ since + k.gap = first _ _ _ test_vp_probe in omega arith)
  first_is times (test_vp_ends {two = false}) first = record { due_is = refl; new_is = refl; probe_is = refl }

  -- each row that is first leaves one row fewer to follow
  pub rank-passed : (state : Fcfs) (due : ℕ) → due_of k state ≡ Some due → rank (after_due k due state) + 1 ≡ rank state
  rank-passed NoBind due e = cc
  rank-passed (Tentative p since true) due e = refl
  rank-passed (Tentative p since false) due e = refl
  rank-passed (Valid p until) due e = refl
  rank-passed (TestLt p since true) due e = refl
  rank-passed (TestLt p since false) due e = refl
  rank-passed (TestVp p q since true) due e = refl
  rank-passed (TestVp p q since false) due e = refl

  module _ (times : AreTimes k) (t : ℕ) where
    -- the function is an ageing by the table
    pub Ages-aged_by : (rows : ℕ) (state : Fcfs) → rank state ≤ rows → Ages k t state (aged_by rows k t state).probes (aged_by rows k t state).state
    unfolding aged_by
    Ages-aged_by zero state few =
        elim (known (due_of k state)) [
          | nothing e ↦ rests (rested_none t state e)
          | something due e ↦ let left : rank (after_due k due state) + 1 ≡ rank state = rank-passed state due e in absurd (omega arith)
        ]
    Ages-aged_by (suc rows) state few =
        elim (known (due_of k state)) [
          | nothing e ↦ rw e (rests (rested_none t state e))
          | something due e ↦
              let left : rank (after_due k due state) + 1 ≡ rank state = rank-passed state due e in
              let later : rank (after_due k due state) ≤ rows → Ages k t (after_due k due state) (aged_by rows k t (after_due k due state)).probes (aged_by rows k t (after_due k due state)).state = Ages-aged_by rows (after_due k due state) in
              elim (cases_Bool (nat_le due t)) [
                | inl by ↦ rw (e, by) (goes_on (first_row state due e) (leb-true due t by) (earliest times state due e) (later (omega arith)))
                | inr late ↦ rw (e, late) (rests (rested_late times t state due e (leb-false due t late)))
              ]
        ]

    -- and there is no other one
    pub Ages-only : {state new : Fcfs} {probes : List (ℕ × Probe)} → Ages k t state probes new → (rows : ℕ) → rank state ≤ rows → aged_by rows k t state ≡ record { state = new; probes = probes }
    unfolding aged_by
    Ages-only (rests rest) zero few = refl
    Ages-only (rests {state = state} rest) (suc rows) few =
        elim (known (due_of k state)) [
          | nothing e ↦ rw e refl
          | something due e ↦ rw (e, lt-leb due t (rest due _ _ (first_row state due e))) refl
        ]
    Ages-only (goes_on {state = state} {due = due} row by first later) zero few =
        let is : IsFirst state _ due _ = first_is times row first in
        let left : rank (after_due k due state) + 1 ≡ rank state = rank-passed state due is.due_is in
        absurd (omega arith)
    Ages-only (goes_on {state = state} {mid = mid} {new = new} {due = due} {probe = probe} {probes = probes} row by first later) (suc rows) few =
        let is : IsFirst state mid due probe = first_is times row first in
        let left : rank (after_due k due state) + 1 ≡ rank state = rank-passed state due is.due_is in
        let left_mid : rank mid + 1 ≡ rank state = ap (λ s. rank s + 1) (sym is.new_is) ∙ left in
        let rest : aged_by rows k t mid ≡ record { state = new; probes = probes } = Ages-only later rows (omega arith) in
        rw (is.due_is, le-leb due t by, is.new_is, is.probe_is, rest) refl

-- no more than five rows follow
pub rank-most : (state : Fcfs) → rank state ≤ 5
rank-most NoBind = omega arith
rank-most (TestLt p since false) = omega arith
rank-most (TestLt p since true) = omega arith
rank-most (Valid p until) = omega arith
rank-most (Tentative p since false) = omega arith
rank-most (Tentative p since true) = omega arith
rank-most (TestVp p q since false) = omega arith
rank-most (TestVp p q since true) = omega arith

module _ (k : Times) (times : AreTimes k) (t : ℕ) where
  pub Ages-rest : {state new : Fcfs} {probes : List (ℕ × Probe)} → Ages k t state probes new → IsRested k t new
  Ages-rest (rests rest) = rest
  Ages-rest (goes_on row by first later) = Ages-rest later

  pub Ages-aged : (state : Fcfs) → Ages k t state (aged k t state).probes (aged k t state).state
  unfolding aged
  Ages-aged state = Ages-aged_by k times t 5 state (rank-most state)

  pub aged-is : {state new : Fcfs} {probes : List (ℕ × Probe)} → Ages k t state probes new → aged k t state ≡ record { state = new; probes = probes }
  unfolding aged
  aged-is {state = state} ages = Ages-only k times t ages 5 (rank-most state)

  pub Ages-one : {state new : Fcfs} {probes : List (ℕ × Probe)} → Ages k t state probes new → let other : AgedState = record { state = new; probes = probes } in other ≡ aged k t state
  Ages-one ages = sym (aged-is ages)

  -- ageing touches a state exactly from the moment on at which something is due
  pub untouched : (state : Fcfs) → IsRested k t state → aged k t state ≡ rested state
  untouched state rest = aged-is (rests rest)

  pub touched : (state : Fcfs) (due : ℕ) → due_of k state ≡ Some due → due ≤ t → aged k t state ≢ rested state
  touched state due due_is by same =
      let rest : IsRested k t (aged k t state).state = Ages-rest (Ages-aged state) in
      let late : t < due = subst (IsRested k t) (ap (λ (a : AgedState). a.state) same) rest due _ _ (first_row k state due due_is) in
      omega arith

module _ (k : Times) (times : AreTimes k) where
  first_touched : (state : Fcfs) (due : ℕ) → due_of k state ≡ Some due → (t : ℕ) → (IsTouched k t state ↔ (due ≤ t))
  first_touched state due due_is t = (go, touched k times t state due due_is)
    where
      go : IsTouched k t state → due ≤ t
      go is = elim (cases_lt t due) [ inl late ↦ absurd (is (untouched k times t state (rested_late k times t state due due_is late))) | inr by ↦ by ]

  pub due_first : (state : Fcfs) → IfSome (due_of k state) (λ due. (t : ℕ) → (IsTouched k t state ↔ (due ≤ t)))
  due_first NoBind = tt
  due_first (Tentative p since two) = first_touched (Tentative p since two) (since + (if two then k.gap else k.test)) refl
  due_first (Valid p until) = first_touched (Valid p until) until refl
  due_first (TestLt p since two) = first_touched (TestLt p since two) (since + (if two then k.gap else k.test)) refl
  due_first (TestVp p q since two) = first_touched (TestVp p q since two) (since + (if two then k.gap else k.test)) refl
