-- Ageing: what becomes of a state that nothing touches (RFC 6620 section 3.2 for what the states mean; the rows are this
-- switch's own).
use Rattle.std.specs.Prelude.{ℕ, ◌+◌, ◌<◌, ◌≤◌, Bool, true, false, Option, Some, None, List, [], ◌∷◌}
use Rattle.savi_kinds.specs.declared.port.Port.{Port}
use Rattle.fcfs_states.specs.declared.answer.Probe.{Probe}
use Rattle.fcfs_states.specs.declared.answer.Probe.TheVariants.{Trusted, To}
use Rattle.fcfs_states.specs.declared.state.Fcfs.{Fcfs}
use Rattle.fcfs_states.specs.declared.state.Fcfs.TheVariants.{NoBind, Tentative, Valid, TestLt, TestVp}
use Rattle.fcfs_states.specs.declared.times.Times.{Times}

-- these probes, each with its moment, behind one that is due before them, where there is one
abbrev pub probes_behind : ℕ → Option Probe → List (ℕ × Probe) → List (ℕ × Probe)
probes_behind due None probes = probes
probes_behind due (Some probe) probes = (due, probe) ∷ probes

module _ (k : Times) where
  -- the ageing table, a line for each thing that falls due: the state before, when it is due, the state after, the probe
  pub data AgeRow : Fcfs → ℕ → Fcfs → Option Probe → Type 0 where
    tentative_probe : {p : Port} {since : ℕ} → AgeRow (Tentative p since true) (since + k.gap) (Tentative p since false) (Some Trusted)
    test_lt_probe : {p : Port} {since : ℕ} → AgeRow (TestLt p since true) (since + k.gap) (TestLt p since false) (Some (To p))
    test_vp_probe : {p q : Port} {since : ℕ} → AgeRow (TestVp p q since true) (since + k.gap) (TestVp p q since false) (Some (To p))
    tentative_ends : {p : Port} {since : ℕ} {two : Bool} → AgeRow (Tentative p since two) (since + k.test) (Valid p (since + k.test + k.life)) None
    valid_ends : {p : Port} {until : ℕ} → AgeRow (Valid p until) until (TestLt p until true) (Some (To p))
    test_lt_ends : {p : Port} {since : ℕ} {two : Bool} → AgeRow (TestLt p since two) (since + k.test) NoBind None
    test_vp_ends : {p q : Port} {since : ℕ} {two : Bool} → AgeRow (TestVp p q since two) (since + k.test) (Valid q (since + k.test + k.life)) None

  -- nothing is due in the state at t
  abbrev pub IsRested : ℕ → Fcfs → Type 0
  IsRested t state = (due : ℕ) (new : Fcfs) (probe : Option Probe) → AgeRow state due new probe → t < due

  -- nothing is due in the state before this moment
  abbrev pub IsEarliest : ℕ → Fcfs → Type 0
  IsEarliest first state = (due : ℕ) (new : Fcfs) (probe : Option Probe) → AgeRow state due new probe → first ≤ due

  -- ageing to t: as often as something is due, the earliest first, each counted from its own moment
  module _ (t : ℕ) where
    pub data Ages : Fcfs → List (ℕ × Probe) → Fcfs → Type 0 where
      rests : {state : Fcfs} → IsRested t state → Ages state [] state
      goes_on : {state mid new : Fcfs} {due : ℕ} {probe : Option Probe} {probes : List (ℕ × Probe)} → AgeRow state due mid probe → due ≤ t → IsEarliest due state → Ages mid probes new → Ages state (probes_behind due probe probes) new
