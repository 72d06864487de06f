-- Ageing as a function: a law says that it is the one that the table allows.
use Rattle.std.specs.Prelude.{ℕ, ◌≢◌, zero, suc, ◌+◌, nat_le, true, false, Option, Some, None, List, [], if◌then◌else◌}
use Rattle.fcfs_states.specs.declared.answer.Probe.{Probe}
use Rattle.fcfs_states.specs.declared.answer.Probe.TheVariants.{Trusted, To}
use Rattle.fcfs_states.specs.declared.state.Fcfs.{Fcfs}
use Rattle.fcfs_states.specs.declared.state.Fcfs.TheVariants.{NoBind, Tentative, Valid, TestLt, TestVp}
use Rattle.fcfs_states.specs.declared.times.Times.{Times}
use Rattle.fcfs_states.specs.Ageing.{probes_behind}

-- the moment at which something is due first
abbrev pub due_of : Times → Fcfs → Option ℕ
due_of k NoBind = None
due_of k (Tentative p since two) = Some (since + (if two then k.gap else k.test))
due_of k (Valid p until) = Some until
due_of k (TestLt p since two) = Some (since + (if two then k.gap else k.test))
due_of k (TestVp p q since two) = Some (since + (if two then k.gap else k.test))

-- the state after what is due first at this moment
abbrev pub after_due : Times → ℕ → Fcfs → Fcfs
after_due k due NoBind = NoBind
after_due k due (Tentative p since true) = Tentative p since false
after_due k due (Tentative p since false) = Valid p (due + k.life)
after_due k due (Valid p until) = TestLt p due true
after_due k due (TestLt p since true) = TestLt p since false
after_due k due (TestLt p since false) = NoBind
after_due k due (TestVp p q since true) = TestVp p q since false
after_due k due (TestVp p q since false) = Valid q (due + k.life)

-- the probe that it sends
abbrev pub probe_sent : Fcfs → Option Probe
probe_sent NoBind = None
probe_sent (Tentative p since two) = if two then Some Trusted else None
probe_sent (Valid p until) = Some (To p)
probe_sent (TestLt p since two) = if two then Some (To p) else None
probe_sent (TestVp p q since two) = if two then Some (To p) else None

-- a state with the probes that were sent on the way to it
pub record AgedState : Type 0 where
  pub state : Fcfs
  pub probes : List (ℕ × Probe)

-- nothing fell due
abbrev pub rested : Fcfs → AgedState
rested state = record { state = state; probes = [] }

abbrev pub after_probe : ℕ → Option Probe → AgedState → AgedState
after_probe due probe later = record { state = later.state; probes = probes_behind due probe later.probes }

-- what is due first, where that is at or before t, and then what comes later
abbrev pub aged_at : ℕ → Fcfs → Option ℕ → (ℕ → AgedState) → AgedState
aged_at t state None later = rested state
aged_at t state (Some due) later = if nat_le due t then after_probe due (probe_sent state) (later due) else rested state

-- at most so many rows of the ageing table, the earliest first
unfoldable pub aged_by : ℕ → Times → ℕ → Fcfs → AgedState
aged_by zero k t state = rested state
aged_by (suc rows) k t state = aged_at t state (due_of k state) (λ due. aged_by rows k t (after_due k due state))

-- aged to t: never more than five rows follow one another
unfoldable pub aged : Times → ℕ → Fcfs → AgedState
aged k t state = aged_by 5 k t state

-- ageing to t changes the state or sends a probe
abbrev pub IsTouched : Times → ℕ → Fcfs → Type 0
IsTouched k t state = aged k t state ≢ rested state
