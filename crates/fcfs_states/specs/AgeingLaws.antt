-- What it is to be the one ageing of a state, and probes in the order of their moments.
use Rattle.std.specs.Prelude.{ℕ, ◌≡◌, ◌<◌, List, [], ◌∷◌, ◌++◌}
use Rattle.fcfs_states.specs.declared.answer.Probe.{Probe}
use Rattle.fcfs_states.specs.declared.state.Fcfs.{Fcfs}
use Rattle.fcfs_states.specs.declared.times.Times.{Times}
use Rattle.fcfs_states.specs.Ageing.{Ages}
use Rattle.fcfs_states.specs.Aged.{AgedState}

-- the table gives this state and these probes, and no others
pub record IsOnlyAgeing (k : Times) (t : ℕ) (state : Fcfs) (outcome : AgedState) : Type 0 where
  pub rows : Ages k t state outcome.probes outcome.state
  pub only : (other : AgedState) → Ages k t state other.probes other.state → other ≡ outcome

-- one ageing and a later one, as one
abbrev pub joined_ageing : AgedState → AgedState → AgedState
joined_ageing early late = record { state = late.state; probes = early.probes ++ late.probes }

-- each moment is above the one before it, the first above this one
abbrev pub AreRisingAfter : ℕ → List (ℕ × Probe) → Type 0
AreRisingAfter moment [] = Unit {0}
AreRisingAfter moment (p ∷ ps) = (moment < p.0) × AreRisingAfter p.0 ps

-- each moment is above the one before it
abbrev pub AreRising : List (ℕ × Probe) → Type 0
AreRising [] = Unit {0}
AreRising (p ∷ ps) = AreRisingAfter p.0 ps
