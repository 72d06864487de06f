-- Ageing of an address under both methods: the two parts age apart from each other.
use Rattle.std.specs.Prelude.{ℕ, ◌≡◌, ◌≢◌, nat_le, Option, Some, None, List, [], ◌++◌, option_and_then, if◌then◌else◌}
use Rattle.fcfs_states.specs.declared.answer.Probe.{Probe}
use Rattle.fcfs_states.specs.declared.times.Times.{Times}
use Rattle.fcfs_states.specs.Ageing.{IsRested}
use Rattle.fcfs_states.specs.Aged.{aged, due_of}
use Rattle.dhcp_states.specs.declared.bound.Bound.{Bound}
use Rattle.dhcp_states.specs.Bindings.{binding_at}
use Rattle.mix_rules.specs.declared.state.AddrState.{AddrState}

-- what stands of a binding by DHCP at t
abbrev pub bound_at : ℕ → Option Bound → Option Bound
bound_at t dhcp = option_and_then (binding_at t) dhcp

-- a state with the probes that were sent on the way to it
pub record AgedAddr : Type 0 where
  pub state : AddrState
  pub probes : List (ℕ × Probe)

-- the state aged to t
abbrev pub aged_state : Times → ℕ → AddrState → AgedAddr
aged_state k t s =
    record {
      state = record { fixed = s.fixed; fcfs = (aged k t s.fcfs).state; dhcp = bound_at t s.dhcp };
      probes = (aged k t s.fcfs).probes;
    }

-- nothing is due in the state at t
pub record IsStill (k : Times) (t : ℕ) (s : AddrState) : Type 0 where
  pub rested : IsRested k t s.fcfs
  pub stands : bound_at t s.dhcp ≡ s.dhcp

-- the moment at which a binding by DHCP ends
abbrev pub bound_end : Option Bound → Option ℕ
bound_end None = None
bound_end (Some bound) = bound.until

-- the sooner of two moments, where there are any
abbrev pub sooner_moment : Option ℕ → Option ℕ → Option ℕ
sooner_moment None late = late
sooner_moment (Some first) None = Some first
sooner_moment (Some first) (Some late) = Some (if nat_le first late then first else late)

-- the moment at which something is due first
abbrev pub due_next : Times → AddrState → Option ℕ
due_next k s = sooner_moment (due_of k s.fcfs) (bound_end s.dhcp)

-- ageing to t changes nothing and sends no probe
abbrev pub untouched : AddrState → AgedAddr
untouched s = record { state = s; probes = [] }

-- ageing to t changes the state or sends a probe
abbrev pub IsTouched : Times → ℕ → AddrState → Type 0
IsTouched k t s = aged_state k t s ≢ untouched s

-- one ageing and a later one, as one
abbrev pub joined_ageing : AgedAddr → AgedAddr → AgedAddr
joined_ageing early late = record { state = late.state; probes = early.probes ++ late.probes }
