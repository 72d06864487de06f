-- The state of each address after a list of marks.
use Rattle.std.specs.Prelude.{ℕ, Option, Some, None, if◌then◌else◌, List, [], ◌∷◌}
use Rattle.savi_kinds.specs.declared.port.Port.{Port}
use Rattle.savi_kinds.specs.declared.plan.Method.{Method}
use Rattle.fcfs_states.specs.declared.answer.Answer.{Answer}
use Rattle.fcfs_states.specs.declared.times.Times.{Times}
use Rattle.fcfs_states.specs.FirstCome.{TimedEvent}
use Rattle.fcfs_states.specs.Next.{silence}
use Rattle.mix_rules.specs.declared.state.AddrState.{AddrState}
use Rattle.mix_rules.specs.States.{nobody, IsLiveAt}
use Rattle.mix_rules.specs.Next.{Outcome}
use Rattle.mix_rules.specs.Ageing.{aged_state}
use Rattle.mix_rules.specs.FirstCome.{outcome}
use Rattle.savi_access.specs.Rows.{state_in}
use Rattle.savi_access.specs.Bases.{AddrRules, AddrBase}
use Rattle.savi_access.specs.NamedMarks.{Named, mark_of, names}

-- what a mark comes to by the method of its address: the state is aged to the mark's moment, and then takes the row of its
-- event. An address without a method has no state.
abbrev pub outcome_by : Option Method → Times → TimedEvent → AddrState → Outcome
outcome_by None k mark state = (silence, nobody)
outcome_by (Some m) k mark state = outcome m k mark state

-- what a mark comes to at the address that it names, where the address has this state
abbrev pub outcome_of : AddrRules → Named → AddrState → Outcome
outcome_of r named state = outcome_by (r.method_of named.vlan named.address) r.times (mark_of named) state

-- the state of an address: that of the base, moved by each mark that names it and by no other
abbrev pub state_of : AddrRules → AddrBase → List Named → ℕ → ℕ → AddrState
state_of r base [] vlan a = state_in (base.rows vlan) a
state_of r base (named ∷ past) vlan a =
    if names vlan a named then (outcome_of r named (state_of r base past vlan a)).1 else state_of r base past vlan a

-- that state aged to t
abbrev pub state_at : AddrRules → AddrBase → List Named → ℕ → ℕ → ℕ → AddrState
state_at r base past t vlan a = (aged_state r.times t (state_of r base past vlan a)).state

-- the answer to a mark after these
abbrev pub answer_at : AddrRules → AddrBase → List Named → Named → Answer
answer_at r base past named = (outcome_of r named (state_of r base past named.vlan named.address)).0

-- the address is live at the port at t
abbrev pub IsLiveAfter : AddrRules → AddrBase → List Named → ℕ → ℕ → ℕ → Port → Type 0
IsLiveAfter r base past t vlan a port = IsLiveAt (state_at r base past t vlan a) port
