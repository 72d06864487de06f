-- First come, first served, over the events of one address under both methods: who has an address keeps it, but for three
-- causes.
use Rattle.std.specs.Prelude.{ℕ, ◌+◌, ◌<◌, ◌≤◌, ◌⊎◌, List, [], ◌∷◌, ◌++◌}
use Rattle.savi_kinds.specs.declared.port.Port.{Port}
use Rattle.savi_kinds.specs.declared.plan.Method.{Method}
use Rattle.fcfs_states.specs.declared.answer.Answer.{Answer}
use Rattle.fcfs_states.specs.declared.times.Times.{Times}
use Rattle.fcfs_states.specs.FirstCome.{TimedEvent, IsSilentWithin, IsBoundTo}
use Rattle.mix_rules.specs.declared.state.AddrState.{AddrState}
use Rattle.mix_rules.specs.States.{owner_of, IsFixedAt}
use Rattle.mix_rules.specs.Next.{Outcome, next_state}
use Rattle.mix_rules.specs.Ageing.{aged_state}
use Rattle.mix_rules.specs.Ends.{IsByOperator, EndsByEvent, EndsByTime}

-- what an event comes to: the state is aged to its moment, and then takes its row
abbrev pub outcome : Method → Times → TimedEvent → AddrState → Outcome
outcome m k mark s = next_state m k mark.moment mark.room (aged_state k mark.moment s).state mark.event

-- the state of an address after these events, the newest of them first, from a state before them
abbrev pub state_of : Method → Times → AddrState → List TimedEvent → AddrState
state_of m k base [] = base
state_of m k base (mark ∷ past) = (outcome m k mark (state_of m k base past)).1

-- that state aged to t
abbrev pub state_at : Method → Times → AddrState → List TimedEvent → ℕ → AddrState
state_at m k base past t = (aged_state k t (state_of m k base past)).state

-- the answer to an event after these
abbrev pub answer_at : Method → Times → AddrState → List TimedEvent → TimedEvent → Answer
answer_at m k base past mark = (outcome m k mark (state_of m k base past)).0

-- the port owns the address: it is fixed there or, not being fixed, bound there by DHCP
abbrev pub IsOwnedAt : AddrState → Port → Type 0
IsOwnedAt s port = IsFixedAt (owner_of s.fixed s.dhcp) port

-- somewhere in a run from a state, up to t, an ageing to a moment was of this kind, or an event at its moment was of that
-- kind, seen with the state that it found (aged) and the state that it left
module _ (m : Method) (k : Times) (base : AddrState) (Ageing : ℕ → AddrState → Type 0) (Event : TimedEvent → AddrState → AddrState → Type 0) where
  pub data OnTheWay : ℕ → List TimedEvent → Type 0 where
    by_age : {t : ℕ} {past : List TimedEvent} → Ageing t (state_of m k base past) → OnTheWay t past
    by_event : {t : ℕ} {mark : TimedEvent} {past : List TimedEvent} → Event mark (state_at m k base past mark.moment) (state_of m k base (mark ∷ past)) → OnTheWay t (mark ∷ past)
    earlier : {t : ℕ} {mark : TimedEvent} {past : List TimedEvent} → OnTheWay mark.moment past → OnTheWay t (mark ∷ past)

-- First cause: the host at the port wasn't heard for as long as a test takes, up to a moment after t0 and by t. Where the
-- address was fixed, bound by DHCP or bound by first come at t0, at which this was the state, the whole of that time lies
-- behind t0.
pub record IsSilenced (k : Times) (port : Port) (t0 t : ℕ) (state : AddrState) (marks : List TimedEvent) : Type 0 where
  pub since : ℕ
  pub after : t0 < since + k.test
  pub by : since + k.test ≤ t
  pub silent : IsSilentWithin port since (since + k.test) marks
  pub whole : IsOwnedAt state port ⊎ IsBoundTo port state.fcfs → t0 ≤ since

-- Second cause: one of the events is the operator's.
abbrev pub HasOperator : List TimedEvent → Type 0
HasOperator [] = ⊥
HasOperator (mark ∷ past) = IsByOperator mark.event ⊎ HasOperator past

-- Third cause: a binding by DHCP at the port ended, by its time or by an event.
abbrev pub BindingEnds : Method → Times → AddrState → Port → ℕ → List TimedEvent → Type 0
BindingEnds m k base port t marks = OnTheWay m k base (λ t s. EndsByTime port t s) (λ mark s new. EndsByEvent port mark.event s new) t marks

-- The port has had the address since t0, after the events of `early`; those of `late` came by t. It keeps it, but for one
-- of the three causes.
pub data KeepsAddress (m : Method) (k : Times) (base : AddrState) (early : List TimedEvent) (t0 : ℕ) (late : List TimedEvent) (t : ℕ) (port : Port) : Type 0 where
  but_for_silence : IsSilenced k port t0 t (state_at m k base early t0) (late ++ early) → KeepsAddress m k base early t0 late t port
  but_for_operator : HasOperator late → KeepsAddress m k base early t0 late t port
  but_for_dhcp : BindingEnds m k (state_at m k base early t0) port t late → KeepsAddress m k base early t0 late t port
