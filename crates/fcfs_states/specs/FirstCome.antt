-- First come, first served: what becomes of an address that is live at a port, over whole runs of events.
use Rattle.std.specs.Prelude.{ℕ, ◌≡◌, ◌+◌, ◌<◌, ◌≤◌, Bool, List, [], ◌∷◌}
use Rattle.std.specs.List.{AllByRecursion}
use Rattle.savi_kinds.specs.declared.port.Port.{Port}
use Rattle.savi_kinds.specs.Orders.{AreInTurn}
use Rattle.fcfs_states.specs.declared.event.Ev.{Ev}
use Rattle.fcfs_states.specs.declared.event.Ev.TheVariants.{Sent, Dad, Na, TpDad, TpNa, Lease, Release, Fix, Clear}
use Rattle.fcfs_states.specs.declared.state.Fcfs.{Fcfs}
use Rattle.fcfs_states.specs.declared.state.Fcfs.TheVariants.{NoBind, Tentative, Valid, TestLt, TestVp}
use Rattle.fcfs_states.specs.declared.times.Times.{Times}
use Rattle.fcfs_states.specs.Premises.{IsFcfsEvent}
use Rattle.fcfs_states.specs.States.{Same}
use Rattle.fcfs_states.specs.Next.{next}
use Rattle.fcfs_states.specs.Aged.{aged}

-- the state is a test of the port as the holder, that began at this moment
abbrev pub IsTestOf : Port → ℕ → Fcfs → Type 0
IsTestOf port moment NoBind = ⊥
IsTestOf port moment (Tentative p since two) = ⊥
IsTestOf port moment (Valid p until) = ⊥
IsTestOf port moment (TestLt p since two) = Same p port × (since ≡ moment)
IsTestOf port moment (TestVp p q since two) = Same p port × (since ≡ moment)

-- the host at the port shows itself by the event
abbrev pub IsHeardAt : Port → Ev → Type 0
IsHeardAt port (Sent r) = Same r port
IsHeardAt port (Dad r) = Same r port
IsHeardAt port (Na r) = Same r port
IsHeardAt port TpDad = ⊥
IsHeardAt port TpNa = ⊥
IsHeardAt port (Lease p valid) = ⊥
IsHeardAt port (Release p) = ⊥
IsHeardAt port (Fix p) = ⊥
IsHeardAt port Clear = ⊥

-- an event with its moment, and whether its port had room
pub record TimedEvent : Type 0 where
  pub moment : ℕ
  pub event : Ev
  pub room : Bool

abbrev pub event_moment : TimedEvent → ℕ
event_moment mark = mark.moment

-- the state after an event: aged to its moment, then the row of the event
abbrev pub moved_on : Times → TimedEvent → Fcfs → Fcfs
moved_on k mark state = (next k mark.moment mark.room (aged k mark.moment state).state mark.event).1

-- the state of an address after these events, the newest of them first
abbrev pub state_of : Times → List TimedEvent → Fcfs
state_of k [] = NoBind
state_of k (mark ∷ past) = moved_on k mark (state_of k past)

-- the events are of first come, first served, and in turn, up to t
abbrev pub IsTimeline : ℕ → List TimedEvent → Type 0
IsTimeline t marks = AreInTurn event_moment 0 t marks × AllByRecursion (λ mark. IsFcfsEvent mark.event) marks

-- in none of the events above this moment was the host at the port heard
abbrev pub IsSilentAfter : Port → ℕ → List TimedEvent → Type 0
IsSilentAfter port moment marks = AllByRecursion (λ mark. moment < mark.moment → ¬ IsHeardAt port mark.event) marks

-- in none of the events between these moments was the host at the port heard
abbrev pub IsSilentWithin : Port → ℕ → ℕ → List TimedEvent → Type 0
IsSilentWithin port from to marks = AllByRecursion (λ mark. from < mark.moment → mark.moment < to → ¬ IsHeardAt port mark.event) marks

-- the address is bound to the port
abbrev pub IsBoundTo : Port → Fcfs → Type 0
IsBoundTo port NoBind = ⊥
IsBoundTo port (Tentative p since two) = ⊥
IsBoundTo port (Valid p until) = Same p port
IsBoundTo port (TestLt p since two) = ⊥
IsBoundTo port (TestVp p q since two) = ⊥

-- The host at the port wasn't heard for as long as a test takes, up to a moment after t0 and by t. Where the address was
-- bound to the port at t0, at which this was the state, the whole of that time lies behind t0.
pub record IsLostByTest (k : Times) (port : Port) (t0 t : ℕ) (state : Fcfs) (marks : List TimedEvent) : Type 0 where
  pub since : ℕ
  pub after : t0 < since + k.test
  pub by : since + k.test ≤ t
  pub silent : IsSilentWithin port since (since + k.test) marks
  pub whole : IsBoundTo port state → t0 ≤ since
