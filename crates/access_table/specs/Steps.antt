-- What a call of the machine does at t, whatever was told before: from what represents a past to what represents that past
-- with the marks of one step more.
use Rattle.std.specs.Prelude.{◌≡◌, ℕ, Option, Some, None, IsSome, List}
use Rattle.savi_kinds.specs.declared.port.Port.{Port}
use Rattle.fcfs_states.specs.declared.answer.Answer.{Answer}
use Rattle.fcfs_states.specs.declared.event.Ev.{Ev}
use Rattle.savi_access.specs.Rooms.{port_of}
use Rattle.savi_access.specs.Limits.{IsOfVlan}
use Rattle.savi_access.specs.Rules.{AccessRules, AccessBase}
use Rattle.savi_access.specs.Marks.{Mark}
use Rattle.savi_access.specs.Judged.{Judged, answer_to, with_event}
use Rattle.access_table.specs.declared.judgement.Judgement.{Judgement}
use Rattle.access_table.specs.Kept.{Kept, Represents}

-- an event on an on-link address is told, and answered by its row of the state tables
pub record AnswersEvent (r : AccessRules) (t : ℕ) (old new : Kept) (a : ℕ) (event : Ev) (base : AccessBase) (past : List Mark) (port : Port) (given : Answer) : Type 0 where
  pub answer : given ≡ answer_to r base old.vlan port t past a event
  pub kept : Represents r base (with_event r base old.vlan port t a event past) t new

-- an event at a port of the VLAN, or at a trusted port: none is told of an address that isn't on-link
abbrev pub Hears : AccessRules → ℕ → Kept → Kept → ℕ → Ev → Option Answer → Type 0
Hears r t old new a event None = (r.addresses.method_of old.vlan a ≡ None) × (new ≡ old)
Hears r t old new a event (Some answer) =
    IsSome (r.addresses.method_of old.vlan a)
    × ((base : AccessBase) (past : List Mark) (port : Port) → Represents r base past t old → IsOfVlan r.addresses old.vlan (port_of event)
    → AnswersEvent r t old new a event base past port answer)

-- the marks become those of this step
abbrev pub Moves : AccessRules → ℕ → Kept → Kept → (AccessBase → List Mark → List Mark) → Type 0
Moves r t old new step = (base : AccessBase) (past : List Mark) → Represents r base past t old → Represents r base (step base past) t new

-- a frame comes to this: the verdict and the probe are those of the step, and its marks are told
pub record ComesTo (r : AccessRules) (base : AccessBase) (t : ℕ) (new : Kept) (result : Judgement) (judged : Judged) : Type 0 where
  pub verdict : result.verdict ≡ judged.verdict
  pub probe : result.probe ≡ judged.probe
  pub kept : Represents r base judged.marks t new

-- a frame comes to what the step says, whatever was told before it
abbrev pub FollowsStep : AccessRules → ℕ → Kept → Kept → Judgement → (AccessBase → List Mark → Judged) → Type 0
FollowsStep r t old new result step =
    (base : AccessBase) (past : List Mark) → Represents r base past t old → ComesTo r base t new result (step base past)
