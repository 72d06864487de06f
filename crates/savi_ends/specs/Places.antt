-- The places of a world, and what an opening does to one.
use Rattle.std.specs.Prelude.{◌≡◌, ◌≢◌, ℕ, ◌≤◌, Bool, true, false, List, Option, Some, Result, IfSome, IfOk, OnOk, OnErr}
use Rattle.savi_kinds.specs.declared.plan.Format.{Format}
use Rattle.savi_kinds.specs.declared.plan.PortPlan.{PortPlan}
use Rattle.savi_kinds.specs.Ports.{number_of}
use Rattle.savi_ends.specs.declared.world.Std.{Std}
use Rattle.savi_ends.specs.declared.world.Ends.{Ends}
use Rattle.savi_ends.specs.Faults.{Rose}

-- A place: whether its end is handed out, and the end that stands there, where that is told. Before an
-- opening that is the end to be handed out, and after a keep call the end that was kept.
pub record Place (X : Type 0) : Type 0 where
  pub is_out : Bool
  pub stands : Option X

-- what the ends of a port are asked for by: its number, the names of its input and output, and their format
pub record PortKey : Type 0 where
  pub number : ℕ
  pub input : List ℕ
  pub output : List ℕ
  pub format : Format

abbrev pub port_key : PortPlan → PortKey
port_key p = record { number = number_of p.number; input = p.input; output = p.output; format = p.format }

-- what the ends of control are asked for by: the names of its input and output, and whether they are live
pub record ControlKey : Type 0 where
  pub source : List ℕ
  pub sink : List ℕ
  pub live : Bool

-- all places of a world, and its own count of faults
pub record Book (S K C : Type 0) : Type 0 where
  pub faults : ℕ
  pub inputs : List ℕ → Place S
  pub outputs : List ℕ → Place K
  pub ports : PortKey → Place (Ends S K C)
  pub control : ControlKey → Place (Ends S K C)
  pub ticker : Place C
  pub std : Std → Place K

-- the end that is told is handed out
pub record HandsOut {X : Type 0} (old new : Place X) (x : X) : Type 0 where
  pub told : IfSome old.stands (λ t. x ≡ t)
  pub out : new.is_out ≡ true

-- An opening hands out the end that is told, without a fault so far, and the world's count of faults is as
-- it was; or it failed, and the count rose by one and the place is as it was.
pub record Opens {X E : Type 0} (IsFresh : X → Type 0) (before after : ℕ) (old new : Place X) (result : Result X E) : Type 0 where
  pub later : before ≤ after
  pub told : IfOk result (λ x. IfSome old.stands (λ t. x ≡ t))
  pub fresh : IfOk result IsFresh
  pub out : OnOk result (new.is_out ≡ true)
  pub still : OnOk result (after ≡ before)
  pub once : OnErr result (Rose before after)
  pub err : OnErr result (new ≡ old)

-- every other place is as it was
abbrev pub OthersStay : {A X : Type 0} → (A → Place X) → (A → Place X) → A → Type 0
OthersStay {A} {X} old new at = (other : A) → other ≢ at → new other ≡ old other

-- the places of every port but the one of this number are as they were
abbrev pub OtherPortsStay : {X : Type 0} → (PortKey → Place X) → (PortKey → Place X) → ℕ → Type 0
OtherPortsStay old new number = (other : PortKey) → other.number ≢ number → new other ≡ old other

-- under some names the ends of the port of this number are handed out
abbrev pub IsPortOut : {X : Type 0} → (PortKey → Place X) → ℕ → Type 0
IsPortOut places number = (key : PortKey) × (key.number ≡ number) × ((places key).is_out ≡ true)

-- these are the ends of the port of this number, under whichever names they were handed out
abbrev pub IsPortKept : {X : Type 0} → (PortKey → Place X) → (PortKey → Place X) → ℕ → X → Type 0
IsPortKept old new number x = (key : PortKey) → key.number ≡ number → (old key).is_out ≡ true → (new key).stands ≡ Some x

-- under some names the ends of control are handed out
abbrev pub IsControlOut : {X : Type 0} → (ControlKey → Place X) → Type 0
IsControlOut places = (key : ControlKey) × ((places key).is_out ≡ true)

-- these are the ends of control, under whichever names they were handed out
abbrev pub IsControlKept : {X : Type 0} → (ControlKey → Place X) → (ControlKey → Place X) → X → Type 0
IsControlKept old new x = (key : ControlKey) → (old key).is_out ≡ true → (new key).stands ≡ Some x

-- a place that may be opened: it isn't handed out, and an end that is told has no fault so far
pub record IsReady {X : Type 0} (IsFresh : X → Type 0) (place : Place X) : Type 0 where
  pub here : place.is_out ≡ false
  pub fresh : IfSome place.stands IsFresh

-- neither the source nor the sink has a fault so far
abbrev pub BothFresh : {S K C : Type 0} → (S → ℕ) → (K → ℕ) → Ends S K C → Type 0
BothFresh source_faults sink_faults ends = (source_faults ends.source ≡ 0) × (sink_faults ends.sink ≡ 0)

-- nothing is handed out, and nothing has failed
pub record HandedNothing {S K C : Type 0} (source_faults : S → ℕ) (sink_faults : K → ℕ) (book : Book S K C) : Type 0 where
  pub faults : book.faults ≡ 0
  pub inputs : (name : List ℕ) → IsReady (λ s. source_faults s ≡ 0) (book.inputs name)
  pub outputs : (name : List ℕ) → IsReady (λ k. sink_faults k ≡ 0) (book.outputs name)
  pub ports : (key : PortKey) → IsReady (BothFresh source_faults sink_faults) (book.ports key)
  pub control : (key : ControlKey) → IsReady (BothFresh source_faults sink_faults) (book.control key)
  pub ticker : book.ticker.is_out ≡ false
  pub std : (which : Std) → IsReady (λ k. sink_faults k ≡ 0) (book.std which)

-- this place alone is handed out
pub record IsOnlyOut {X : Type 0} (places : List ℕ → Place X) (name : List ℕ) : Type 0 where
  pub this : (places name).is_out ≡ true
  pub alone : (other : List ℕ) → other ≢ name → (places other).is_out ≡ false
