-- What the judge of a port makes of what it takes, and what it leaves.
use Rattle.std.specs.Prelude.{◌≡◌, ℕ, Bool, true, false, List, ◌++◌, Option, None, Some, box_value}
use Rattle.std.specs.declared.boxed.Box.{Box}
use Rattle.std.specs.Global.{Global}
use Rattle.parcel_ring.specs.Handed.{Handed, Arrived, Ended}
use Rattle.port_reader.specs.Judging.{waiting}
use Rattle.port_reader.specs.Rows.{all_handed}
use Rattle.hist_store.specs.Rows.{Row}
use Rattle.savi_history.specs.PortInputs.{arrived, input_end}
use Rattle.savi_segments.specs.Unbroken.{unbroken}
use Rattle.live_session.specs.Standing.{InputStands}
use Rattle.live_input.specs.Entered.{EndsInput, Enters, TellsSame}
use Rattle.live_input.specs.declared.state.InputState.{InputState}
use Rattle.live_input.specs.declared.state.InputState.TheVariants as states

-- what is in the parcel that a judge keeps
abbrev pub kept_of : Option (Box Handed Global) → Option Handed
kept_of None = None
kept_of (Some parcel) = Some (box_value parcel)

-- whether the pass of the input has ended
abbrev pub has_stopped : InputState → Bool
has_stopped states.Open = false
has_stopped states.Paused = true
has_stopped states.Ended = true

-- the input hasn't ended: it goes on, or is paused
abbrev pub HasNotEnded : InputState → Type 0
HasNotEnded states.Open = Unit {0}
HasNotEnded states.Paused = Unit {0}
HasNotEnded states.Ended = ⊥

-- an input stands so behind an arrival that was entered, or wasn't
abbrev pub state_behind : Bool → InputState
state_behind true = states.Open
state_behind false = states.Paused

-- what is kept of what was judged: an arrival for which there was no room
abbrev pub kept_behind : InputState → Handed → Option Handed
kept_behind states.Open handed = None
kept_behind states.Paused handed = Some handed
kept_behind states.Ended handed = None

-- In one turn an arrival was entered, or there was no room for it and the input is paused; or the input has ended as it did
-- at its source.
abbrev pub JudgesOne : ℕ → Handed → InputState → List Row → List Row → Type 0
JudgesOne port (Arrived arrival) states.Open before after = Enters port arrival before after
JudgesOne port (Arrived arrival) states.Paused before after = TellsSame port before after
JudgesOne port (Arrived arrival) states.Ended before after = ⊥
JudgesOne port (Ended how) states.Open before after = ⊥
JudgesOne port (Ended how) states.Paused before after = ⊥
JudgesOne port (Ended how) states.Ended before after = EndsInput port how before after

-- The input hasn't ended: what was taken is, in order, what was entered of it, and behind that what is kept.
pub record InputGoes (port : ℕ) (segments : List (List Row)) (taken : List Handed) (kept : Option Handed) : Type 0 where
  pub open_end : input_end port (unbroken segments) ≡ None
  pub all : taken ≡ all_handed (arrived port (unbroken segments)) ++ waiting kept

-- The input goes on, or is paused, which its segments don't tell; or it has ended.
abbrev pub StandsAs : InputState → ℕ → List (List Row) → List Handed → Option Handed → Type 0
StandsAs states.Open port segments taken kept = InputGoes port segments taken kept
StandsAs states.Paused port segments taken kept = InputGoes port segments taken kept
StandsAs states.Ended port segments taken kept = InputStands port segments taken kept
