-- How control stands behind a turn.
use Rattle.std.specs.Prelude.{Bool, true, false, Option, Some, None}
use Rattle.savi_history.specs.Endings.{is_unwritten_reason}
use Rattle.control_reader.specs.Heard.{HeardLine}
use Rattle.live_control.specs.declared.state.ControlState.{ControlState}
use Rattle.live_control.specs.declared.state.ControlState.TheVariants as states

-- whether control's pass has ended
abbrev pub has_stopped_answering : ControlState → Bool
has_stopped_answering states.Open = false
has_stopped_answering states.Paused = true
has_stopped_answering (states.Ended how) = true

-- whether it has ended by a reply that couldn't be written
abbrev pub is_unwritten : ControlState → Bool
is_unwritten states.Open = false
is_unwritten states.Paused = false
is_unwritten (states.Ended how) = is_unwritten_reason how

-- control hasn't ended: it goes on, or is paused
abbrev pub IsUnended : ControlState → Type 0
IsUnended states.Open = Unit {0}
IsUnended states.Paused = Unit {0}
IsUnended (states.Ended how) = ⊥

-- control stands so behind a turn that found room, or didn't
abbrev pub state_behind_line : Bool → ControlState
state_behind_line true = states.Open
state_behind_line false = states.Paused

-- what is kept of a line: one for which there was no room
abbrev pub kept_line_behind : ControlState → HeardLine → Option HeardLine
kept_line_behind states.Open heard = None
kept_line_behind states.Paused heard = Some heard
kept_line_behind (states.Ended how) heard = None
