-- Where a switch stands in a replay, and whose turn is next there.
use Rattle.std.specs.Prelude.{◌≡◌, ℕ, zero, suc, List, [], ◌∷◌, Option, None, Some}
use Rattle.savi_kinds.specs.declared.plan.Plan.{Plan}
use Rattle.hist_store.specs.Rows.{Row}
use Rattle.savi_history.specs.Turns.{Turn}
use Rattle.savi_segments.specs.Replay.{Run, base_in}
use Rattle.savi_segments.specs.Segments.{AreLegal, HasTurned, HaveTurned}
use Rattle.savi_core.specs.Machines.{Machine, base_of}
use Rattle.port_worker.specs.declared.control_ends.ControlEnds.{ControlEnds}
use Rattle.port_worker.specs.declared.port_ends.PortEnds.{PortEnds}
use Rattle.port_worker.specs.Inputs.{turn_of}
use Rattle.port_worker.specs.LineInputs.{control_turn_of}

-- the history of the switch is the segment that goes on
pub record StandsAt (m : Machine) (run : Run) : Type 0 where
  pub base : base_of m ≡ base_in m.plan run
  pub rows : m.past ≡ run.past

-- legal segments, each of which was left for a next one
pub record AreTurned (plan : Plan) (segments : List (List Row)) : Type 0 where
  pub legal : AreLegal plan segments
  pub newest : HasTurned plan segments
  pub before : HaveTurned plan segments

-- the turn that was read at the port of this place
abbrev pub turn_at_place : {S K C : Type 0} → List (PortEnds S K C) → ℕ → Option Turn
turn_at_place [] place = None
turn_at_place (p ∷ ports) zero = turn_of p
turn_at_place (p ∷ ports) (suc place) = turn_at_place ports place

-- that of the input at this place: control has the first one, and behind it the ports have theirs
abbrev pub turn_next : {S K C : Type 0} → Option (ControlEnds S K C) → List (PortEnds S K C) → ℕ → Option Turn
turn_next None ports zero = None
turn_next (Some c) ports zero = control_turn_of c
turn_next control ports (suc place) = turn_at_place ports place
