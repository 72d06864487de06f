-- The turns of the inputs of a replay, and when each comes. The turns of an input are its arrivals or lines, and behind
-- them its ending. An ending has its turn at once, an arrival and a line by their stamps.
use Rattle.std.specs.Prelude.{ℕ, suc, List, [], ◌∷◌, ◌++◌, map, Option, Some, None}
use Rattle.savi_kinds.specs.declared.port.Port.{Port}
use Rattle.savi_kinds.specs.declared.entry.Who.{Who}
use Rattle.savi_kinds.specs.declared.entry.Who.TheVariants.{Ingress, Control}
use Rattle.savi_kinds.specs.declared.entry.How.{How}
use Rattle.savi_kinds.specs.declared.entry.How.TheVariants as hows
use Rattle.savi_kinds.specs.declared.plan.PortPlan.{PortPlan}
use Rattle.savi_kinds.specs.Arrivals.{Arrival, Frame, Long, Input}
use Rattle.cli_lang.specs.Arrivals.{Line}
use Rattle.cli_lang.specs.Arrivals as control

pub data Turn : Type 0 where
  Arrives : (port : Port) (arrival : Arrival) → Turn
  -- a line comes in on control
  Commands : (line : Line) → Turn
  Ends : (who : Who) (how : How) → Turn

-- the stamp that an arrival carries
abbrev pub stamp_of : Arrival → ℕ
stamp_of (Frame stamp octets) = stamp
stamp_of (Long stamp len) = stamp

-- an ending comes before all else, and arrivals and lines come by their stamps
abbrev pub turn_at : Turn → ℕ
turn_at (Arrives port arrival) = suc (stamp_of arrival)
turn_at (Commands line) = suc line.stamp
turn_at (Ends who how) = 0

-- the pass whose turn it is
abbrev pub who_of : Turn → Who
who_of (Arrives port arrival) = Ingress port
who_of (Commands line) = Control
who_of (Ends who how) = who

-- the turns of a port's input
abbrev pub turns : Port → Input → List Turn
turns port input = map (λ a. Arrives port a) input.arrivals ++ Ends (Ingress port) input.ending ∷ []

-- the turns of the inputs of these ports, one input for each port
abbrev pub port_turns : List PortPlan → List Input → List (List Turn)
port_turns [] inputs = []
port_turns (p ∷ ports) [] = []
port_turns (p ∷ ports) (input ∷ inputs) = turns p.number input ∷ port_turns ports inputs

-- the turns of control's input; where control has none, it ends at once
abbrev pub control_turns : Option control.Input → List Turn
control_turns None = Ends Control hows.End ∷ []
control_turns (Some input) = map (λ line. Commands line) input.arrivals ++ Ends Control input.ending ∷ []

-- the turns of all inputs: control's, and then those of the ports in their order
abbrev pub all_turns : Option control.Input → List PortPlan → List Input → List (List Turn)
all_turns control ports inputs = control_turns control ∷ port_turns ports inputs
