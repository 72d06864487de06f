-- The inputs of the ports of a plan, as one list of turns in the order of a replay without control, and what is learned from
-- them: the arrivals, and how the inputs ended.
use Rattle.std.specs.Prelude.{ℕ, List, Option, Some, None, filter_map, reverse}
use Rattle.savi_kinds.specs.declared.plan.Plan.{Plan}
use Rattle.savi_kinds.specs.declared.entry.How.{How}
use Rattle.savi_kinds.specs.declared.entry.Who.{Who}
use Rattle.savi_kinds.specs.declared.entry.Who.TheVariants.{Ingress, Control, Ticker, Egress}
use Rattle.savi_kinds.specs.Arrivals.{Input}
use Rattle.savi_history.specs.Merges.{merged}
use Rattle.savi_history.specs.Turns.{Turn, Arrives, Commands, Ends, turn_at, port_turns}
use Rattle.ra_learn.specs.Printed.{PortArrival, printed}
use Rattle.learn_run.specs.declared.learning.Ending.{Ending}

-- the turns of all inputs, one input for each port of the plan in its order
abbrev pub turns_in_order : Plan → List Input → List Turn
turns_in_order plan inputs = merged turn_at (port_turns plan.ports inputs)

abbrev pub turn_arrival : Turn → Option PortArrival
turn_arrival (Arrives port arrival) = Some (record { port = port; arrival = arrival })
turn_arrival (Commands line) = None
turn_arrival (Ends who how) = None

abbrev pub pass_ending : Who → How → Option Ending
pass_ending (Ingress port) how = Some (record { port = port; how = how })
pass_ending Control how = None
pass_ending Ticker how = None
pass_ending (Egress port) how = None

abbrev pub turn_ending : Turn → Option Ending
turn_ending (Arrives port arrival) = None
turn_ending (Commands line) = None
turn_ending (Ends who how) = pass_ending who how

-- the arrivals among turns, the newest first
abbrev pub arrivals_of : List Turn → List PortArrival
arrivals_of turns = reverse (filter_map turn_arrival turns)

-- the ends of inputs among turns, in their order
abbrev pub endings_of : List Turn → List Ending
endings_of turns = filter_map turn_ending turns

-- what is printed of whole inputs
abbrev pub learned_text : Plan → ℕ → List Input → List ℕ
learned_text plan window inputs = printed plan window (arrivals_of (turns_in_order plan inputs))
