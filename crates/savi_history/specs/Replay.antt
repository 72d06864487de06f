-- The steps of a replay within a history, the newest row first. Before anything is read the output of each port is begun;
-- where a write fails at a port its egress ends at once, and the others go on. Behind each arrival and each line every queue
-- that holds something is drained whole. The reply to a line is written before the drains; where that fails, or the line is
-- `quit`, control ends at once. In the end the ticker ends, and each egress.
use Rattle.std.specs.Prelude.{ℕ, suc, ◌==◌, nat_lt, Bool, false, if◌then◌else◌, List, [], ◌∷◌, length, Option, Some, None}
use Rattle.savi_kinds.specs.declared.port.Port.{Port}
use Rattle.savi_kinds.specs.declared.plan.Plan.{Plan}
use Rattle.savi_kinds.specs.declared.plan.PortPlan.{PortPlan}
use Rattle.savi_kinds.specs.declared.entry.Who.TheVariants.{Control, Ticker, Egress}
use Rattle.savi_kinds.specs.declared.entry.How.{How}
use Rattle.savi_kinds.specs.declared.entry.How.TheVariants as hows
use Rattle.savi_kinds.specs.Ports.{number_of}
use Rattle.savi_kinds.specs.Arrivals.{Arrival}
use Rattle.savi_kinds.specs.Arrivals as arrivals
use Rattle.cli_lang.specs.Arrivals.{Line}
use Rattle.hist_store.specs.Rows.{Row}
use Rattle.checkpoint.specs.Bases.{Base}
use Rattle.savi_history.specs.Passes.{egress_pass, has_ended}
use Rattle.savi_history.specs.Endings.{has_pause}
use Rattle.savi_history.specs.Queues.{queue, sent}
use Rattle.savi_history.specs.Events.{Event, Frame, Long, Command, Drain, End, row_of}
use Rattle.savi_history.specs.ControlInputs.{is_quit}
use Rattle.savi_history.specs.ControlOutputs.{replies}
use Rattle.savi_history.specs.Turns.{Turn, Arrives, Commands, Ends}

-- the event that an arrival at a port is
abbrev pub event_of : Port → Arrival → Event
event_of port (arrivals.Frame stamp octets) = Frame port stamp octets
event_of port (arrivals.Long stamp len) = Long port stamp len

-- the history with the row of this event
abbrev pub with_event : Plan → Base → List Row → Event → List Row
with_event plan base past event = row_of plan base past event ∷ past

-- How many pieces the sink of a port, by its number, takes whole before a write fails there, where one fails. The first
-- piece of an output is its header, each further one the record of an item that is sent.
abbrev pub PortStops : Type 0
PortStops = ℕ → Option ℕ

-- the same of all sinks; the pieces of control's are the replies
pub record Stops : Type 0 where
  pub ports : PortStops
  pub control : Option ℕ

-- the write of one of so many pieces failed
abbrev pub is_stopped : Option ℕ → ℕ → Bool
is_stopped None pieces = false
is_stopped (Some whole) pieces = nat_lt whole pieces

-- how many pieces the output of a port has by now: its header, and the items that the history has sent
abbrev pub pieces_by : Plan → Base → ℕ → List Row → ℕ
pieces_by plan base q past = suc (length (sent plan base q past))

-- where a write failed at the port by now, its egress ends for that
abbrev pub with_failure : Plan → Base → PortStops → Port → List Row → List Row
with_failure plan base stops port past =
    if is_stopped (stops (number_of port)) (pieces_by plan base (number_of port) past)
    then with_event plan base past (End (Egress port) hows.Failed)
    else past

-- the output of each of these ports in order is begun, which may fail
abbrev pub begun : Plan → Base → PortStops → List PortPlan → List Row → List Row
begun plan base stops [] past = past
begun plan base stops (q ∷ qs) past = begun plan base stops qs (with_failure plan base stops q.number past)

-- a drain of all that waits at a port, if anything does, and what was taken is written
abbrev pub with_drain : Plan → Base → PortStops → Port → ℕ → List Row → List Row
with_drain plan base stops port count past =
    if count == 0 then past else with_failure plan base stops port (with_event plan base past (Drain port count))

-- each of these ports in order is drained whole
abbrev pub drained : Plan → Base → PortStops → List PortPlan → List Row → List Row
drained plan base stops [] past = past
drained plan base stops (q ∷ qs) past =
    drained plan base stops qs (with_drain plan base stops q.number (length (queue plan base (number_of q.number) past)) past)

-- The reply to the newest entry, a line's, is written. Where that fails, or the line is `quit`, control ends.
abbrev pub with_reply : Plan → Base → Option ℕ → Line → List Row → List Row
with_reply plan base stop line past =
    if is_stopped stop (length (replies plan base past)) then with_event plan base past (End Control hows.Unwritten)
    else if is_quit line then with_event plan base past (End Control hows.Quit)
    else past

-- a line is entered, and its reply is written
abbrev pub with_line : Plan → Base → Option ℕ → Line → List Row → List Row
with_line plan base stop line past =
    with_reply plan base stop line (with_event plan base past (Command line.stamp line.command))

-- an arrival or a line is entered and the queues are drained; an ending is entered
abbrev pub entered : Plan → Base → Stops → Turn → List Row → List Row
entered plan base stops (Arrives port arrival) past = drained plan base stops.ports plan.ports (with_event plan base past (event_of port arrival))
entered plan base stops (Commands line) past = drained plan base stops.ports plan.ports (with_line plan base stops.control line past)
entered plan base stops (Ends who how) past = with_event plan base past (End who how)

-- why the ticker and the outputs end: they are paused where an input is
abbrev pub closing : List Row → How
closing past = if has_pause past then hows.Paused else hows.End

-- an egress that hasn't ended ends
abbrev pub with_end : Plan → Base → Port → List Row → List Row
with_end plan base port past =
    if has_ended base (egress_pass plan (number_of port)) past then past else with_event plan base past (End (Egress port) (closing past))

-- so does the egress of each of these ports
abbrev pub egress_ended : Plan → Base → List PortPlan → List Row → List Row
egress_ended plan base [] past = past
egress_ended plan base (q ∷ qs) past = egress_ended plan base qs (with_end plan base q.number past)

-- the ticker ends, and each egress
abbrev pub closed : Plan → Base → List Row → List Row
closed plan base past = egress_ended plan base plan.ports (with_event plan base past (End Ticker (closing past)))
