-- The segments of a replay: the turns of all inputs in order, each arrival and each line followed by a whole drain of each
-- queue that holds something. Where an arrival or a line has no room, the passes that haven't ended are paused, the segment
-- is closed, and the next one begins with it: so no input is too long. In the end the ticker ends, and each egress.
use Rattle.std.specs.Prelude.{ℕ, suc, ◌-◌, Bool, if◌then◌else◌, List, [], ◌∷◌, length, Option, Some, None}
use Rattle.std.specs.Option.{is_some}
use Rattle.savi_kinds.specs.declared.plan.Plan.{Plan}
use Rattle.savi_kinds.specs.declared.plan.PortPlan.{PortPlan}
use Rattle.savi_kinds.specs.declared.entry.Who.{Who}
use Rattle.savi_kinds.specs.declared.entry.Who.TheVariants.{Ingress, Control}
use Rattle.savi_kinds.specs.declared.entry.How.TheVariants as hows
use Rattle.savi_kinds.specs.Arrivals.{Input}
use Rattle.cli_lang.specs.Arrivals as control
use Rattle.hist_store.specs.Rows.{Row}
use Rattle.checkpoint.specs.Bases.{Base, empty}
use Rattle.savi_history.specs.Passes.{pass_of, has_ended}
use Rattle.savi_history.specs.Limits.{has_room}
use Rattle.savi_history.specs.Events.{End}
use Rattle.savi_history.specs.Merges.{merged}
use Rattle.savi_history.specs.Turns.{Turn, Arrives, Commands, Ends, who_of, turn_at, all_turns}
use Rattle.savi_history.specs.Replay.{Stops, with_event, begun, entered, closed}
use Rattle.savi_segments.specs.Checkpoints.{end_of}
use Rattle.savi_segments.specs.Segments.{base_after}
use Rattle.savi_segments.specs.Sent.{sent_in, replies_in}

-- A replay so far: the segments that are closed, the newest first, and the rows of the one that goes on, the newest first.
pub record Run : Type 0 where
  pub closed : List (List Row)
  pub past : List Row

-- the run with these rows in the segment that goes on
abbrev pub run_with : Run → List Row → Run
run_with run rows = record { closed = run.closed; past = rows }

-- what its segment goes on from
abbrev pub base_in : Plan → Run → Base
base_in plan run = base_after plan run.closed

-- all its segments, the newest first
abbrev pub segments_of : Run → List (List Row)
segments_of run = run.past ∷ run.closed

-- how many pieces the output of a port has by now, in all segments: its header, and the items that were sent
abbrev pub pieces_in : Plan → ℕ → Run → ℕ
pieces_in plan q run = suc (length (sent_in plan q (segments_of run)))

-- the pass has ended for good, in a segment that is closed or in the one that goes on
abbrev pub has_ended_in : Plan → ℕ → Run → Bool
has_ended_in plan pass run = is_some (end_of (base_in plan run) pass run.past)

-- how many pieces a sink takes whole before one fails, once it has taken so many
abbrev pub fewer : ℕ → Option ℕ → Option ℕ
fewer count None = None
fewer count (Some whole) = Some (whole - count)

-- The stops of all sinks as the segment that goes on meets them: behind the items and the replies of those that are closed.
-- Of each output the header was written before.
abbrev pub stops_left : Plan → Stops → Run → Stops
stops_left plan stops run = record {
  ports = λ q. fewer (length (sent_in plan q run.closed)) (stops.ports q);
  control = fewer (length (replies_in plan run.closed)) stops.control;
}

-- a pass that hasn't ended is paused
abbrev pub with_pause : Plan → Base → Who → List Row → List Row
with_pause plan base who past = if has_ended base (pass_of plan who) past then past else with_event plan base past (End who hows.Paused)

-- so are the inputs of these ports, in order
abbrev pub ports_paused : Plan → Base → List PortPlan → List Row → List Row
ports_paused plan base [] past = past
ports_paused plan base (p ∷ ports) past = ports_paused plan base ports (with_pause plan base (Ingress p.number) past)

-- control, and then the inputs of all ports
abbrev pub inputs_paused : Plan → Base → List Row → List Row
inputs_paused plan base past = ports_paused plan base plan.ports (with_pause plan base Control past)

-- the segments, the newest of which goes no further: the ticker ends, and each egress, or they are paused where an input is
abbrev pub all_closed : Plan → Run → List (List Row)
all_closed plan run = closed plan (base_in plan run) run.past ∷ run.closed

-- all that is open is paused, and the next segment begins
abbrev pub turned : Plan → Run → Run
turned plan run = record { closed = all_closed plan (run_with run (inputs_paused plan (base_in plan run) run.past)); past = [] }

-- There is room for a turn: where there was none for an arrival or a line, in the next segment. An ending needs none.
abbrev pub room_made : Plan → Turn → Run → Run
room_made plan (Arrives port arrival) run = if has_room plan run.past then run else turned plan run
room_made plan (Commands line) run = if has_room plan run.past then run else turned plan run
room_made plan (Ends who how) run = run

-- a turn is entered in the segment that goes on
abbrev pub entered_in : Plan → Stops → Turn → Run → Run
entered_in plan stops turn run = run_with run (entered plan (base_in plan run) (stops_left plan stops run) turn run.past)

abbrev pub taken : Plan → Stops → Turn → Run → Run
taken plan stops turn run = entered_in plan stops turn (room_made plan turn run)

-- what comes behind the end of its input is passed over
abbrev pub taken_if_open : Plan → Stops → Turn → Run → Run
taken_if_open plan stops turn run = if has_ended_in plan (pass_of plan (who_of turn)) run then run else taken plan stops turn run

-- one turn after another
abbrev pub all_taken : Plan → Stops → List Turn → Run → Run
all_taken plan stops [] run = run
all_taken plan stops (turn ∷ turns) run = all_taken plan stops turns (taken_if_open plan stops turn run)

-- the outputs are begun, and nothing was read
abbrev pub run_begun : Plan → Stops → Run
run_begun plan stops = record { closed = []; past = begun plan empty stops.ports plan.ports [] }

-- the turns of all inputs, taken behind the beginnings of the outputs
abbrev pub inputs_taken : Plan → Option control.Input → List Input → Stops → Run
inputs_taken plan lines inputs stops = all_taken plan stops (merged turn_at (all_turns lines plan.ports inputs)) (run_begun plan stops)

-- The segments of a replay of control's input, where it has one, and of these inputs, one for each port of the plan in its
-- order, whose sinks fail so: the newest first, each with its newest row first.
abbrev pub replayed : Plan → Option control.Input → List Input → Stops → List (List Row)
replayed plan lines inputs stops = all_closed plan (inputs_taken plan lines inputs stops)
