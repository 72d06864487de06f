-- Where no write fails, a replay is the one to sinks that never fail.
use Rattle.std.proofs.Common.{◌≡◌, ℕ, ◌==◌, ◌||◌, not, Bool, true, false, List, [], ◌∷◌, ◌++◌, length, refl, ap, sym, ◌∙◌, if◌then◌else◌, Option}
use Rattle.savi_kinds.specs.declared.port.Port.{Port}
use Rattle.savi_kinds.specs.declared.plan.Plan.{Plan}
use Rattle.savi_kinds.specs.declared.plan.PortPlan.{PortPlan}
use Rattle.savi_kinds.specs.declared.entry.Act.{Act}
use Rattle.savi_kinds.specs.declared.entry.Act.TheVariants as acts
use Rattle.savi_kinds.specs.declared.entry.Who.{Who}
use Rattle.savi_kinds.specs.declared.entry.Who.TheVariants as passes
use Rattle.savi_kinds.specs.declared.entry.How.{How}
use Rattle.savi_kinds.specs.declared.entry.How.TheVariants as hows
use Rattle.savi_kinds.specs.Ports.{number_of}
use Rattle.savi_kinds.specs.Arrivals.{Arrival, Input}
use Rattle.savi_kinds.specs.Arrivals as arrivals
use Rattle.cli_lang.specs.Arrivals.{Line}
use Rattle.cli_lang.specs.Arrivals as control
use Rattle.hist_store.specs.Rows.{Row}
use Rattle.checkpoint.specs.Bases.{Base, empty}
use Rattle.savi_history.specs.ControlInputs.{is_quit}
use Rattle.savi_history.specs.ControlOutputs.{replies}
use Rattle.savi_history.specs.Endings.{has_failed_write, is_failed_reason, is_failed_write, is_failed_write_of, is_paused_end, is_paused_reason, is_unwritten_reason}
use Rattle.savi_history.specs.Events.{Command, Drain, End}
use Rattle.savi_history.specs.Limits.{has_room}
use Rattle.savi_history.specs.Merges.{merged}
use Rattle.savi_history.specs.Passes.{pass_of, egress_pass, has_ended}
use Rattle.savi_history.specs.Queues.{queue}
use Rattle.savi_history.specs.Replay.{Stops, is_stopped, pieces_by, event_of, with_event, with_failure, begun, with_drain, drained, with_line, entered, closing, with_end, egress_ended, closed}
use Rattle.savi_history.specs.Turns.{Turn, Arrives, Commands, Ends, who_of, turn_at, all_turns}
use Rattle.savi_segments.specs.Replay.{Run, run_with, base_in, stops_left, has_ended_in, with_pause, ports_paused, inputs_paused, all_closed, turned, room_made, entered_in, taken, taken_if_open, all_taken, run_begun, replayed}
use Rattle.savi_segments.specs.Segments.{joined}
use Rattle.savi_segments.specs.Unbroken.{unbroken, without_pauses}
use Rattle.load_run.specs.LoadHistory.{no_stops}

neither : (a b : Bool) → (a || b) ≡ false → b ≡ false
neither true b is = cc
neither false b is = is

still : (a b c : Bool) → (a || b) ≡ false → c ≡ false → (a || c) ≡ false
still true b c is none = cc
still false b c is none = none

-- of rows behind others

in_both : (rows before : List Row) → has_failed_write (rows ++ before) ≡ false → (has_failed_write rows ≡ false) × (has_failed_write before ≡ false)
in_both [] before is = (refl, is)
in_both (r ∷ rows) before is =
    let rest = in_both rows before (neither (is_failed_write r.entry.act) (has_failed_write (rows ++ before)) is) in
    (still (is_failed_write r.entry.act) (has_failed_write (rows ++ before)) (has_failed_write rows) is rest.0, rest.1)

-- a pause is no write that failed

not_failed : (how : How) → is_paused_reason how ≡ true → is_failed_reason how ≡ false
not_failed hows.End is = cc
not_failed hows.Quit is = cc
not_failed (hows.Malformed at) is = cc
not_failed (hows.Overlong at) is = cc
not_failed hows.Failed is = cc
not_failed hows.Unwritten is = cc
not_failed hows.Paused is = refl

not_unwritten : (how : How) → is_paused_reason how ≡ true → is_unwritten_reason how ≡ false
not_unwritten hows.End is = cc
not_unwritten hows.Quit is = cc
not_unwritten (hows.Malformed at) is = cc
not_unwritten (hows.Overlong at) is = cc
not_unwritten hows.Failed is = cc
not_unwritten hows.Unwritten is = cc
not_unwritten hows.Paused is = refl

paused_pass : (who : Who) (how : How) → is_paused_reason how ≡ true → is_failed_write_of who how ≡ false
paused_pass (passes.Ingress p) how is = refl
paused_pass passes.Control how is = not_unwritten how is
paused_pass passes.Ticker how is = refl
paused_pass (passes.Egress p) how is = not_failed how is

paused_act : (act : Act) → is_paused_end act ≡ true → is_failed_write act ≡ false
paused_act (acts.Frame port stamp at len) is = refl
paused_act (acts.Long port stamp len) is = refl
paused_act (acts.Tick stamp) is = refl
paused_act (acts.Command stamp at len) is = refl
paused_act (acts.Drain port count) is = refl
paused_act (acts.End who how) is = paused_pass who how is

kept_at : (r : Row) (rest all : List Row) (paused : Bool) → is_paused_end r.entry.act ≡ paused → has_failed_write rest ≡ has_failed_write all → has_failed_write (if not paused then r ∷ rest else rest) ≡ (is_failed_write r.entry.act || has_failed_write all)
kept_at r rest all true is same = same ∙ ap (λ (b : Bool). b || has_failed_write all) (sym (paused_act r.entry.act is))
kept_at r rest all false is same = ap (λ (b : Bool). is_failed_write r.entry.act || b) same

-- so without pauses as many failed
kept : (rows : List Row) → has_failed_write (without_pauses rows) ≡ has_failed_write rows
kept [] = refl
kept (r ∷ rows) = kept_at r (without_pauses rows) rows (is_paused_end r.entry.act) refl (kept rows)

-- Where no write failed by now, none had failed before.

module _ (plan : Plan) (base : Base) where
  end_sound : (past : List Row) (port : Port) (over : Bool) → has_failed_write (if over then past else with_event plan base past (End (passes.Egress port) (closing past))) ≡ false → has_failed_write past ≡ false
  end_sound past port true is = is
  end_sound past port false is = neither (is_failed_reason (closing past)) (has_failed_write past) is

  ends_sound : (ports : List PortPlan) (past : List Row) → has_failed_write (egress_ended plan base ports past) ≡ false → has_failed_write past ≡ false
  ends_sound [] past is = is
  ends_sound (q ∷ qs) past is =
      end_sound past q.number (has_ended base (egress_pass plan (number_of q.number)) past) (ends_sound qs (with_end plan base q.number past) is)

  closed_sound : (past : List Row) → has_failed_write (closed plan base past) ≡ false → has_failed_write past ≡ false
  closed_sound past is = ends_sound plan.ports (with_event plan base past (End passes.Ticker (closing past))) is

  pause_sound : (past : List Row) (who : Who) (over : Bool) → has_failed_write (if over then past else with_event plan base past (End who hows.Paused)) ≡ false → has_failed_write past ≡ false
  pause_sound past who true is = is
  pause_sound past who false is = neither (is_failed_write_of who hows.Paused) (has_failed_write past) is

  ports_sound : (ports : List PortPlan) (past : List Row) → has_failed_write (ports_paused plan base ports past) ≡ false → has_failed_write past ≡ false
  ports_sound [] past is = is
  ports_sound (p ∷ ports) past is =
      let who : Who = passes.Ingress p.number in
      pause_sound past who (has_ended base (pass_of plan who) past) (ports_sound ports (with_pause plan base who past) is)

  inputs_sound : (past : List Row) → has_failed_write (inputs_paused plan base past) ≡ false → has_failed_write past ≡ false
  inputs_sound past is =
      pause_sound past passes.Control (has_ended base (pass_of plan passes.Control) past) (ports_sound plan.ports (with_pause plan base passes.Control past) is)

-- Where no write failed by now, none had failed before, and what is now is what comes without failures.
abbrev Agrees : List Row → List Row → List Row → Type 0
Agrees past now free = has_failed_write now ≡ false → (has_failed_write past ≡ false) × (now ≡ free)

module _ (plan : Plan) (base : Base) (stops : Stops) where
  failure_agrees : (past : List Row) (port : Port) (failed : Bool) → Agrees past (if failed then with_event plan base past (End (passes.Egress port) hows.Failed) else past) past
  failure_agrees past port true is = cc
  failure_agrees past port false is = (is, refl)

  stop_agrees : (past : List Row) (port : Port) → Agrees past (with_failure plan base stops.ports port past) past
  stop_agrees past port is = failure_agrees past port (is_stopped (stops.ports (number_of port)) (pieces_by plan base (number_of port) past)) is

  begun_agrees : (ports : List PortPlan) (past : List Row) → Agrees past (begun plan base stops.ports ports past) (begun plan base no_stops.ports ports past)
  begun_agrees [] past is = (is, refl)
  begun_agrees (q ∷ qs) past is =
      let later = begun_agrees qs (with_failure plan base stops.ports q.number past) is in
      let first = stop_agrees past q.number later.0 in
      (first.0, later.1 ∙ ap (λ (p : List Row). begun plan base no_stops.ports qs p) first.1)

  taken_agrees : (past : List Row) (port : Port) (count : ℕ) (none : Bool) → Agrees past (if none then past else with_failure plan base stops.ports port (with_event plan base past (Drain port count))) (if none then past else with_event plan base past (Drain port count))
  taken_agrees past port count true is = (is, refl)
  taken_agrees past port count false is = stop_agrees (with_event plan base past (Drain port count)) port is

  drained_agrees : (ports : List PortPlan) (past : List Row) → Agrees past (drained plan base stops.ports ports past) (drained plan base no_stops.ports ports past)
  drained_agrees [] past is = (is, refl)
  drained_agrees (q ∷ qs) past is =
      let count = length (queue plan base (number_of q.number) past) in
      let later = drained_agrees qs (with_drain plan base stops.ports q.number count past) is in
      let first = taken_agrees past q.number count (count == 0) later.0 in
      (first.0, later.1 ∙ ap (λ (p : List Row). drained plan base no_stops.ports qs p) first.1)

  reply_agrees : (past : List Row) (failed quits : Bool)
      → Agrees past (if failed then with_event plan base past (End passes.Control hows.Unwritten) else if quits then with_event plan base past (End passes.Control hows.Quit) else past) (if quits then with_event plan base past (End passes.Control hows.Quit) else past)
  reply_agrees past true quits is = cc
  reply_agrees past false true is = (is, refl)
  reply_agrees past false false is = (is, refl)

  line_agrees : (past : List Row) (line : Line) → Agrees past (with_line plan base stops.control line past) (with_line plan base no_stops.control line past)
  line_agrees past line is =
      let mid = with_event plan base past (Command line.stamp line.command) in
      reply_agrees mid (is_stopped stops.control (length (replies plan base mid))) (is_quit line) is

  arrival_sound : (past : List Row) (port : Port) (a : Arrival) → has_failed_write (with_event plan base past (event_of port a)) ≡ false → has_failed_write past ≡ false
  arrival_sound past port (arrivals.Frame stamp octets) is = is
  arrival_sound past port (arrivals.Long stamp len) is = is

  entered_agrees : (turn : Turn) (past : List Row) → Agrees past (entered plan base stops turn past) (entered plan base no_stops turn past)
  entered_agrees (Arrives port a) past is =
      let later = drained_agrees plan.ports (with_event plan base past (event_of port a)) is in
      (arrival_sound past port a later.0, later.1)
  entered_agrees (Commands line) past is =
      let later = drained_agrees plan.ports (with_line plan base stops.control line past) is in
      let first = line_agrees past line later.0 in
      (first.0, later.1 ∙ ap (λ (p : List Row). drained plan base no_stops.ports plan.ports p) first.1)
  entered_agrees (Ends who how) past is = (neither (is_failed_write_of who how) (has_failed_write past) is, refl)

-- no write failed in a run, neither in the segment that goes on nor in one that is closed
record IsSound (run : Run) : Type 0 where
  now : has_failed_write run.past ≡ false
  before : has_failed_write (joined run.closed) ≡ false

-- the same as of rows
record RunAgrees (run now free : Run) : Type 0 where
  sound : IsSound run
  same : now ≡ free

module _ (plan : Plan) where
  closed_of : (run : Run) → has_failed_write (joined (all_closed plan run)) ≡ false → IsSound run
  closed_of run is =
      let parts = in_both (closed plan (base_in plan run) run.past) (joined run.closed) is in
      record { now = closed_sound plan (base_in plan run) run.past parts.0; before = parts.1 }

  turned_sound : (run : Run) → IsSound (turned plan run) → IsSound run
  turned_sound run is =
      let paused = closed_of (run_with run (inputs_paused plan (base_in plan run) run.past)) is.before in
      record { now = inputs_sound plan (base_in plan run) run.past paused.now; before = paused.before }

  room_at : (run : Run) (room : Bool) → IsSound (if room then run else turned plan run) → IsSound run
  room_at run true is = is
  room_at run false is = turned_sound run is

  room_sound : (turn : Turn) (run : Run) → IsSound (room_made plan turn run) → IsSound run
  room_sound (Arrives port a) run is = room_at run (has_room plan run.past) is
  room_sound (Commands line) run is = room_at run (has_room plan run.past) is
  room_sound (Ends who how) run is = is

module _ (plan : Plan) (stops : Stops) where
  enters : (turn : Turn) (run : Run) → IsSound (entered_in plan stops turn run) → RunAgrees run (entered_in plan stops turn run) (entered_in plan no_stops turn run)
  enters turn run is =
      let step = entered_agrees plan (base_in plan run) (stops_left plan stops run) turn run.past is.now in
      record { sound = record { now = step.0; before = is.before }; same = ap (λ (rows : List Row). run_with run rows) step.1 }

  takes : (turn : Turn) (run : Run) (over : Bool) → IsSound (if over then run else taken plan stops turn run)
      → RunAgrees run (if over then run else taken plan stops turn run) (if over then run else taken plan no_stops turn run)
  takes turn run true is = record { sound = is; same = refl }
  takes turn run false is =
      let step = enters turn (room_made plan turn run) is in
      record { sound = room_sound plan turn run step.sound; same = step.same }

  all_agree : (turns : List Turn) (run : Run) → IsSound (all_taken plan stops turns run) → RunAgrees run (all_taken plan stops turns run) (all_taken plan no_stops turns run)
  all_agree [] run is = record { sound = is; same = refl }
  all_agree (t ∷ ts) run is =
      let later = all_agree ts (taken_if_open plan stops t run) is in
      let first = takes t run (has_ended_in plan (pass_of plan (who_of t)) run) later.sound in
      record { sound = first.sound; same = later.same ∙ ap (λ (r : Run). all_taken plan no_stops ts r) first.same }

  pub replayed_unstopped : (lines : Option control.Input) (inputs : List Input) → has_failed_write (unbroken (replayed plan lines inputs stops)) ≡ false → replayed plan lines inputs stops ≡ replayed plan lines inputs no_stops
  replayed_unstopped lines inputs is =
      let all : List Turn = merged turn_at (all_turns lines plan.ports inputs) in
      let start : Run = run_begun plan stops in
      let whole : has_failed_write (joined (replayed plan lines inputs stops)) ≡ false = sym (kept (joined (replayed plan lines inputs stops))) ∙ is in
      let turns = all_agree all start (closed_of plan (all_taken plan stops all start) whole) in
      let starts = begun_agrees plan empty stops plan.ports [] turns.sound.now in
      ap (λ (r : Run). all_closed plan r) (turns.same ∙ ap (λ (p : List Row). all_taken plan no_stops all (run_with start p)) starts.1)
