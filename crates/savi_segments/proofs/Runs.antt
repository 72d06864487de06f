-- A replay goes on in legal segments, and in each of them every pass ends.
use Rattle.std.proofs.Common.{◌≡◌, ℕ, suc, ◌+◌, ◌<◌, ◌≤◌, ◌==◌, ◌&&◌, nat_lt, nat_le, Bool, true, false, if◌then◌else◌, List, [], ◌∷◌, ◌++◌, map, length, refl, sym, ap, subst, ◌∙◌, ◌⊎◌, inl, inr, arith, Option, Some, None, All}
use Rattle.std.proofs.lemmas.Bool.{cases_lt, eq-eqb}
use Rattle.std.proofs.lemmas.Bool.Decides.{nat_tests}
use Rattle.std.proofs.lemmas.List.Elements.{All-cons, All-head, All-nil, All-tail}
use Rattle.hex.specs.Hex.{IsBytes}
use Rattle.savi_kinds.specs.declared.port.Port.{Port}
use Rattle.savi_kinds.specs.declared.plan.Plan.{Plan}
use Rattle.savi_kinds.specs.declared.plan.PortPlan.{PortPlan}
use Rattle.savi_kinds.specs.declared.entry.Who.{Who}
use Rattle.savi_kinds.specs.declared.entry.Who.TheVariants as passes
use Rattle.savi_kinds.specs.declared.entry.How.{How}
use Rattle.savi_kinds.specs.declared.entry.How.TheVariants as hows
use Rattle.savi_kinds.specs.Ports.{number_of}
use Rattle.savi_kinds.specs.ValidPlan.{IsValidPlan}
use Rattle.savi_kinds.specs.Arrivals.{Arrival, Input}
use Rattle.savi_kinds.specs.Arrivals as arrivals
use Rattle.cli_lang.specs.Arrivals.{Line}
use Rattle.cli_lang.specs.Arrivals as control
use Rattle.hist_store.specs.Rows.{Row}
use Rattle.checkpoint.specs.Bases.{Base, empty}
use Rattle.savi_history.specs.Endings.{has_pause, is_paused_reason}
use Rattle.savi_history.specs.Events.{Command, Drain, End, row_of}
use Rattle.savi_history.specs.Legal.{InputsEnded}
use Rattle.savi_history.specs.Limits.{has_room}
use Rattle.savi_history.specs.Merges.{merged}
use Rattle.savi_history.specs.Passes.{control_pass, egress_pass, has_ended, has_port, pass_count, pass_of, place_of, ticker_pass}
use Rattle.savi_history.specs.Queues.{queue}
use Rattle.savi_history.specs.Readable.{IsControl, IsInput}
use Rattle.savi_history.specs.Replay.{PortStops, Stops, begun, closed, closing, drained, egress_ended, entered, event_of, is_stopped, pieces_by, with_drain, with_end, with_event, with_failure, with_reply}
use Rattle.savi_history.specs.Turns.{Turn, Arrives, Commands, Ends, all_turns, control_turns, port_turns, turn_at, turns, who_of}
use Rattle.savi_history.proofs.PassNumbers.{number_at, place_at}
use Rattle.savi_history.proofs.PortPlaces.{place_within, placed}
use Rattle.savi_history.proofs.Replying.{behind_reply}
use Rattle.savi_segments.specs.Given.{AreOfOctets, IsOfOctets}
use Rattle.savi_segments.specs.Replay.{Run, all_taken, base_in, entered_in, has_ended_in, inputs_paused, inputs_taken, ports_paused, replayed, room_made, run_begun, segments_of, stops_left, taken, taken_if_open, turned, with_pause}
use Rattle.savi_segments.specs.Segments.{AreLegal, AreOctets, HaveTurned, IsWholeSession}
use Rattle.savi_segments.proofs.EachTurn.{Each, each_merge}
use Rattle.savi_segments.proofs.Finished.{EndsIn, in_control_turns, in_merged, in_port_turns}
use Rattle.savi_segments.proofs.Legality.{AreTurns, HasRoomFor, IsGood, IsTurn, all_turns_fit, good_begun, good_entered, legal_closed}
use Rattle.savi_segments.proofs.ForGood.{later_all}
use Rattle.savi_segments.proofs.Turning.{control_shows, ended_alike, ended_first, ended_turned, finished_closed, ingress_shows, inputs_ended, legal_paused, pause_closed}
use Rattle.savi_segments.proofs.Unpaused.{control_ending, ending}

-- the octets that a turn enters
abbrev pub HasOctets : Turn → Type 0
HasOctets (Arrives port arrival) = IsOfOctets arrival
HasOctets (Commands line) = IsBytes line.command
HasOctets (Ends who how) = Unit {0}

octets_of_port : (port : Port) (before : List Arrival) (how : How) → All IsOfOctets before → Each HasOctets (map (λ a. Arrives port a) before ++ Ends (passes.Ingress port) how ∷ [])
octets_of_port port [] how all = (tt, tt)
octets_of_port port (a ∷ before) how all = (All-head IsOfOctets a before all, octets_of_port port before how (All-tail IsOfOctets a before all))

octets_of_ports : (ports : List PortPlan) (inputs : List Input) → All (λ input. All IsOfOctets input.arrivals) inputs → Each HasOctets (merged turn_at (port_turns ports inputs))
octets_of_ports [] inputs all = tt
octets_of_ports (p ∷ ports) [] all = tt
octets_of_ports (p ∷ ports) (i ∷ inputs) all =
    each_merge HasOctets (turns p.number i) (merged turn_at (port_turns ports inputs))
    (octets_of_port p.number i.arrivals i.ending (All-head (λ input. All IsOfOctets input.arrivals) i inputs all))
    (octets_of_ports ports inputs (All-tail (λ input. All IsOfOctets input.arrivals) i inputs all))

octets_of_lines : (lines : List Line) (how : How) → All (λ line. IsBytes line.command) lines → Each HasOctets (map (λ line. Commands line) lines ++ Ends passes.Control how ∷ [])
octets_of_lines [] how all = (tt, tt)
octets_of_lines (line ∷ lines) how all = (All-head (λ l. IsBytes l.command) line lines all, octets_of_lines lines how (All-tail (λ l. IsBytes l.command) line lines all))

octets_of_control : (lines : Option control.Input) (inputs : List Input) → AreOfOctets lines inputs → Each HasOctets (control_turns lines)
octets_of_control None inputs of = (tt, tt)
octets_of_control (Some input) inputs of = octets_of_lines input.arrivals input.ending of.commands

-- Within a segment: what a step adds are rows of octets, and it pauses nothing.

-- rows of octets, in which nothing is paused
pub record IsPlain (past : List Row) : Type 0 where
  pub octets : AreOctets past
  pub unpaused : has_pause past ≡ false

module _ (plan : Plan) (base : Base) where
  -- an end has no octets
  plain_end : (past : List Row) (who : Who) (how : How) → is_paused_reason how ≡ false → IsPlain past → IsPlain (with_event plan base past (End who how))
  plain_end past who how none plain = record {
    octets = All-cons (λ (r : Row). IsBytes r.octets) (row_of plan base past (End who how)) past (λ k. omega arith) plain.octets;
    unpaused = unpaused_end who how none past plain.unpaused;
  }
    where
      unpaused_end : (who : Who) (how : How) → is_paused_reason how ≡ false → (past : List Row) → has_pause past ≡ false → has_pause (with_event plan base past (End who how)) ≡ false
      unpaused_end (passes.Ingress p) how none past before = rw none before
      unpaused_end passes.Control how none past before = rw none before
      unpaused_end passes.Ticker how none past before = before
      unpaused_end (passes.Egress p) how none past before = before

  plain_arrival : (past : List Row) (port : Port) (a : Arrival) → IsOfOctets a → IsPlain past → IsPlain (with_event plan base past (event_of port a))
  plain_arrival past port (arrivals.Frame stamp octets) of plain = record { octets = All-cons (λ (r : Row). IsBytes r.octets) _ past of plain.octets; unpaused = plain.unpaused }
  plain_arrival past port (arrivals.Long stamp len) of plain = record {
    octets = All-cons (λ (r : Row). IsBytes r.octets) (row_of plan base past (event_of port (arrivals.Long stamp len))) past (λ k. omega arith) plain.octets;
    unpaused = plain.unpaused;
  }

  plain_line : (past : List Row) (line : Line) → IsBytes line.command → IsPlain past → IsPlain (with_event plan base past (Command line.stamp line.command))
  plain_line past line of plain = record { octets = All-cons (λ (r : Row). IsBytes r.octets) _ past of plain.octets; unpaused = plain.unpaused }

  plain_failure_at : (past : List Row) (port : Port) (b : Bool) → IsPlain past → IsPlain (if b then with_event plan base past (End (passes.Egress port) hows.Failed) else past)
  plain_failure_at past port true plain = plain_end past (passes.Egress port) hows.Failed refl plain
  plain_failure_at past port false plain = plain

  plain_failure : (stops : PortStops) (past : List Row) (port : Port) → IsPlain past → IsPlain (with_failure plan base stops port past)
  plain_failure stops past port = plain_failure_at past port (is_stopped (stops (number_of port)) (pieces_by plan base (number_of port) past))

  plain_begun : (stops : PortStops) (ports : List PortPlan) (past : List Row) → IsPlain past → IsPlain (begun plan base stops ports past)
  plain_begun stops [] past plain = plain
  plain_begun stops (q ∷ qs) past plain = plain_begun stops qs (with_failure plan base stops q.number past) (plain_failure stops past q.number plain)

  plain_drain_at : (stops : PortStops) (past : List Row) (port : Port) (count : ℕ) (b : Bool) → IsPlain past → IsPlain (if b then past else with_failure plan base stops port (with_event plan base past (Drain port count)))
  plain_drain_at stops past port count true plain = plain
  plain_drain_at stops past port count false plain = plain_failure stops (with_event plan base past (Drain port count)) port (record {
    octets = All-cons (λ (r : Row). IsBytes r.octets) (row_of plan base past (Drain port count)) past (λ k. omega arith) plain.octets;
    unpaused = plain.unpaused;
  })

  plain_drained : (stops : PortStops) (ports : List PortPlan) (past : List Row) → IsPlain past → IsPlain (drained plan base stops ports past)
  plain_drained stops [] past plain = plain
  plain_drained stops (q ∷ qs) past plain =
      let count = length (queue plan base (number_of q.number) past) in
      plain_drained stops qs (with_drain plan base stops q.number count past) (plain_drain_at stops past q.number count (count == 0) plain)

  plain_entered : (stops : Stops) (t : Turn) (past : List Row) → IsTurn plan t → HasOctets t → IsPlain past → IsPlain (entered plan base stops t past)
  plain_entered stops (Arrives port a) past fits of plain = plain_drained stops.ports plan.ports (with_event plan base past (event_of port a)) (plain_arrival past port a of plain)
  plain_entered stops (Commands line) past fits of plain =
      let commanded = with_event plan base past (Command line.stamp line.command) in
      let plainly = plain_line past line of plain in
      plain_drained stops.ports plan.ports (with_reply plan base stops.control line commanded)
      (behind_reply plan base line commanded IsPlain plainly (plain_end commanded passes.Control hows.Unwritten refl plainly) (plain_end commanded passes.Control hows.Quit refl plainly) stops.control)
  plain_entered stops (Ends (passes.Ingress port) how) past fits of plain = plain_end past (passes.Ingress port) how (ending how fits.1) plain
  plain_entered stops (Ends passes.Control how) past fits of plain = plain_end past passes.Control how (control_ending how fits) plain
  plain_entered stops (Ends passes.Ticker how) past fits of plain = absurd fits
  plain_entered stops (Ends (passes.Egress port) how) past fits of plain = absurd fits

  -- pauses and closings have no octets

  bare_end : (past : List Row) (who : Who) (how : How) → AreOctets past → AreOctets (with_event plan base past (End who how))
  bare_end past who how all = All-cons (λ (r : Row). IsBytes r.octets) (row_of plan base past (End who how)) past (λ k. omega arith) all

  bare_at : (past : List Row) (who : Who) (how : How) (b : Bool) → AreOctets past → AreOctets (if b then past else with_event plan base past (End who how))
  bare_at past who how true all = all
  bare_at past who how false all = bare_end past who how all

  bare_ports : (ports : List PortPlan) (past : List Row) → AreOctets past → AreOctets (ports_paused plan base ports past)
  bare_ports [] past all = all
  bare_ports (p ∷ ports) past all =
      let who = passes.Ingress p.number in
      bare_ports ports (with_pause plan base who past) (bare_at past who hows.Paused (has_ended base (pass_of plan who) past) all)

  bare_paused : (past : List Row) → AreOctets past → AreOctets (inputs_paused plan base past)
  bare_paused past all = bare_ports plan.ports (with_pause plan base passes.Control past) (bare_at past passes.Control hows.Paused (has_ended base (control_pass plan) past) all)

  bare_egress : (ports : List PortPlan) (past : List Row) → AreOctets past → AreOctets (egress_ended plan base ports past)
  bare_egress [] past all = all
  bare_egress (q ∷ qs) past all =
      bare_egress qs (with_end plan base q.number past) (bare_at past (passes.Egress q.number) (closing past) (has_ended base (egress_pass plan (number_of q.number)) past) all)

  bare_closed : (past : List Row) → AreOctets past → AreOctets (closed plan base past)
  bare_closed past all = bare_egress plan.ports (with_event plan base past (End passes.Ticker (closing past))) (bare_end past passes.Ticker (closing past) all)

-- A replay so far: its segments are legal, those that are closed were left for a next one, and in the one that goes on
-- nothing waits, the ticker is open and nothing is paused.
pub record IsRunning (plan : Plan) (run : Run) : Type 0 where
  pub now : IsGood plan (base_in plan run) run.past
  pub plain : IsPlain run.past
  pub before : AreLegal plan run.closed
  pub turned : HaveTurned plan (segments_of run)

-- a segment has room at its start
pub room_first : (plan : Plan) → IsValidPlan plan → has_room plan [] ≡ true
room_first plan valid =
    let some : nat_lt (0 + 4130) plan.entries ≡ true = grind (arith, nat_tests, valid.entries.0) in
    let octets : nat_le (0 + 1518) plan.bytes ≡ true = grind (arith, nat_tests, valid.bytes.0) in
    ap (λ (b : Bool). b && nat_le (0 + 1518) plan.bytes) some ∙ octets

module _ (plan : Plan) (valid : IsValidPlan plan) (stops : Stops) where
  -- nothing is paused in the segment that goes on: what hasn't ended for good is open there
  pub alike : (run : Run) → IsRunning plan run → (pass : ℕ) → has_ended (base_in plan run) pass run.past ≡ has_ended_in plan pass run
  alike run is pass = ended_alike plan (base_in plan run) run.past pass is.now.legal is.plain.unpaused

  port_paused : (run : Run) (port : Port) → has_port plan (number_of port) ≡ true → has_ended (base_in plan run) (place_of plan (number_of port)) run.past ≡ false → has_pause (inputs_paused plan (base_in plan run) run.past) ≡ true
  port_paused run port known running =
      let within = place_within plan (number_of port) known in
      let number : number_at plan (place_of plan (number_of port)) ≡ number_of port = (placed plan (number_of port) known).number_is in
      ingress_shows plan (base_in plan run) run.past (place_of plan (number_of port)) within
      (ap (λ (n : ℕ). has_ended (base_in plan run) (place_of plan n) run.past) number ∙ running)

  -- an input of a turn is open: where there is no room, it is paused
  pub some_paused : (run : Run) (t : Turn) → IsTurn plan t → has_ended (base_in plan run) (pass_of plan (who_of t)) run.past ≡ false → has_pause (inputs_paused plan (base_in plan run) run.past) ≡ true
  some_paused run (Arrives port a) fits running = port_paused run port fits.0 running
  some_paused run (Commands line) fits running = control_shows plan (base_in plan run) run.past running
  some_paused run (Ends (passes.Ingress port) how) fits running = port_paused run port fits.0 running
  some_paused run (Ends passes.Control how) fits running = control_shows plan (base_in plan run) run.past running
  some_paused run (Ends passes.Ticker how) fits running = absurd fits
  some_paused run (Ends (passes.Egress port) how) fits running = absurd fits

  -- the pass of a turn is one of the plan's
  pass_low : (t : Turn) → IsTurn plan t → pass_of plan (who_of t) < pass_count plan
  pass_low (Arrives port a) fits = let within = place_within plan (number_of port) fits.0 in omega (arith, within)
  pass_low (Commands line) fits = omega arith
  pass_low (Ends (passes.Ingress port) how) fits = let within = place_within plan (number_of port) fits.0 in omega (arith, within)
  pass_low (Ends passes.Control how) fits = omega arith
  pass_low (Ends passes.Ticker how) fits = absurd fits
  pass_low (Ends (passes.Egress port) how) fits = absurd fits

  module _ (run : Run) (is : IsRunning plan run) (none : has_room plan run.past ≡ false) (shows : has_pause (inputs_paused plan (base_in plan run) run.past) ≡ true) where
    -- what has ended for good has ended in the next segment, and nothing else
    ended_next : (pass : ℕ) → pass < pass_count plan → has_ended_in plan pass (turned plan run) ≡ has_ended_in plan pass run
    ended_next pass below = ended_turned plan run pass below shows

    pub running_turned : IsRunning plan (turned plan run)
    running_turned =
        let base = base_in plan run in
        let paused = inputs_paused plan base run.past in
        record {
          now = record {
            legal = tt;
            ticking = ended_first (base_in plan (turned plan run)) (ticker_pass plan) ∙ ended_next (ticker_pass plan) (omega arith) ∙ sym (alike run is (ticker_pass plan)) ∙ is.now.ticking;
            quiet = λ k inside. refl;
          };
          plain = record { octets = All-nil (λ (r : Row). IsBytes r.octets); unpaused = refl };
          before = (
            legal_paused plan base (stops_left plan stops run) valid.ports run.past (record { good = is.now; none = none }),
            bare_closed plan base paused (bare_paused plan base run.past is.plain.octets),
            is.before,
          );
          turned = (
            (finished_closed plan base valid.ports paused (inputs_ended plan base valid.ports run.past), pause_closed plan base paused ∙ shows),
            is.turned,
          );
        }

  -- room is made for a turn
  record IsReadyFor (t : Turn) (old new : Run) : Type 0 where
    running : IsRunning plan new
    room : HasRoomFor plan t new.past
    ended : (pass : ℕ) → pass < pass_count plan → has_ended_in plan pass new ≡ has_ended_in plan pass old

  ready_at : (t : Turn) (run : Run) (b : Bool) → has_room plan run.past ≡ b → IsRunning plan run → IsTurn plan t → has_ended_in plan (pass_of plan (who_of t)) run ≡ false
      → ((new : Run) → has_room plan new.past ≡ true → HasRoomFor plan t new.past) → IsReadyFor t run (if b then run else turned plan run)
  ready_at t run true room is fits running by = record { running = is; room = by run room; ended = λ pass below. refl }
  ready_at t run false room is fits running by =
      let shows = some_paused run t fits (alike run is (pass_of plan (who_of t)) ∙ running) in
      record {
        running = running_turned run is room shows;
        room = by (turned plan run) (room_first plan valid);
        ended = ended_next run is room shows;
      }

  ready : (t : Turn) (run : Run) → IsRunning plan run → IsTurn plan t → has_ended_in plan (pass_of plan (who_of t)) run ≡ false → IsReadyFor t run (room_made plan t run)
  ready (Arrives port a) run is fits running = ready_at (Arrives port a) run (has_room plan run.past) refl is fits running (λ new room. room)
  ready (Commands line) run is fits running = ready_at (Commands line) run (has_room plan run.past) refl is fits running (λ new room. room)
  ready (Ends who how) run is fits running = record { running = is; room = tt; ended = λ pass below. refl }

  -- a turn is entered
  running_entered : (t : Turn) (run : Run) → IsRunning plan run → IsTurn plan t → HasOctets t → HasRoomFor plan t run.past → has_ended_in plan (pass_of plan (who_of t)) run ≡ false
      → IsRunning plan (entered_in plan stops t run)
  running_entered t run is fits of room running = record {
    now = good_entered plan (base_in plan run) (stops_left plan stops run) t run.past is.now fits room (alike run is (pass_of plan (who_of t)) ∙ running);
    plain = plain_entered plan (base_in plan run) (stops_left plan stops run) t run.past fits of is.plain;
    before = is.before;
    turned = is.turned;
  }

  taken_at : (t : Turn) (run : Run) (b : Bool) → has_ended_in plan (pass_of plan (who_of t)) run ≡ b → IsRunning plan run → IsTurn plan t → HasOctets t → IsRunning plan (if b then run else taken plan stops t run)
  taken_at t run true ended is fits of = is
  taken_at t run false running is fits of =
      let made = ready t run is fits running in
      running_entered t (room_made plan t run) made.running fits of made.room (made.ended (pass_of plan (who_of t)) (pass_low t fits) ∙ running)

  pub taken_one : (t : Turn) (run : Run) → IsRunning plan run → IsTurn plan t → HasOctets t → IsRunning plan (taken_if_open plan stops t run)
  taken_one t run is fits of = taken_at t run (has_ended_in plan (pass_of plan (who_of t)) run) refl is fits of

  pub running_all : (ts : List Turn) (run : Run) → IsRunning plan run → AreTurns plan ts → Each HasOctets ts → IsRunning plan (all_taken plan stops ts run)
  running_all [] run is fit of = is
  running_all (t ∷ ts) run is fit of = running_all ts (taken_if_open plan stops t run) (taken_one t run is fit.0 of.0) fit.1 of.1

  -- each pass whose ending is among the turns has ended behind them

  -- an ending that may come isn't a pause
  not_paused : (who : Who) (how : How) → IsTurn plan (Ends who how) → is_paused_reason how ≡ false
  not_paused (passes.Ingress port) how fits = ending how fits.1
  not_paused passes.Control how fits = control_ending how fits
  not_paused passes.Ticker how fits = absurd fits
  not_paused (passes.Egress port) how fits = absurd fits

  ended_here : (who : Who) (how : How) (run : Run) (b : Bool) → IsTurn plan (Ends who how) → has_ended_in plan (pass_of plan who) run ≡ b
      → has_ended_in plan (pass_of plan who) (if b then run else taken plan stops (Ends who how) run) ≡ true
  ended_here who how run true fits is = is
  ended_here who how run false fits is = rw (not_paused who how fits, eq-eqb (pass_of plan who) (pass_of plan who) refl) refl

  ended_all : (pass : ℕ) (ts : List Turn) (run : Run) → pass < pass_count plan → AreTurns plan ts → EndsIn plan pass ts → has_ended_in plan pass (all_taken plan stops ts run) ≡ true
  ended_all pass [] run below fit ends = absurd ends
  ended_all pass (Arrives port a ∷ ts) run below fit ends = ended_all pass ts (taken_if_open plan stops (Arrives port a) run) below fit.1 ends
  ended_all pass (Commands line ∷ ts) run below fit ends = ended_all pass ts (taken_if_open plan stops (Commands line) run) below fit.1 ends
  ended_all pass (Ends who how ∷ ts) run below fit (inl here) =
      let next = taken_if_open plan stops (Ends who how) run in
      later_all plan stops ts next pass below
      (subst (λ (n : ℕ). has_ended_in plan n next ≡ true) here (ended_here who how run (has_ended_in plan (pass_of plan who) run) fit.0 refl))
  ended_all pass (Ends who how ∷ ts) run below fit (inr there) = ended_all pass ts (taken_if_open plan stops (Ends who how) run) below fit.1 there

  -- the whole replay

  pub running_begun : IsRunning plan (run_begun plan stops)
  running_begun = record {
    now = good_begun plan empty stops valid.ports (λ pass. refl);
    plain = plain_begun plan empty stops.ports plan.ports [] (record { octets = All-nil (λ (r : Row). IsBytes r.octets); unpaused = refl });
    before = tt;
    turned = (tt, tt);
  }

  module _ (lines : Option control.Input) (inputs : List Input) (size : length inputs ≡ length plan.ports) (control_is : IsControl lines) (are : All IsInput inputs) (of : AreOfOctets lines inputs) where
    abbrev all : List Turn
    all = merged turn_at (all_turns lines plan.ports inputs)

    fit : AreTurns plan all
    fit = all_turns_fit plan empty stops lines inputs control_is are

    of_octets : Each HasOctets all
    of_octets =
        each_merge HasOctets (control_turns lines) (merged turn_at (port_turns plan.ports inputs)) (octets_of_control lines inputs of) (octets_of_ports plan.ports inputs of.arrivals)

    pub running_last : IsRunning plan (inputs_taken plan lines inputs stops)
    running_last = running_all all (run_begun plan stops) running_begun fit of_octets

    input_over : (pass : ℕ) → (pass < length plan.ports) ⊎ (length plan.ports ≤ pass) → pass < control_pass plan + 1 → has_ended_in plan pass (inputs_taken plan lines inputs stops) ≡ true
    input_over pass (inl inside) below =
        let place = place_at plan pass valid.ports inside in
        let ends = in_merged plan (place_of plan (number_at plan pass)) (all_turns lines plan.ports inputs) (suc pass) (in_port_turns plan plan.ports inputs pass size inside) in
        subst (λ (n : ℕ). has_ended_in plan n (inputs_taken plan lines inputs stops) ≡ true) place
        (ended_all (place_of plan (number_at plan pass)) all (run_begun plan stops) (omega (arith, place, inside)) fit ends)
    input_over pass (inr outside) below =
        let is : control_pass plan ≡ pass = omega (arith, outside, below) in
        subst (λ (n : ℕ). has_ended_in plan n (inputs_taken plan lines inputs stops) ≡ true) is
        (ended_all (control_pass plan) all (run_begun plan stops) (omega arith) fit (in_merged plan (control_pass plan) (all_turns lines plan.ports inputs) 0 (in_control_turns plan lines)))

    inputs_over : InputsEnded plan (base_in plan (inputs_taken plan lines inputs stops)) (inputs_taken plan lines inputs stops).past
    inputs_over pass below =
        alike (inputs_taken plan lines inputs stops) running_last pass ∙ input_over pass (cases_lt pass (length plan.ports)) below

    pub whole_session : IsWholeSession plan (replayed plan lines inputs stops)
    whole_session =
        let run = inputs_taken plan lines inputs stops in
        let base = base_in plan run in
        let last = running_last in
        record {
          legal = (legal_closed plan base (stops_left plan stops run) run.past last.now inputs_over, bare_closed plan base run.past last.plain.octets, last.before);
          turned = last.turned;
          closed = (finished_closed plan base valid.ports run.past inputs_over, pause_closed plan base run.past ∙ last.plain.unpaused);
        }
