-- What has ended for good stays so, and what comes behind the end of its input is passed over.
use Rattle.std.proofs.Common.{◌≡◌, ℕ, suc, ◌<◌, ◌==◌, not, Bool, true, false, if◌then◌else◌, List, [], ◌∷◌, map, get_or, length, refl, ap, sym, subst, ◌∙◌, inl, inr, ◌⊎◌, Option, Some}
use Rattle.std.specs.Option.{is_some}
use Rattle.std.specs.List.{filter}
use Rattle.savi_kinds.specs.declared.port.Port.{Port}
use Rattle.savi_kinds.specs.declared.plan.Plan.{Plan}
use Rattle.savi_kinds.specs.declared.plan.PortPlan.{PortPlan}
use Rattle.savi_kinds.specs.declared.entry.Who.TheVariants as passes
use Rattle.savi_kinds.specs.declared.entry.How.{How}
use Rattle.savi_kinds.specs.declared.entry.How.TheVariants as hows
use Rattle.savi_kinds.specs.Ports.{number_of}
use Rattle.cli_lang.specs.Arrivals.{Line}
use Rattle.hist_store.specs.Rows.{Row}
use Rattle.checkpoint.specs.Bases.{Base}
use Rattle.savi_history.specs.Endings.{is_paused_reason}
use Rattle.savi_history.specs.Events.{Event, Frame, Long, Command, Tick, Drain, End}
use Rattle.savi_history.specs.Limits.{has_room}
use Rattle.savi_history.specs.Merges.{merged}
use Rattle.savi_history.specs.Passes.{control_pass, egress_pass, has_ended, pass_count, pass_of}
use Rattle.savi_history.specs.Queues.{queue}
use Rattle.savi_history.specs.Replay.{PortStops, Stops, closed, closing, drained, egress_ended, entered, event_of, is_stopped, pieces_by, with_drain, with_end, with_event, with_failure, with_reply}
use Rattle.savi_history.specs.Turns.{Turn, Arrives, Commands, Ends, turn_at, who_of}
use Rattle.savi_history.proofs.Filtering.{AllAre, AreWhole, filter_merged}
use Rattle.savi_history.proofs.Replying.{behind_reply}
use Rattle.savi_segments.specs.Checkpoints.{end_of, up_to}
use Rattle.savi_segments.specs.Replay.{Run, all_taken, base_in, has_ended_in, inputs_paused, ports_paused, room_made, stops_left, taken, taken_if_open, turned, with_pause}
use Rattle.savi_segments.proofs.EachTurn.{Each, each_merged}
use Rattle.savi_segments.proofs.Passing.{below_in, in_ends}

-- what had ended for good after the first history has after the second
abbrev pub LaterFor : Base → List Row → List Row → Type 0
LaterFor base before now = (pass : ℕ) → is_some (end_of base pass before) ≡ true → is_some (end_of base pass now) ≡ true

some_at : (paused here : Bool) (how : How) (before : Option How) → is_some before ≡ true → is_some (if paused then before else if here then Some how else before) ≡ true
some_at true here how before is = is
some_at false true how before is = refl
some_at false false how before is = is

module _ (plan : Plan) (base : Base) where
  later_for : (past : List Row) (event : Event) → LaterFor base past (with_event plan base past event)
  later_for past (Frame port stamp octets) pass is = is
  later_for past (Long port stamp len) pass is = is
  later_for past (Command stamp line) pass is = is
  later_for past (Tick stamp) pass is = is
  later_for past (Drain port count) pass is = is
  later_for past (End who how) pass is = some_at (is_paused_reason how) (pass_of plan who == pass) how (end_of base pass past) is

  -- an event, or none
  later_if : (past : List Row) (event : Event) (b : Bool) → LaterFor base past (if b then past else with_event plan base past event)
  later_if past event true pass is = is
  later_if past event false pass is = later_for past event pass is

  later_failure_at : (past : List Row) (port : Port) (b : Bool) → LaterFor base past (if b then with_event plan base past (End (passes.Egress port) hows.Failed) else past)
  later_failure_at past port true pass is = later_for past (End (passes.Egress port) hows.Failed) pass is
  later_failure_at past port false pass is = is

  later_failure : (stops : PortStops) (past : List Row) (port : Port) → LaterFor base past (with_failure plan base stops port past)
  later_failure stops past port = later_failure_at past port (is_stopped (stops (number_of port)) (pieces_by plan base (number_of port) past))

  later_drain_at : (stops : PortStops) (past : List Row) (port : Port) (count : ℕ) (b : Bool) → LaterFor base past (if b then past else with_failure plan base stops port (with_event plan base past (Drain port count)))
  later_drain_at stops past port count true pass is = is
  later_drain_at stops past port count false pass is = later_failure stops (with_event plan base past (Drain port count)) port pass is

  later_drained : (stops : PortStops) (ports : List PortPlan) (past : List Row) → LaterFor base past (drained plan base stops ports past)
  later_drained stops [] past pass is = is
  later_drained stops (q ∷ qs) past pass is =
      let count = length (queue plan base (number_of q.number) past) in
      later_drained stops qs (with_drain plan base stops q.number count past) pass (later_drain_at stops past q.number count (count == 0) pass is)

  later_reply : (stop : Option ℕ) (line : Line) (past : List Row) → LaterFor base past (with_reply plan base stop line past)
  later_reply stop line past pass is =
      behind_reply plan base line past (λ now. is_some (end_of base pass now) ≡ true) is
      (later_for past (End passes.Control hows.Unwritten) pass is) (later_for past (End passes.Control hows.Quit) pass is) stop

  pub later_entered : (stops : Stops) (turn : Turn) (past : List Row) → LaterFor base past (entered plan base stops turn past)
  later_entered stops (Arrives port arrival) past pass is =
      later_drained stops.ports plan.ports (with_event plan base past (event_of port arrival)) pass (later_for past (event_of port arrival) pass is)
  later_entered stops (Commands line) past pass is =
      let commanded = with_event plan base past (Command line.stamp line.command) in
      later_drained stops.ports plan.ports (with_reply plan base stops.control line commanded) pass
      (later_reply stops.control line commanded pass (later_for past (Command line.stamp line.command) pass is))
  later_entered stops (Ends who how) past pass is = later_for past (End who how) pass is

  later_ports : (ports : List PortPlan) (past : List Row) → LaterFor base past (ports_paused plan base ports past)
  later_ports [] past pass is = is
  later_ports (p ∷ ports) past pass is =
      let who = passes.Ingress p.number in
      later_ports ports (with_pause plan base who past) pass (later_if past (End who hows.Paused) (has_ended base (pass_of plan who) past) pass is)

  later_egress : (ports : List PortPlan) (past : List Row) → LaterFor base past (egress_ended plan base ports past)
  later_egress [] past pass is = is
  later_egress (q ∷ qs) past pass is =
      later_egress qs (with_end plan base q.number past) pass
      (later_if past (End (passes.Egress q.number) (closing past)) (has_ended base (egress_pass plan (number_of q.number)) past) pass is)

  -- so it stays where a segment is paused and closed
  later_closed : (past : List Row) → LaterFor base past (closed plan base (inputs_paused plan base past))
  later_closed past pass is =
      let control = with_pause plan base passes.Control past in
      let paused = inputs_paused plan base past in
      later_egress plan.ports (with_event plan base paused (End passes.Ticker (closing paused))) pass
      (later_for paused (End passes.Ticker (closing paused)) pass
      (later_ports plan.ports control pass (later_if past (End passes.Control hows.Paused) (has_ended base (control_pass plan) past) pass is)))

-- in the next segment too
pub later_turned : (plan : Plan) (run : Run) (pass : ℕ) → pass < pass_count plan → has_ended_in plan pass run ≡ true → has_ended_in plan pass (turned plan run) ≡ true
later_turned plan run pass below is =
    let base = base_in plan run in
    let segment = closed plan base (inputs_paused plan base run.past) in
    ap is_some (in_ends (λ (n : ℕ). end_of base n segment) pass (up_to (pass_count plan)) (below_in (pass_count plan) pass below))
    ∙ later_closed plan base run.past pass is

module _ (plan : Plan) where
  -- what had ended for good in the first run has in the second
  abbrev pub LaterIn : Run → Run → Type 0
  LaterIn before now = (pass : ℕ) → pass < pass_count plan → has_ended_in plan pass before ≡ true → has_ended_in plan pass now ≡ true

  -- the pass of a turn hasn't ended
  abbrev pub is_open_in : Run → Turn → Bool
  is_open_in run turn = not (has_ended_in plan (pass_of plan (who_of turn)) run)

  -- what is left of each input: nothing where its pass has ended
  abbrev pub still_open_in : Run → List (List Turn) → List (List Turn)
  still_open_in run inputs = map (filter (is_open_in run)) inputs

  -- all of these turns are of one pass of the plan
  abbrev pub AreOf : ℕ → List Turn → Type 0
  AreOf pass [] = Unit {0}
  AreOf pass (x ∷ xs) = (pass_of plan (who_of x) ≡ pass) × AreOf pass xs

  pub record IsOfOne (turns : List Turn) : Type 0 where
    pub pass : ℕ
    pub low : pass < pass_count plan
    pub of : AreOf pass turns

  -- each input is of one pass
  abbrev pub AreSingle : List (List Turn) → Type 0
  AreSingle inputs = (k : ℕ) → IsOfOne (get_or inputs k [])

  -- each of these turns is of a pass of the plan
  abbrev pub IsLow : Turn → Type 0
  IsLow turn = pass_of plan (who_of turn) < pass_count plan

  pub low_of : (pass : ℕ) → pass < pass_count plan → (turns : List Turn) → AreOf pass turns → Each IsLow turns
  low_of pass low [] of = tt
  low_of pass low (x ∷ xs) of = (subst (λ (n : ℕ). n < pass_count plan) (sym of.0) low, low_of pass low xs of.1)

  pub low_merged : (inputs : List (List Turn)) → AreSingle inputs → Each IsLow (merged turn_at inputs)
  low_merged inputs single = each_merged IsLow inputs (λ k. low_of (single k).pass (single k).low (get_or inputs k []) (single k).of)

  all_are : (run : Run) (pass : ℕ) (xs : List Turn) → AreOf pass xs → AllAre (is_open_in run) (not (has_ended_in plan pass run)) xs
  all_are run pass [] of = tt
  all_are run pass (x ∷ xs) of = (ap (λ (n : ℕ). not (has_ended_in plan n run)) of.0, all_are run pass xs of.1)

  whole_at : (keeps : Turn → Bool) (xs : List Turn) (b : Bool) → AllAre keeps b xs → AllAre keeps true xs ⊎ AllAre keeps false xs
  whole_at keeps xs true all = inl all
  whole_at keeps xs false all = inr all

  are_whole : (run : Run) (inputs : List (List Turn)) → AreSingle inputs → AreWhole (is_open_in run) inputs
  are_whole run [] single = tt
  are_whole run (input ∷ inputs) single =
      let first = single 0 in
      (whole_at (is_open_in run) input (not (has_ended_in plan first.pass run)) (all_are run first.pass input first.of), are_whole run inputs (λ k. single (suc k)))

module _ (plan : Plan) (stops : Stops) where
  later_room_at : (run : Run) (b : Bool) → LaterIn plan run (if b then run else turned plan run)
  later_room_at run true pass below is = is
  later_room_at run false pass below is = later_turned plan run pass below is

  pub later_room : (turn : Turn) (run : Run) → LaterIn plan run (room_made plan turn run)
  later_room (Arrives port arrival) run pass below is = later_room_at run (has_room plan run.past) pass below is
  later_room (Commands line) run pass below is = later_room_at run (has_room plan run.past) pass below is
  later_room (Ends who how) run pass below is = is

  pub later_taken : (turn : Turn) (run : Run) → LaterIn plan run (taken plan stops turn run)
  later_taken turn run pass below is =
      let made = room_made plan turn run in
      later_entered plan (base_in plan made) (stops_left plan stops made) turn made.past pass (later_room turn run pass below is)

  later_if_open_at : (turn : Turn) (run : Run) (b : Bool) → LaterIn plan run (if b then run else taken plan stops turn run)
  later_if_open_at turn run true pass below is = is
  later_if_open_at turn run false pass below is = later_taken turn run pass below is

  pub later_if_open : (turn : Turn) (run : Run) → LaterIn plan run (taken_if_open plan stops turn run)
  later_if_open turn run = later_if_open_at turn run (has_ended_in plan (pass_of plan (who_of turn)) run)

  pub later_all : (turns : List Turn) (run : Run) → LaterIn plan run (all_taken plan stops turns run)
  later_all [] run pass below is = is
  later_all (turn ∷ turns) run pass below is = later_all turns (taken_if_open plan stops turn run) pass below (later_if_open turn run pass below is)

  pub taken_ended : (turn : Turn) (run : Run) → has_ended_in plan (pass_of plan (who_of turn)) run ≡ true → taken_if_open plan stops turn run ≡ run
  taken_ended turn run is = rw is refl

  pub taken_open : (turn : Turn) (run : Run) → has_ended_in plan (pass_of plan (who_of turn)) run ≡ false → taken_if_open plan stops turn run ≡ taken plan stops turn run
  taken_open turn run is = rw is refl

  passed_at : (before : Run) (turn : Turn) (turns : List Turn) (run : Run) (b : Bool) → has_ended_in plan (pass_of plan (who_of turn)) before ≡ b → pass_of plan (who_of turn) < pass_count plan → LaterIn plan before run
      → ((now : Run) → LaterIn plan before now → all_taken plan stops turns now ≡ all_taken plan stops (filter (is_open_in plan before) turns) now)
      → all_taken plan stops (turn ∷ turns) run ≡ all_taken plan stops (filter (is_open_in plan before) (turn ∷ turns)) run
  passed_at before turn turns run true is low later step =
      ap (all_taken plan stops turns) (taken_ended turn run (later (pass_of plan (who_of turn)) low is)) ∙ step run later ∙ rw is refl
  passed_at before turn turns run false is low later step =
      step (taken_if_open plan stops turn run) (λ pass below ended. later_if_open turn run pass below (later pass below ended)) ∙ rw is refl

  -- turns of passes that ended before are passed over
  pub passed_over : (before : Run) (turns : List Turn) (run : Run) → Each (IsLow plan) turns → LaterIn plan before run → all_taken plan stops turns run ≡ all_taken plan stops (filter (is_open_in plan before) turns) run
  passed_over before [] run low later = refl
  passed_over before (turn ∷ turns) run low later =
      passed_at before turn turns run (has_ended_in plan (pass_of plan (who_of turn)) before) refl low.0 later (λ now is. passed_over before turns now low.1 is)

  -- What an input still holds behind its end changes nothing.
  pub stopped : (run : Run) (inputs : List (List Turn)) → AreSingle plan inputs
      → all_taken plan stops (merged turn_at inputs) run ≡ all_taken plan stops (merged turn_at (still_open_in plan run inputs)) run
  stopped run inputs single =
      passed_over run (merged turn_at inputs) run (low_merged plan inputs single) (λ pass below is. is)
      ∙ ap (λ (l : List Turn). all_taken plan stops l run) (filter_merged turn_at (is_open_in plan run) inputs (are_whole plan run inputs single))
