-- No more goes in than comes in: by a replay than its inputs have, and by any history or segments than they hold of control
-- and the ports.
use Rattle.std.proofs.Common.{◌≡◌, ℕ, ◌+◌, ◌≤◌, ◌==◌, ◌||◌, nat_lt, not, Bool, true, false, if◌then◌else◌, List, [], ◌∷◌, ◌++◌, map, length, sum_by, Option, Some, None, refl, sym, ap, ◌∙◌, subst, arith}
use Rattle.std.specs.List.{list_any, flat_map}
use Rattle.std.proofs.lemmas.Bool.{false≢true, eqb-true, eq-eqb}
use Rattle.std.proofs.lemmas.List.Sums.{sum_by-cons, sum_by-append}
use Rattle.savi_kinds.specs.declared.plan.Plan.{Plan}
use Rattle.savi_kinds.specs.declared.plan.PortPlan.{PortPlan}
use Rattle.savi_kinds.specs.declared.port.Port.{Port}
use Rattle.savi_kinds.specs.declared.entry.Who.{Who}
use Rattle.savi_kinds.specs.declared.entry.Who.TheVariants as passes
use Rattle.savi_kinds.specs.declared.entry.How.{How}
use Rattle.savi_kinds.specs.declared.entry.How.TheVariants as hows
use Rattle.savi_kinds.specs.Ports.{number_of}
use Rattle.savi_kinds.specs.ValidPlan.{numbers_of}
use Rattle.savi_kinds.specs.Arrivals.{Arrival, Input}
use Rattle.savi_kinds.specs.Arrivals as arrivals
use Rattle.cli_lang.specs.Arrivals.{Line}
use Rattle.cli_lang.specs.Arrivals as control
use Rattle.hist_store.specs.Rows.{Row, held}
use Rattle.checkpoint.specs.Bases.{Base, empty}
use Rattle.savi_history.specs.Endings.{is_paused_reason}
use Rattle.savi_history.specs.Passes.{pass_of, egress_pass, has_ended}
use Rattle.savi_history.specs.Limits.{has_room}
use Rattle.savi_history.specs.Queues.{queue}
use Rattle.savi_history.specs.Legal.{IsLegal, Stands, MayCome}
use Rattle.savi_history.specs.ControlInputs.{line_by, entered_lines}
use Rattle.savi_history.specs.PortInputs.{arrived, arrived_by}
use Rattle.savi_history.specs.Events.{Event, Frame, Long, Command, Tick, Drain, End, row_of}
use Rattle.savi_history.specs.Merges.{enter, merge, merged}
use Rattle.savi_history.specs.Turns.{Turn, Arrives, Commands, Ends, who_of, turn_at, turns, port_turns, control_turns, all_turns}
use Rattle.savi_history.specs.Replay.{PortStops, Stops, is_stopped, pieces_by, event_of, with_event, with_failure, begun, with_drain, drained, with_reply, entered, closed, closing, with_end, egress_ended}
use Rattle.savi_history.proofs.Replying.{behind_reply}
use Rattle.savi_segments.specs.Replay.{Run, all_closed, all_taken, base_in, has_ended_in, inputs_paused, inputs_taken, ports_paused, replayed, room_made, run_begun, segments_of, stops_left, taken, taken_if_open, turned, with_pause}
use Rattle.savi_segments.specs.Segments.{AreLegal, base_after, joined}
use Rattle.savi_segments.specs.Unbroken.{unbroken, without_pauses}
use Rattle.savi_laws.specs.Budgets.{input_count, given_count, given_octets, kept_of, lines_of, arrivals_of, all_arrived}

pub sum_ones : {X : Type 0} (xs : List X) → sum_by (λ x. 1) xs ≡ length xs
sum_ones [] = refl
sum_ones (x ∷ xs) = omega (arith, sum_by-cons (λ y. 1) x xs, sum_ones xs)

-- a weight of each arrival and line, and of the turns that they have
module _ (of_arrival : Arrival → ℕ) (of_line : Line → ℕ) where
  abbrev pub of_turn : Turn → ℕ
  of_turn (Arrives port arrival) = of_arrival arrival
  of_turn (Commands line) = of_line line
  of_turn (Ends who how) = 0

  abbrev of_turns : List Turn → ℕ
  of_turns [] = 0
  of_turns (x ∷ xs) = of_turn x + of_turns xs

  first_turns : (b : Bool) (x y : Turn) (xs ys : List Turn) (n : ℕ) → of_turn x + of_turns xs ≤ n → of_turn y + of_turns ys ≤ n → of_turns (if b then y ∷ ys else x ∷ xs) ≤ n
  first_turns true x y xs ys n one two = two
  first_turns false x y xs ys n one two = one

  enter_turns : (x : Turn) (rest : List Turn → List Turn) (m : ℕ) → ((ys : List Turn) → of_turns (rest ys) ≤ m + of_turns ys) → (ys : List Turn) → of_turns (enter turn_at x rest ys) ≤ of_turn x + m + of_turns ys
  enter_turns x rest m behind [] = omega (arith, behind [])
  enter_turns x rest m behind (y ∷ ys) =
      first_turns (nat_lt (turn_at y) (turn_at x)) x y (rest (y ∷ ys)) (enter turn_at x rest ys) (of_turn x + m + of_turns (y ∷ ys)) (omega (arith, behind (y ∷ ys))) (omega (arith, enter_turns x rest m behind ys))

  merge_turns : (xs ys : List Turn) → of_turns (merge turn_at xs ys) ≤ of_turns xs + of_turns ys
  merge_turns [] ys = omega arith
  merge_turns (x ∷ xs) ys = enter_turns x (merge turn_at xs) (of_turns xs) (λ zs. merge_turns xs zs) ys

  port_most : (port : Port) (own : List Arrival) (how : How) → of_turns (map (λ a. Arrives port a) own ++ Ends (passes.Ingress port) how ∷ []) ≤ sum_by of_arrival own
  port_most port [] how = omega arith
  port_most port (a ∷ own) how = omega (arith, sum_by-cons of_arrival a own, port_most port own how)

  line_most : (lines : List Line) (how : How) → of_turns (map (λ line. Commands line) lines ++ Ends passes.Control how ∷ []) ≤ sum_by of_line lines
  line_most [] how = omega arith
  line_most (line ∷ lines) how = omega (arith, sum_by-cons of_line line lines, line_most lines how)

  ports_most : (ports : List PortPlan) (inputs : List Input) → of_turns (merged turn_at (port_turns ports inputs)) ≤ sum_by of_arrival (arrivals_of inputs)
  ports_most [] inputs = omega arith
  ports_most (p ∷ ports) [] = omega arith
  ports_most (p ∷ ports) (i ∷ inputs) =
      omega (
        arith,
        merge_turns (turns p.number i) (merged turn_at (port_turns ports inputs)),
        port_most p.number i.arrivals i.ending,
        ports_most ports inputs,
        sum_by-append of_arrival i.arrivals (arrivals_of inputs),
      )

  control_most : (lines : Option control.Input) → of_turns (control_turns lines) ≤ sum_by of_line (lines_of lines)
  control_most None = omega arith
  control_most (Some input) = line_most input.arrivals input.ending

  all_most : (lines : Option control.Input) (ports : List PortPlan) (inputs : List Input) → of_turns (merged turn_at (all_turns lines ports inputs)) ≤ sum_by of_line (lines_of lines) + sum_by of_arrival (arrivals_of inputs)
  all_most lines ports inputs = omega (arith, merge_turns (control_turns lines) (merged turn_at (port_turns ports inputs)), control_most lines, ports_most ports inputs)

  -- what rows weigh: an input as much as its arrival or line, and another entry nothing
  pub record Weighs (plan : Plan) (weight : List Row → ℕ) : Type 0 where
    none : weight [] ≡ 0
    frame : (base : Base) (past rows : List Row) (port : Port) (stamp : ℕ) (octets : List ℕ) → weight (row_of plan base past (Frame port stamp octets) ∷ rows) ≡ of_arrival (arrivals.Frame stamp octets) + weight rows
    long : (base : Base) (past rows : List Row) (port : Port) (stamp len : ℕ) → weight (row_of plan base past (Long port stamp len) ∷ rows) ≡ of_arrival (arrivals.Long stamp len) + weight rows
    line : (base : Base) (past rows : List Row) (stamp : ℕ) (command : List ℕ) → weight (row_of plan base past (Command stamp command) ∷ rows) ≡ of_line (record { stamp = stamp; command = command }) + weight rows
    tick : (base : Base) (past rows : List Row) (stamp : ℕ) → weight (row_of plan base past (Tick stamp) ∷ rows) ≡ weight rows
    drain : (base : Base) (past rows : List Row) (port : Port) (count : ℕ) → weight (row_of plan base past (Drain port count) ∷ rows) ≡ weight rows
    ends : (base : Base) (past rows : List Row) (who : Who) (how : How) → weight (row_of plan base past (End who how) ∷ rows) ≡ weight rows

  module _ (plan : Plan) (weight : List Row → ℕ) (weighs : Weighs plan weight) where
    -- In a segment behind these rows.
    module _ (base : Base) (before : List Row) where
      abbrev of_rows : List Row → ℕ
      of_rows past = weight (past ++ before)

      if_same : (b : Bool) (one two : List Row) (n : ℕ) → of_rows one ≡ n → of_rows two ≡ n → of_rows (if b then one else two) ≡ n
      if_same true one two n first second = first
      if_same false one two n first second = second

      same_end : (past : List Row) (who : Who) (how : How) → of_rows (with_event plan base past (End who how)) ≡ of_rows past
      same_end past who how = weighs.ends base past (past ++ before) who how

      same_failure : (stops : PortStops) (past : List Row) (port : Port) → of_rows (with_failure plan base stops port past) ≡ of_rows past
      same_failure stops past port =
          if_same (is_stopped (stops (number_of port)) (pieces_by plan base (number_of port) past)) (with_event plan base past (End (passes.Egress port) hows.Failed)) past (of_rows past)
          (same_end past (passes.Egress port) hows.Failed) refl

      same_begun : (stops : PortStops) (qs : List PortPlan) (past : List Row) → of_rows (begun plan base stops qs past) ≡ of_rows past
      same_begun stops [] past = refl
      same_begun stops (q ∷ qs) past = same_begun stops qs (with_failure plan base stops q.number past) ∙ same_failure stops past q.number

      same_drain : (stops : PortStops) (past : List Row) (port : Port) (count : ℕ) → of_rows (with_drain plan base stops port count past) ≡ of_rows past
      same_drain stops past port count =
          let drain = with_event plan base past (Drain port count) in
          if_same (count == 0) past (with_failure plan base stops port drain) (of_rows past) refl (same_failure stops drain port ∙ weighs.drain base past (past ++ before) port count)

      same_drained : (stops : PortStops) (qs : List PortPlan) (past : List Row) → of_rows (drained plan base stops qs past) ≡ of_rows past
      same_drained stops [] past = refl
      same_drained stops (q ∷ qs) past =
          let count = length (queue plan base (number_of q.number) past) in
          same_drained stops qs (with_drain plan base stops q.number count past) ∙ same_drain stops past q.number count

      same_reply : (stop : Option ℕ) (past : List Row) (line : Line) → of_rows (with_reply plan base stop line past) ≡ of_rows past
      same_reply stop past line =
          behind_reply plan base line past (λ now. of_rows now ≡ of_rows past) refl (same_end past passes.Control hows.Unwritten) (same_end past passes.Control hows.Quit) stop

      one_arrival : (past : List Row) (port : Port) (arrival : Arrival) → of_rows (with_event plan base past (event_of port arrival)) ≡ of_arrival arrival + of_rows past
      one_arrival past port (arrivals.Frame stamp octets) = weighs.frame base past (past ++ before) port stamp octets
      one_arrival past port (arrivals.Long stamp len) = weighs.long base past (past ++ before) port stamp len

      -- a turn weighs what it enters
      one_entered : (stops : Stops) (turn : Turn) (past : List Row) → of_rows (entered plan base stops turn past) ≡ of_turn turn + of_rows past
      one_entered stops (Arrives port arrival) past = same_drained stops.ports plan.ports (with_event plan base past (event_of port arrival)) ∙ one_arrival past port arrival
      one_entered stops (Commands line) past =
          let commanded = with_event plan base past (Command line.stamp line.command) in
          same_drained stops.ports plan.ports (with_reply plan base stops.control line commanded)
          ∙ same_reply stops.control commanded line
          ∙ weighs.line base past (past ++ before) line.stamp line.command
      one_entered stops (Ends who how) past = omega (arith, same_end past who how)

      -- pauses and closings weigh nothing

      same_pause : (past : List Row) (who : Who) → of_rows (with_pause plan base who past) ≡ of_rows past
      same_pause past who = if_same (has_ended base (pass_of plan who) past) past (with_event plan base past (End who hows.Paused)) (of_rows past) refl (same_end past who hows.Paused)

      same_ports : (ports : List PortPlan) (past : List Row) → of_rows (ports_paused plan base ports past) ≡ of_rows past
      same_ports [] past = refl
      same_ports (p ∷ ports) past = same_ports ports (with_pause plan base (passes.Ingress p.number) past) ∙ same_pause past (passes.Ingress p.number)

      same_paused : (past : List Row) → of_rows (inputs_paused plan base past) ≡ of_rows past
      same_paused past = same_ports plan.ports (with_pause plan base passes.Control past) ∙ same_pause past passes.Control

      same_egress : (qs : List PortPlan) (past : List Row) → of_rows (egress_ended plan base qs past) ≡ of_rows past
      same_egress [] past = refl
      same_egress (q ∷ qs) past =
          same_egress qs (with_end plan base q.number past)
          ∙ if_same (has_ended base (egress_pass plan (number_of q.number)) past) past (with_event plan base past (End (passes.Egress q.number) (closing past))) (of_rows past) refl
          (same_end past (passes.Egress q.number) (closing past))

      same_closed : (past : List Row) → of_rows (closed plan base past) ≡ of_rows past
      same_closed past = same_egress plan.ports (with_event plan base past (End passes.Ticker (closing past))) ∙ same_end past passes.Ticker (closing past)

    -- Over segments.
    module _ (stops : Stops) where
      abbrev of_run : Run → ℕ
      of_run run = weight (joined (segments_of run))

      pub same_turned : (run : Run) → of_run (turned plan run) ≡ of_run run
      same_turned run =
          same_closed (base_in plan run) (joined run.closed) (inputs_paused plan (base_in plan run) run.past) ∙ same_paused (base_in plan run) (joined run.closed) run.past

      same_room_at : (run : Run) (b : Bool) → of_run (if b then run else turned plan run) ≡ of_run run
      same_room_at run true = refl
      same_room_at run false = same_turned run

      same_room : (turn : Turn) (run : Run) → of_run (room_made plan turn run) ≡ of_run run
      same_room (Arrives port arrival) run = same_room_at run (has_room plan run.past)
      same_room (Commands line) run = same_room_at run (has_room plan run.past)
      same_room (Ends who how) run = refl

      pub one_taken : (turn : Turn) (run : Run) → of_run (taken plan stops turn run) ≡ of_turn turn + of_run run
      one_taken turn run =
          let made = room_made plan turn run in
          one_entered (base_in plan made) (joined made.closed) (stops_left plan stops made) turn made.past ∙ ap (λ (n : ℕ). of_turn turn + n) (same_room turn run)

      one_if_open : (turn : Turn) (run : Run) (b : Bool) → of_run (if b then run else taken plan stops turn run) ≤ of_turn turn + of_run run
      one_if_open turn run true = omega arith
      one_if_open turn run false = omega (arith, one_taken turn run)

      taken_most : (turns : List Turn) (run : Run) → of_run (all_taken plan stops turns run) ≤ of_turns turns + of_run run
      taken_most [] run = omega arith
      taken_most (turn ∷ turns) run =
          omega (arith, taken_most turns (taken_if_open plan stops turn run), one_if_open turn run (has_ended_in plan (pass_of plan (who_of turn)) run))

      pub same_last : (run : Run) → weight (joined (all_closed plan run)) ≡ of_run run
      same_last run = same_closed (base_in plan run) (joined run.closed) run.past

      pub none_begun : of_run (run_begun plan stops) ≡ 0
      none_begun = same_begun empty [] stops.ports plan.ports [] ∙ weighs.none

      replay_most : (lines : Option control.Input) (inputs : List Input) → weight (joined (replayed plan lines inputs stops)) ≤ sum_by of_line (lines_of lines) + sum_by of_arrival (arrivals_of inputs)
      replay_most lines inputs =
          omega (
            arith,
            same_last (inputs_taken plan lines inputs stops),
            taken_most (merged turn_at (all_turns lines plan.ports inputs)) (run_begun plan stops),
            none_begun,
            all_most lines plan.ports inputs,
          )

    -- what the ports of a plan have of an entry, of one of them at least
    port_parts : (ports : List PortPlan) (one other : ℕ → List Arrival)
        → sum_by of_arrival (flat_map (λ p. one (number_of p.number) ++ other (number_of p.number)) ports)
        ≡ sum_by of_arrival (flat_map (λ p. one (number_of p.number)) ports) + sum_by of_arrival (flat_map (λ p. other (number_of p.number)) ports)
    port_parts [] one other = omega arith
    port_parts (p ∷ ports) one other =
        omega (
          arith,
          sum_by-append of_arrival (one (number_of p.number) ++ other (number_of p.number)) (flat_map (λ p. one (number_of p.number) ++ other (number_of p.number)) ports),
          sum_by-append of_arrival (one (number_of p.number)) (other (number_of p.number)),
          sum_by-append of_arrival (one (number_of p.number)) (flat_map (λ p. one (number_of p.number)) ports),
          sum_by-append of_arrival (other (number_of p.number)) (flat_map (λ p. other (number_of p.number)) ports),
          port_parts ports one other,
        )

    own_part : (ports : List PortPlan) (number : ℕ) (arrival : Arrival) → list_any (λ n. n == number) (numbers_of ports) ≡ true
        → of_arrival arrival ≤ sum_by of_arrival (flat_map (λ p. if number == number_of p.number then arrival ∷ [] else []) ports)
    own_part [] number arrival is = absurd (false≢true is)
    own_part (p ∷ ports) number arrival is =
        omega (
          arith,
          sum_by-append of_arrival (if number == number_of p.number then arrival ∷ [] else []) (flat_map (λ p. if number == number_of p.number then arrival ∷ [] else []) ports),
          first (λ later. own_part ports number arrival later) (number_of p.number == number) refl is,
        )
      where
        first : (list_any (λ n. n == number) (numbers_of ports) ≡ true → of_arrival arrival ≤ sum_by of_arrival (flat_map (λ p. if number == number_of p.number then arrival ∷ [] else []) ports)) → (b : Bool) → (number_of p.number == number) ≡ b → (b || list_any (λ n. n == number) (numbers_of ports)) ≡ true
            → of_arrival arrival ≤ sum_by of_arrival (if number == number_of p.number then arrival ∷ [] else []) + sum_by of_arrival (flat_map (λ p. if number == number_of p.number then arrival ∷ [] else []) ports)
        first rest true here any = rw (eq-eqb number (number_of p.number) (sym (eqb-true (number_of p.number) number here))) (omega (arith, sum_by-cons of_arrival arrival []))
        first rest false other any = omega (arith, rest any)

    abbrev all_held : List Row → ℕ
    all_held past = sum_by of_line (entered_lines past) + sum_by of_arrival (all_arrived plan past)

    -- an entry adds what is its own
    all_parts : (r : Row) (past : List Row) → all_held (r ∷ past)
        ≡ all_held past + (sum_by of_line (line_by r.octets r.entry.act) + sum_by of_arrival (flat_map (λ p. arrived_by (number_of p.number) r.octets r.entry.act) plan.ports))
    all_parts r past =
        omega (
          arith,
          sum_by-append of_line (entered_lines past) (line_by r.octets r.entry.act),
          port_parts plan.ports (λ n. arrived n past) (λ n. arrived_by n r.octets r.entry.act),
        )

    module _ (base : Base) where
      -- an entry weighs what it adds, whatever stands behind it
      event_most : (past rows told : List Row) (event : Event) → MayCome plan base past event → weight rows ≤ all_held told → weight (row_of plan base past event ∷ rows) ≤ all_held (row_of plan base past event ∷ told)
      event_most past rows told (Frame port stamp octets) may low =
          omega (
            arith,
            all_parts (row_of plan base past (Frame port stamp octets)) told,
            weighs.frame base past rows port stamp octets,
            own_part plan.ports (number_of port) (arrivals.Frame stamp octets) may.0.open_pass.known,
            low,
          )
      event_most past rows told (Long port stamp len) may low =
          omega (
            arith,
            all_parts (row_of plan base past (Long port stamp len)) told,
            weighs.long base past rows port stamp len,
            own_part plan.ports (number_of port) (arrivals.Long stamp len) may.0.open_pass.known,
            low,
          )
      event_most past rows told (Command stamp line) may low =
          omega (
            arith,
            all_parts (row_of plan base past (Command stamp line)) told,
            weighs.line base past rows stamp line,
            sum_by-cons of_line (record { stamp = stamp; command = line }) [],
            low,
          )
      event_most past rows told (Tick stamp) may low = omega (arith, all_parts (row_of plan base past (Tick stamp)) told, weighs.tick base past rows stamp, low)
      event_most past rows told (Drain port count) may low = omega (arith, all_parts (row_of plan base past (Drain port count)) told, weighs.drain base past rows port count, low)
      event_most past rows told (End who how) may low = omega (arith, all_parts (row_of plan base past (End who how)) told, weighs.ends base past rows who how, low)

      legal_most : (past : List Row) → IsLegal plan base past → weight past ≤ all_held past
      legal_most [] legal = omega (arith, weighs.none)
      legal_most (r ∷ past) legal =
          let stands : Stands plan base past r = legal.0 in
          subst (λ (x : Row). weight (x ∷ past) ≤ all_held (x ∷ past)) (sym stands.2) (event_most past past past stands.0 stands.1 (legal_most past legal.1))

      -- behind other rows, without pauses

      end_kept : (past rows told : List Row) (who : Who) (how : How) (b : Bool) → MayCome plan base past (End who how) → weight rows ≤ all_held told
          → weight (row_of plan base past (End who how) ∷ rows) ≤ all_held (if b then row_of plan base past (End who how) ∷ told else told)
      end_kept past rows told who how true may low = event_most past rows told (End who how) may low
      end_kept past rows told who how false may low = omega (arith, weighs.ends base past rows who how, low)

      event_behind : (past rows : List Row) (event : Event) → MayCome plan base past event → weight rows ≤ all_held (without_pauses rows) → weight (row_of plan base past event ∷ rows) ≤ all_held (without_pauses (row_of plan base past event ∷ rows))
      event_behind past rows (Frame port stamp octets) may low = event_most past rows (without_pauses rows) (Frame port stamp octets) may low
      event_behind past rows (Long port stamp len) may low = event_most past rows (without_pauses rows) (Long port stamp len) may low
      event_behind past rows (Command stamp line) may low = event_most past rows (without_pauses rows) (Command stamp line) may low
      event_behind past rows (Tick stamp) may low = event_most past rows (without_pauses rows) (Tick stamp) may low
      event_behind past rows (Drain port count) may low = event_most past rows (without_pauses rows) (Drain port count) may low
      event_behind past rows (End who how) may low = end_kept past rows (without_pauses rows) who how (not (is_paused_reason how)) may low

      segment_most : (past before : List Row) → IsLegal plan base past → weight before ≤ all_held (without_pauses before) → weight (past ++ before) ≤ all_held (without_pauses (past ++ before))
      segment_most [] before legal low = low
      segment_most (r ∷ past) before legal low =
          let stands : Stands plan base past r = legal.0 in
          subst (λ (x : Row). weight (x ∷ (past ++ before)) ≤ all_held (without_pauses (x ∷ (past ++ before)))) (sym stands.2)
          (event_behind past (past ++ before) stands.0 stands.1 (segment_most past before legal.1 low))

    segments_most : (segments : List (List Row)) → AreLegal plan segments → weight (joined segments) ≤ all_held (unbroken segments)
    segments_most [] legal = omega (arith, weighs.none)
    segments_most (segment ∷ before) legal = segment_most (base_after plan before) segment (joined before) legal.0 (segments_most before legal.2)

-- each input counts once
pub counts : (plan : Plan) → Weighs (λ a. 1) (λ line. 1) plan input_count
counts plan = record {
  none = refl;
  frame = λ base past rows port stamp octets. omega arith;
  long = λ base past rows port stamp len. omega arith;
  line = λ base past rows stamp command. omega arith;
  tick = λ base past rows stamp. omega arith;
  drain = λ base past rows port count. omega arith;
  ends = λ base past rows who how. omega arith;
}

-- and keeps its octets
pub keeps : (plan : Plan) → Weighs kept_of (λ line. length line.command) plan held
keeps plan = record {
  none = refl;
  frame = λ base past rows port stamp octets. omega arith;
  long = λ base past rows port stamp len. omega arith;
  line = λ base past rows stamp command. omega arith;
  tick = λ base past rows stamp. omega arith;
  drain = λ base past rows port count. omega arith;
  ends = λ base past rows who how. omega arith;
}

as_counts : (lines : List Line) (all : List Arrival) (n : ℕ) → n ≤ sum_by (λ line. 1) lines + sum_by (λ a. 1) all → n ≤ given_count lines all
as_counts lines all n low = omega (arith, low, sum_ones lines, sum_ones all)

pub replay_given : (plan : Plan) (lines : Option control.Input) (inputs : List Input) (stops : Stops) → let rows = joined (replayed plan lines inputs stops) in
    (input_count rows ≤ given_count (lines_of lines) (arrivals_of inputs)) × (held rows ≤ given_octets (lines_of lines) (arrivals_of inputs))
replay_given plan lines inputs stops = (
  as_counts (lines_of lines) (arrivals_of inputs) (input_count (joined (replayed plan lines inputs stops))) (replay_most (λ a. 1) (λ line. 1) plan input_count (counts plan) stops lines inputs),
  replay_most kept_of (λ line. length line.command) plan held (keeps plan) stops lines inputs,
)

pub legal_given : (plan : Plan) (base : Base) (past : List Row) → IsLegal plan base past
    → (input_count past ≤ given_count (entered_lines past) (all_arrived plan past)) × (held past ≤ given_octets (entered_lines past) (all_arrived plan past))
legal_given plan base past legal = (
  as_counts (entered_lines past) (all_arrived plan past) (input_count past) (legal_most (λ a. 1) (λ line. 1) plan input_count (counts plan) base past legal),
  legal_most kept_of (λ line. length line.command) plan held (keeps plan) base past legal,
)

-- so it is of legal segments
pub segments_given : (plan : Plan) (segments : List (List Row)) → AreLegal plan segments
    → (input_count (joined segments) ≤ given_count (entered_lines (unbroken segments)) (all_arrived plan (unbroken segments)))
    × (held (joined segments) ≤ given_octets (entered_lines (unbroken segments)) (all_arrived plan (unbroken segments)))
segments_given plan segments legal = (
  as_counts (entered_lines (unbroken segments)) (all_arrived plan (unbroken segments)) (input_count (joined segments)) (segments_most (λ a. 1) (λ line. 1) plan input_count (counts plan) segments legal),
  segments_most kept_of (λ line. length line.command) plan held (keeps plan) segments legal,
)
