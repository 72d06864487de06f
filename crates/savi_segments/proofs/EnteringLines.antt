-- The lines that a replay enters are those of control's input, by how control ends for good.
use Rattle.std.proofs.Common.{◌≡◌, ℕ, Bool, true, false, List, [], ◌∷◌, ◌++◌, map, length, refl, ap, sym, ◌∙◌, subst, if◌then◌else◌, append-nil, append_assoc, ◌⊎◌, inl, inr, Option, Some, None}
use Rattle.std.specs.List.{filter}
use Rattle.std.specs.Option.{is_some}
use Rattle.std.proofs.lemmas.Bool.{cases_Bool, false≢true}
use Rattle.std.proofs.lemmas.List.Elements.{All-nil, All-cons, All-append}
use Rattle.savi_kinds.specs.declared.port.Port.{Port}
use Rattle.savi_kinds.specs.declared.plan.Plan.{Plan}
use Rattle.savi_kinds.specs.declared.plan.PortPlan.{PortPlan}
use Rattle.savi_kinds.specs.declared.entry.Act.{Act}
use Rattle.savi_kinds.specs.declared.entry.Act.TheVariants as acts
use Rattle.savi_kinds.specs.declared.entry.Who.TheVariants as passes
use Rattle.savi_kinds.specs.declared.entry.How.{How}
use Rattle.savi_kinds.specs.declared.entry.How.TheVariants as hows
use Rattle.savi_kinds.specs.Arrivals.{Arrival, Input}
use Rattle.cli_lang.specs.Arrivals.{Line}
use Rattle.cli_lang.specs.Arrivals as control
use Rattle.hist_store.specs.Rows.{Row}
use Rattle.checkpoint.specs.Bases.{Base, empty}
use Rattle.savi_history.specs.ControlFits.{HasNoQuit}
use Rattle.savi_history.specs.ControlInputs.{control_end, entered_lines, is_quit, line_by}
use Rattle.savi_history.specs.ControlOutputs.{replies}
use Rattle.savi_history.specs.Endings.{is_paused_end, is_paused_reason}
use Rattle.savi_history.specs.EnteredLines.{AreEntered}
use Rattle.savi_history.specs.Events.{Command, End}
use Rattle.savi_history.specs.Limits.{has_room}
use Rattle.savi_history.specs.Merges.{merge, merged}
use Rattle.savi_history.specs.Passes.{control_pass, pass_of}
use Rattle.savi_history.specs.Readable.{IsControlEnding, IsControlInput, IsLineInRange}
use Rattle.savi_history.specs.Replay.{Stops, closed, drained, is_stopped, with_event, with_reply}
use Rattle.savi_history.specs.Turns.{Turn, Arrives, Commands, Ends, all_turns, port_turns, turn_at, turns, who_of}
use Rattle.savi_history.proofs.ControlSame.{control_begun, control_drained, control_entered, control_finished, is_control}
use Rattle.savi_history.proofs.Filtering.{AllAre, AreWhole, filter_kept, filter_left_out, filter_merged}
use Rattle.savi_history.proofs.Replaying.{AreOurs, IsOurs, all_control, all_ours, anything}
use Rattle.savi_segments.specs.Replay.{Run, all_taken, base_in, entered_in, has_ended_in, inputs_paused, inputs_taken, replayed, room_made, run_begun, run_with, stops_left, taken, taken_if_open, turned}
use Rattle.savi_segments.specs.Segments.{AreLegal, joined}
use Rattle.savi_segments.specs.Unbroken.{unbroken, without_pauses}
use Rattle.savi_segments.proofs.ControlEnds.{how_in, how_turned, itself, lines_paused, other_begun, other_drained, other_entered, said_last}
use Rattle.savi_segments.proofs.ForGood.{taken_ended}

-- control's turns among all

-- the turns of these lines, and behind them of this ending
abbrev line_turns : List Line → How → List Turn
line_turns lines how = map (λ line. Commands line) lines ++ Ends passes.Control how ∷ []

lines_kept : (lines : List Line) (how : How) → AllAre is_control true (line_turns lines how)
lines_kept [] how = (refl, tt)
lines_kept (line ∷ lines) how = (refl, lines_kept lines how)

port_out : (port : Port) (before : List Arrival) (how : How) → AllAre is_control false (map (λ a. Arrives port a) before ++ Ends (passes.Ingress port) how ∷ [])
port_out port [] how = (refl, tt)
port_out port (a ∷ before) how = (refl, port_out port before how)

ports_out : (ports : List PortPlan) (inputs : List Input) → AreWhole is_control (port_turns ports inputs)
ports_out [] inputs = tt
ports_out (p ∷ ports) [] = tt
ports_out (p ∷ ports) (input ∷ inputs) = (inr (port_out p.number input.arrivals input.ending), ports_out ports inputs)

none_of_ports : (ports : List PortPlan) (inputs : List Input) → merged turn_at (map (filter is_control) (port_turns ports inputs)) ≡ []
none_of_ports [] inputs = refl
none_of_ports (p ∷ ports) [] = refl
none_of_ports (p ∷ ports) (input ∷ inputs) =
    ap (λ (l : List Turn). merge turn_at l (merged turn_at (map (filter is_control) (port_turns ports inputs)))) (filter_left_out is_control (turns p.number input) (port_out p.number input.arrivals input.ending))
    ∙ none_of_ports ports inputs

merge_alone : (xs : List Turn) → merge turn_at xs [] ≡ xs
merge_alone [] = refl
merge_alone (x ∷ xs) = ap (λ (l : List Turn). x ∷ l) (merge_alone xs)

-- of all turns control's are those of its input
control_among : (input : control.Input) (ports : List PortPlan) (inputs : List Input) → filter is_control (merged turn_at (all_turns (Some input) ports inputs)) ≡ line_turns input.arrivals input.ending
control_among input ports inputs =
    let own : List Turn = line_turns input.arrivals input.ending in
    filter_merged turn_at is_control (all_turns (Some input) ports inputs) (inl (lines_kept input.arrivals input.ending), ports_out ports inputs)
    ∙ ap (λ (l : List Turn). merge turn_at (filter is_control own) l) (none_of_ports ports inputs)
    ∙ merge_alone (filter is_control own)
    ∙ filter_kept is_control own (lines_kept input.arrivals input.ending)

pub lines_append : (late early : List Row) → entered_lines (late ++ early) ≡ entered_lines early ++ entered_lines late
lines_append [] early = sym (append-nil (entered_lines early))
lines_append (r ∷ late) early =
    ap (λ (l : List Line). l ++ line_by r.octets r.entry.act) (lines_append late early) ∙ append_assoc (entered_lines early) (entered_lines late) (line_by r.octets r.entry.act)

-- without pauses the lines are the same

paused_no_line : (octets : List ℕ) (act : Act) → is_paused_end act ≡ true → line_by octets act ≡ []
paused_no_line octets (acts.Frame port stamp at len) is = refl
paused_no_line octets (acts.Long port stamp len) is = refl
paused_no_line octets (acts.Tick stamp) is = refl
paused_no_line octets (acts.Command stamp at len) is = absurd (false≢true is)
paused_no_line octets (acts.Drain port count) is = refl
paused_no_line octets (acts.End who how) is = refl

pub lines_unpaused : (rows : List Row) → entered_lines (without_pauses rows) ≡ entered_lines rows
lines_unpaused [] = refl
lines_unpaused (r ∷ rows) = elim (cases_Bool (is_paused_end r.entry.act)) [
  | inl is ↦ rw is (lines_unpaused rows ∙ sym (append-nil (entered_lines rows)) ∙ ap (λ (l : List Line). entered_lines rows ++ l) (sym (paused_no_line r.octets r.entry.act is)))
  | inr not ↦ rw not (ap (λ (l : List Line). l ++ line_by r.octets r.entry.act) (lines_unpaused rows))
]

-- what a run holds of control

abbrev lines_in : Run → List Line
lines_in run = entered_lines (joined run.closed) ++ entered_lines run.past

-- two runs hold the same of it
record RunsSame (plan : Plan) (old new : Run) : Type 0 where
  lines_same : lines_in new ≡ lines_in old
  how_same : how_in plan new ≡ how_in plan old

runs_then : (plan : Plan) (old mid new : Run) → RunsSame plan old mid → RunsSame plan mid new → RunsSame plan old new
runs_then plan old mid new first second = record { lines_same = second.lines_same ∙ first.lines_same; how_same = second.how_same ∙ first.how_same }

-- the next segment holds what those before it held
same_turned : (plan : Plan) (run : Run) → RunsSame plan run (turned plan run)
same_turned plan run =
    let base = base_in plan run in
    let paused = inputs_paused plan base run.past in
    let segment = closed plan base paused in
    record {
      lines_same =
          append-nil (entered_lines (segment ++ joined run.closed))
          ∙ lines_append segment (joined run.closed)
          ∙ ap (λ (l : List Line). entered_lines (joined run.closed) ++ l) ((control_finished plan base paused).lines_same ∙ lines_paused plan base run.past);
      how_same = how_turned plan run;
    }

same_room_at : (plan : Plan) (run : Run) (b : Bool) → RunsSame plan run (if b then run else turned plan run)
same_room_at plan run true = record { lines_same = refl; how_same = refl }
same_room_at plan run false = same_turned plan run

same_room : (plan : Plan) (t : Turn) (run : Run) → RunsSame plan run (room_made plan t run)
same_room plan (Arrives port a) run = same_room_at plan run (has_room plan run.past)
same_room plan (Commands line) run = same_room_at plan run (has_room plan run.past)
same_room plan (Ends who how) run = record { lines_same = refl; how_same = refl }

-- a turn of a port changes nothing of it
same_entered : (plan : Plan) (stops : Stops) (t : Turn) (run : Run) → IsOurs plan anything t → is_control t ≡ false → RunsSame plan run (entered_in plan stops t run)
same_entered plan stops t run ours other = record {
  lines_same = ap (λ (l : List Line). entered_lines (joined run.closed) ++ l) (control_entered plan (base_in plan run) (stops_left plan stops run) t run.past ours other).lines_same;
  how_same = other_entered plan (base_in plan run) (stops_left plan stops run) t run.past ours other;
}

same_taken : (plan : Plan) (stops : Stops) (t : Turn) (run : Run) → IsOurs plan anything t → is_control t ≡ false → RunsSame plan run (taken plan stops t run)
same_taken plan stops t run ours other = runs_then plan run (room_made plan t run) (taken plan stops t run) (same_room plan t run) (same_entered plan stops t (room_made plan t run) ours other)

module _ (plan : Plan) (stops : Stops) (input : control.Input) (fits : IsControlInput input) where
  -- Control goes on: these lines are left of its input behind those that were entered, none of which is `quit`.
  record GoesOn (ts : List Turn) (run : Run) : Type 0 where
    rest : List Line
    left : filter is_control ts ≡ line_turns rest input.ending
    all : input.arrivals ≡ lines_in run ++ rest
    none : HasNoQuit (lines_in run)
    no_end : how_in plan run ≡ None

  -- control has ended for good, and the lines that were entered fit that
  record IsOver (run : Run) : Type 0 where
    over : has_ended_in plan (control_pass plan) run ≡ true
    fit : AreEntered input (lines_in run) (how_in plan run)

  over_same : (old new : Run) → RunsSame plan old new → IsOver old → IsOver new
  over_same old new same is = record {
    over = ap is_some same.how_same ∙ is.over;
    fit = subst (λ (o : Option How). AreEntered input (lines_in new) o) (sym same.how_same)
        (subst (λ (l : List Line). AreEntered input l (how_in plan old)) (sym same.lines_same) is.fit);
  }

  goes_same : (ts : List Turn) (old new : Run) → RunsSame plan old new → GoesOn ts old → GoesOn ts new
  goes_same ts old new same goes = record {
    rest = goes.rest;
    left = goes.left;
    all = goes.all ∙ ap (λ (l : List Line). l ++ goes.rest) (sym same.lines_same);
    none = subst (λ (l : List Line). HasNoQuit l) (sym same.lines_same) goes.none;
    no_end = same.how_same ∙ goes.no_end;
  }

  abbrev State : List Turn → Run → Type 0
  State ts run = GoesOn ts run ⊎ IsOver run

  state_same : (ts : List Turn) (old new : Run) → RunsSame plan old new → State ts old → State ts new
  state_same ts old new same (inl goes) = inl (goes_same ts old new same goes)
  state_same ts old new same (inr is) = inr (over_same old new same is)

  -- control's turns

  ends_so : (how : How) (lines : List Line) → IsControlEnding how → input.ending ≡ how → input.arrivals ≡ lines → HasNoQuit lines → AreEntered input lines (Some how)
  ends_so hows.End lines is so all none = record { all = sym all; ending = so; none = none }
  ends_so hows.Quit lines is so all none = absurd is
  ends_so (hows.Malformed at) lines is so all none = record { all = sym all; ending = so; none = none }
  ends_so (hows.Overlong at) lines is so all none = record { all = sym all; ending = so; none = none }
  ends_so hows.Failed lines is so all none = record { all = sym all; ending = so; none = none }
  ends_so hows.Unwritten lines is so all none = absurd is
  ends_so hows.Paused lines is so all none = absurd is

  -- control ends for good, and what was entered fits that
  over_now : (run : Run) (past : List Row) (how : How) → is_paused_reason how ≡ false → AreEntered input (lines_in (run_with run past)) (Some how) → IsOver (run_with run (with_event plan (base_in plan run) past (End passes.Control how)))
  over_now run past how good entered_so =
      let ended : how_in plan (run_with run (with_event plan (base_in plan run) past (End passes.Control how))) ≡ Some how = rw (good, itself (control_pass plan)) refl in
      record {
        over = ap is_some ended;
        fit = subst (λ (o : Option How). AreEntered input (lines_in (run_with run (with_event plan (base_in plan run) past (End passes.Control how)))) o) (sym ended)
            (subst (λ (l : List Line). AreEntered input (entered_lines (joined run.closed) ++ l) (Some how)) (sym (append-nil (entered_lines past))) entered_so);
      }

  -- a line is entered, where there is room
  module _ (line : Line) (ts : List Turn) (rest : List Line) (run : Run) (left : filter is_control ts ≡ line_turns rest input.ending) (all : input.arrivals ≡ lines_in run ++ line ∷ rest)
      (none : HasNoQuit (lines_in run)) (no_end : how_in plan run ≡ None) where
    abbrev base : Base
    base = base_in plan run

    abbrev mid : List Row
    mid = with_event plan base run.past (Command line.stamp line.command)

    lines_mid : lines_in (run_with run mid) ≡ lines_in run ++ line ∷ []
    lines_mid = sym (append_assoc (entered_lines (joined run.closed)) (entered_lines run.past) (line ∷ []))

    all_mid : input.arrivals ≡ lines_in (run_with run mid) ++ rest
    all_mid = all ∙ sym (append_assoc (lines_in run) (line ∷ []) rest) ∙ ap (λ (l : List Line). l ++ rest) (sym lines_mid)

    replied_at : (failed quits : Bool) → is_quit line ≡ quits → State ts (run_with run (if failed then with_event plan base mid (End passes.Control hows.Unwritten) else if quits then with_event plan base mid (End passes.Control hows.Quit) else mid))
    replied_at true quits is = inr (over_now run mid hows.Unwritten refl ((rest, all_mid), record { front = lines_in run; last = line; all = lines_mid; none = none }))
    replied_at false true is = inr (over_now run mid hows.Quit refl ((rest, all_mid), record { front = lines_in run; last = line; all = lines_mid; none = none; quit = is }))
    replied_at false false is = inl (record {
      rest = rest;
      left = left;
      all = all_mid;
      none = subst (λ (l : List Line). HasNoQuit l) (sym lines_mid)
          (All-append (λ (l : Line). is_quit l ≡ false) (lines_in run) (line ∷ []) none (All-cons (λ (l : Line). is_quit l ≡ false) line [] is (All-nil (λ (l : Line). is_quit l ≡ false))));
      no_end = no_end;
    })

    line_taken : State ts (entered_in plan stops (Commands line) run)
    line_taken =
        let left_stops = stops_left plan stops run in
        let answered = with_reply plan base left_stops.control line mid in
        let all_drained = drained plan base left_stops.ports plan.ports answered in
        state_same ts (run_with run answered) (run_with run all_drained)
        (record {
          lines_same = ap (λ (l : List Line). entered_lines (joined run.closed) ++ l) (control_drained plan base left_stops.ports plan.ports answered).lines_same;
          how_same = other_drained plan base left_stops.ports plan.ports answered;
        })
        (replied_at (is_stopped left_stops.control (length (replies plan base mid))) (is_quit line) refl)

  head_is : (x y : Turn) (xs ys : List Turn) → x ∷ xs ≡ y ∷ ys → (x ≡ y) × (xs ≡ ys)
  head_is x y xs ys e = (cc, cc)

  same_line : (a b : Line) → Commands a ≡ Commands b → a ≡ b
  same_line a b e = cc

  same_how : (a b : How) → Ends passes.Control a ≡ Ends passes.Control b → a ≡ b
  same_how a b e = cc

  line_next : (line : Line) (ts : List Turn) (run : Run) (rest : List Line) → Commands line ∷ filter is_control ts ≡ line_turns rest input.ending → input.arrivals ≡ lines_in run ++ rest
      → HasNoQuit (lines_in run) → how_in plan run ≡ None → State ts (entered_in plan stops (Commands line) run)
  line_next line ts run [] left all none no_end =
      let e : Commands line ≡ Ends passes.Control input.ending = (head_is (Commands line) (Ends passes.Control input.ending) (filter is_control ts) [] left).0 in cc
  line_next line ts run (next ∷ rest) left all none no_end =
      let both = head_is (Commands line) (Commands next) (filter is_control ts) (line_turns rest input.ending) left in
      let same : line ≡ next = same_line line next both.0 in
      line_taken line ts rest run both.1 (all ∙ ap (λ (l : Line). lines_in run ++ l ∷ rest) (sym same)) none no_end

  not_paused : (how : How) → IsControlEnding how → is_paused_reason how ≡ false
  not_paused hows.End is = refl
  not_paused hows.Quit is = refl
  not_paused (hows.Malformed at) is = refl
  not_paused (hows.Overlong at) is = refl
  not_paused hows.Failed is = refl
  not_paused hows.Unwritten is = refl
  not_paused hows.Paused is = absurd is

  end_next : (how : How) (ts : List Turn) (run : Run) (rest : List Line) → Ends passes.Control how ∷ filter is_control ts ≡ line_turns rest input.ending → input.arrivals ≡ lines_in run ++ rest
      → HasNoQuit (lines_in run) → State ts (entered_in plan stops (Ends passes.Control how) run)
  end_next how ts run [] left all none =
      let same : how ≡ input.ending = same_how how input.ending (head_is (Ends passes.Control how) (Ends passes.Control input.ending) (filter is_control ts) [] left).0 in
      let may : IsControlEnding how = subst IsControlEnding (sym same) fits.ending in
      inr (over_now run run.past how (not_paused how may) (ends_so how (lines_in run) may (sym same) (all ∙ append-nil (lines_in run)) none))
  end_next how ts run (next ∷ rest) left all none =
      let e : Ends passes.Control how ≡ Commands next = (head_is (Ends passes.Control how) (Commands next) (filter is_control ts) (line_turns rest input.ending) left).0 in cc

  -- one turn more

  goes_taken : (t : Turn) (ts : List Turn) (run : Run) → IsOurs plan anything t → GoesOn (t ∷ ts) run → State ts (taken plan stops t run)
  goes_taken (Arrives port a) ts run ours goes =
      inl (goes_same ts run (taken plan stops (Arrives port a) run) (same_taken plan stops (Arrives port a) run ours refl)
      (record { rest = goes.rest; left = goes.left; all = goes.all; none = goes.none; no_end = goes.no_end }))
  goes_taken (Commands line) ts run ours goes =
      let made = goes_same (Commands line ∷ ts) run (room_made plan (Commands line) run) (same_room plan (Commands line) run) goes in
      line_next line ts (room_made plan (Commands line) run) made.rest made.left made.all made.none made.no_end
  goes_taken (Ends (passes.Ingress port) how) ts run ours goes =
      inl (goes_same ts run (taken plan stops (Ends (passes.Ingress port) how) run) (same_taken plan stops (Ends (passes.Ingress port) how) run ours refl)
      (record { rest = goes.rest; left = goes.left; all = goes.all; none = goes.none; no_end = goes.no_end }))
  goes_taken (Ends passes.Control how) ts run ours goes = end_next how ts run goes.rest goes.left goes.all goes.none
  goes_taken (Ends passes.Ticker how) ts run ours goes = absurd ours
  goes_taken (Ends (passes.Egress port) how) ts run ours goes = absurd ours

  -- control goes on: what is passed over is a port's
  goes_past : (t : Turn) (ts : List Turn) (run : Run) → IsOurs plan anything t → has_ended_in plan (pass_of plan (who_of t)) run ≡ true → GoesOn (t ∷ ts) run → State ts run
  goes_past (Arrives port a) ts run ours is goes = inl (record { rest = goes.rest; left = goes.left; all = goes.all; none = goes.none; no_end = goes.no_end })
  goes_past (Commands line) ts run ours is goes = absurd (false≢true (sym (ap is_some goes.no_end) ∙ is))
  goes_past (Ends (passes.Ingress port) how) ts run ours is goes = inl (record { rest = goes.rest; left = goes.left; all = goes.all; none = goes.none; no_end = goes.no_end })
  goes_past (Ends passes.Control how) ts run ours is goes = absurd (false≢true (sym (ap is_some goes.no_end) ∙ is))
  goes_past (Ends passes.Ticker how) ts run ours is goes = absurd ours
  goes_past (Ends (passes.Egress port) how) ts run ours is goes = absurd ours

  goes_after : (t : Turn) (ts : List Turn) (run : Run) (b : Bool) → has_ended_in plan (pass_of plan (who_of t)) run ≡ b → IsOurs plan anything t → GoesOn (t ∷ ts) run → State ts (if b then run else taken plan stops t run)
  goes_after t ts run true is ours goes = goes_past t ts run ours is goes
  goes_after t ts run false is ours goes = goes_taken t ts run ours goes

  -- what comes behind control's end changes nothing of it

  same_after : (t : Turn) (run : Run) (b : Bool) → IsOurs plan anything t → is_control t ≡ false → RunsSame plan run (if b then run else taken plan stops t run)
  same_after t run true ours other = record { lines_same = refl; how_same = refl }
  same_after t run false ours other = same_taken plan stops t run ours other

  over_after : (t : Turn) (run : Run) → IsOurs plan anything t → IsOver run → IsOver (taken_if_open plan stops t run)
  over_after (Arrives port a) run ours is =
      over_same run (taken_if_open plan stops (Arrives port a) run) (same_after (Arrives port a) run (has_ended_in plan (pass_of plan (passes.Ingress port)) run) ours refl) is
  over_after (Commands line) run ours is = subst IsOver (sym (taken_ended plan stops (Commands line) run is.over)) is
  over_after (Ends (passes.Ingress port) how) run ours is =
      over_same run (taken_if_open plan stops (Ends (passes.Ingress port) how) run) (same_after (Ends (passes.Ingress port) how) run (has_ended_in plan (pass_of plan (passes.Ingress port)) run) ours refl) is
  over_after (Ends passes.Control how) run ours is = subst IsOver (sym (taken_ended plan stops (Ends passes.Control how) run is.over)) is
  over_after (Ends passes.Ticker how) run ours is = absurd ours
  over_after (Ends (passes.Egress port) how) run ours is = absurd ours

  state_after : (t : Turn) (ts : List Turn) (run : Run) → IsOurs plan anything t → State (t ∷ ts) run → State ts (taken_if_open plan stops t run)
  state_after t ts run ours (inl goes) = goes_after t ts run (has_ended_in plan (pass_of plan (who_of t)) run) refl ours goes
  state_after t ts run ours (inr is) = inr (over_after t run ours is)

  no_more : (rest : List Line) → [] ≡ line_turns rest input.ending → ⊥
  no_more [] left = cc
  no_more (line ∷ rest) left = cc

  state_end : (run : Run) → State [] run → IsOver run
  state_end run (inl goes) = absurd (no_more goes.rest goes.left)
  state_end run (inr is) = is

  over_all : (ts : List Turn) (run : Run) → AreOurs plan anything ts → State ts run → IsOver (all_taken plan stops ts run)
  over_all [] run ours state = state_end run state
  over_all (t ∷ ts) run ours state = over_all ts (taken_if_open plan stops t run) ours.1 (state_after t ts run ours.0 state)

  over_last : (inputs : List Input) → IsOver (inputs_taken plan (Some input) inputs stops)
  over_last inputs =
      let begin : Run = run_begun plan stops in
      let all : List Turn = merged turn_at (all_turns (Some input) plan.ports inputs) in
      let first : GoesOn all (record { closed = []; past = [] }) = record {
        rest = input.arrivals;
        left = control_among input plan.ports inputs;
        all = refl;
        none = All-nil (λ (l : Line). is_quit l ≡ false);
        no_end = refl;
      } in
      over_all all begin (all_ours plan anything (Some input) inputs (all_control (Some input)))
      (state_same all (record { closed = []; past = [] }) begin
      (record { lines_same = (control_begun plan empty stops.ports plan.ports []).lines_same; how_same = other_begun plan empty stops.ports plan.ports [] }) (inl first))

module _ (plan : Plan) where
  -- the lines that are entered, and how control ends, behind all turns
  pub lines_entered : (input : control.Input) (inputs : List Input) (stops : Stops) → IsControlInput input → AreLegal plan (replayed plan (Some input) inputs stops)
      → let rows = unbroken (replayed plan (Some input) inputs stops) in AreEntered input (entered_lines rows) (control_end rows)
  lines_entered input inputs stops fits legal =
      let run = inputs_taken plan (Some input) inputs stops in
      let base = base_in plan run in
      let segment = closed plan base run.past in
      let lines : entered_lines (unbroken (replayed plan (Some input) inputs stops)) ≡ lines_in run =
      lines_unpaused (segment ++ joined run.closed) ∙ lines_append segment (joined run.closed)
      ∙ ap (λ (l : List Line). entered_lines (joined run.closed) ++ l) (control_finished plan base run.past).lines_same in
      let said : control_end (unbroken (replayed plan (Some input) inputs stops)) ≡ how_in plan run = said_last plan run legal in
      subst (λ (o : Option How). AreEntered input (entered_lines (unbroken (replayed plan (Some input) inputs stops))) o) (sym said)
      (subst (λ (l : List Line). AreEntered input l (how_in plan run)) (sym lines) (over_last plan stops input fits inputs).fit)

-- Without an input control is one that holds nothing.

abbrev nothing : control.Input
nothing = record { arrivals = []; ending = hows.End }

no_last : (front : List Line) (last : Line) → [] ≡ front ++ last ∷ [] → ⊥
no_last [] last e = cc
no_last (line ∷ front) last e = cc

none_first : (lines behind : List Line) → [] ≡ lines ++ behind → lines ≡ []
none_first [] behind e = refl
none_first (line ∷ lines) behind e = cc

only_end : (lines : List Line) (how : Option How) → AreEntered nothing lines how → (lines ≡ []) × (how ≡ Some hows.End)
only_end lines (Some hows.End) are = (are.all, refl)
only_end lines (Some (hows.Malformed at)) are = let e : hows.End ≡ hows.Malformed at = are.ending in cc
only_end lines (Some (hows.Overlong at)) are = let e : hows.End ≡ hows.Overlong at = are.ending in cc
only_end lines (Some hows.Failed) are = let e : hows.End ≡ hows.Failed = are.ending in cc
only_end lines (Some hows.Paused) are = absurd are
only_end lines (Some hows.Quit) are = absurd (no_last are.1.front are.1.last (sym (none_first lines are.0.0 are.0.1) ∙ are.1.all))
only_end lines (Some hows.Unwritten) are = absurd (no_last are.1.front are.1.last (sym (none_first lines are.0.0 are.0.1) ∙ are.1.all))
only_end lines None are = absurd are

pub without_control : (plan : Plan) (inputs : List Input) (stops : Stops) → AreLegal plan (replayed plan None inputs stops)
    → let rows = unbroken (replayed plan None inputs stops) in (entered_lines rows ≡ []) × (control_end rows ≡ Some hows.End)
without_control plan inputs stops legal =
    let rows = unbroken (replayed plan None inputs stops) in
    only_end (entered_lines rows) (control_end rows)
    (lines_entered plan nothing inputs stops (record { arrivals = All-nil IsLineInRange; ending = tt }) legal)
