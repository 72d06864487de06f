-- One turn of control in a replay.
use Rattle.std.proofs.Common.{◌≡◌, ◌≢◌, ℕ, ◌+◌, ◌<◌, ◌≤◌, true, false, List, [], ◌∷◌, ◌++◌, length, map, get_or, refl, sym, ap, ◌∙◌, subst, arith, Option, Some, None, IfSome}
use Rattle.std.proofs.lemmas.List.{length-map, ext_get_or}
use Rattle.std.specs.List.{All}
use Rattle.std.specs.List.Sorted.{IsStrictlyIncreasing}
use Rattle.savi_kinds.specs.declared.plan.Plan.{Plan}
use Rattle.savi_kinds.specs.declared.entry.Who.TheVariants.{Control}
use Rattle.savi_kinds.specs.declared.entry.How.TheVariants as hows
use Rattle.savi_kinds.specs.Ports.{number_of}
use Rattle.savi_kinds.specs.ValidPlan.{numbers_of}
use Rattle.hist_store.specs.Rows.{Row}
use Rattle.checkpoint.specs.Bases.{Base}
use Rattle.savi_history.specs.Endings.{has_pause}
use Rattle.savi_history.specs.Passes.{has_ended, pass_of, control_pass, ticker_pass}
use Rattle.savi_history.specs.Turns.{Turn, Commands, Ends, who_of}
use Rattle.savi_history.specs.Picks.{IsLeast}
use Rattle.savi_history.specs.Replay.{Stops, entered}
use Rattle.savi_history.proofs.PortInputs.{HoldsSame}
use Rattle.savi_segments.specs.Replay.{Run, base_in, entered_in, has_ended_in, inputs_paused, room_made, run_begun, run_with, stops_left}
use Rattle.savi_segments.proofs.ForGood.{taken_open}
use Rattle.savi_segments.proofs.Reaching.{Head, Known, Done, Agrees, Reaches, reaches_take}
use Rattle.savi_segments.proofs.Reaching as reaching
use Rattle.port_worker.specs.declared.control_ends.ControlEnds.{ControlEnds}
use Rattle.port_worker.specs.declared.control_ends.LineAhead.{LineAhead}
use Rattle.port_worker.specs.declared.control_ends.LineAhead.TheVariants as ahead
use Rattle.port_worker.specs.declared.port_ends.PortEnds.{PortEnds}
use Rattle.port_worker.specs.Pairs.{EachPair}
use Rattle.port_worker.specs.ControlOutputs.{AllFollow, AllOutputsGoOn, AreAllowed, AreReplies, ControlGoesOn, IsAheadAfter, IsControlAdvanced, IsControlTurn}
use Rattle.port_worker.specs.Inputs.{IsReadAhead, IsSoundAhead, turn_moment}
use Rattle.port_worker.specs.LineInputs.{IsControlKnown, IsLineKnown, control_moment, line_read, line_turn_ahead}
use Rattle.port_worker.specs.LineSteps.{IsControlStepped, line_ahead_after}
use Rattle.port_worker.specs.Outputs.{AreOutputs}
use Rattle.port_worker.specs.Replays.{ports_held, ports_planned}
use Rattle.port_worker.specs.SentFrames.{OnlySink}
use Rattle.port_worker.specs.Turnings.{turn_next}
use Rattle.port_worker.proofs.Alike.{IsAlike, alike_room, allowed_alike, open_shows}
use Rattle.port_worker.proofs.Allowed.{all_allowed_itself}
use Rattle.port_worker.proofs.ControlEntered.{controlled_ends, controlled_holds, controlled_quiet, controls_pass}
use Rattle.port_worker.proofs.ControlFirst.{read_all, agree_all}
use Rattle.port_worker.proofs.ControlProgress.{head_moment, line_head}
use Rattle.port_worker.proofs.ControlRunning.{ControlRuns, control_read, control_weight, line_weight}
use Rattle.port_worker.proofs.ControlStepping.{IsControls, control_smaller, control_stepped, line_at_moment, line_turn}
use Rattle.port_worker.proofs.Fitting.{FitsSoFar, fits_rows, fits_sunk}
use Rattle.port_worker.proofs.Later.{sinks_stepped, stepped_later}
use Rattle.port_worker.proofs.Measures.{undone, undone_more, weight}
use Rattle.port_worker.proofs.Planned.{count_is}
use Rattle.port_worker.proofs.Progress.{head_of, Progress, progress_kept}
use Rattle.port_worker.proofs.RowsHeld.{over_in, rows_of, same_in}
use Rattle.port_worker.proofs.Running.{Running, Standing, agrees_same, all_read, element, head_at, moments_same, stands_alike}
use Rattle.port_worker.proofs.Unbroken.{IsUnpaused, alike_in}
use Rattle.port_worker.proofs.Unpaused.{IsPlain, unpaused_entered}

same_turn : (t u : Turn) → Some t ≡ Some u → t ≡ u
same_turn t u is = cc

none_first : (numbers : List (Option ℕ)) → IsLeast (None ∷ numbers) 0 → ⊥
none_first numbers least = let e = least.there in cc

at_most : (n : ℕ) → n ≤ n
at_most n = omega arith

-- what was read pauses nothing
plain_of : (buf : List ℕ) (a : LineAhead) (t : Turn) → line_turn_ahead buf a ≡ Some t → IsPlain t
plain_of buf ahead.Unread t is = cc
plain_of buf (ahead.Line stamp len) t is = subst IsPlain (same_turn (Commands (line_read stamp len buf)) t is) tt
plain_of buf ahead.End t is = subst IsPlain (same_turn (Ends Control hows.End) t is) refl
plain_of buf (ahead.Malformed at) t is = subst IsPlain (same_turn (Ends Control (hows.Malformed at)) t is) refl
plain_of buf (ahead.Overlong at) t is = subst IsPlain (same_turn (Ends Control (hows.Overlong at)) t is) refl
plain_of buf ahead.Failed t is = subst IsPlain (same_turn (Ends Control hows.Failed) t is) refl
plain_of buf ahead.Done t is = cc

module _ {S K C : Type 0} (left : S → Option (List ℕ)) (written : K → Option (List ℕ)) (source_faults : S → ℕ) (sink_faults : K → ℕ) (plan : Plan) (first ports : List (PortEnds S K C)) (run : Run)
    (planned : ports_held first ≡ ports_planned plan) (rising : IsStrictlyIncreasing (numbers_of plan.ports)) (known : All (λ p. IsReadAhead p.ahead) ports) where
  -- only sinks of ports have changed
  module _ (new : List (PortEnds S K C)) (sinks : EachPair (OnlySink written sink_faults) ports new) where
    same_at : (k : ℕ) (d : PortEnds S K C) → k < length ports → get_or new k d ≡ record (get_or ports k d) { ends = record (get_or ports k d).ends { sink = (get_or new k d).ends.sink } }
    same_at k d within = (sinks.each k d within).same

    heads_at : (k : ℕ) → k < length ports → get_or (map head_of new) k Done ≡ get_or (map head_of ports) k Done
    heads_at k within =
        let d = element ports k within in
        let size = sinks.size in
        head_at new k d Done (omega arith) ∙ ap (λ (p : PortEnds S K C). head_of p) (same_at k d within) ∙ sym (head_at ports k d Done within)

    heads_new : map head_of new ≡ map head_of ports
    heads_new =
        let sizes = length-map ports head_of in
        let sizes_new = length-map new head_of in
        let size = sinks.size in
        ext_get_or Done (map head_of new) (map head_of ports) (omega arith) (λ k within. heads_at k (omega arith))

    undone_new : undone new ≤ undone ports
    undone_new = undone_more ports new sinks.size (λ k d within.
        let w = weight (get_or ports k d).reader (get_or ports k d).ahead in
        subst (λ (p : PortEnds S K C). weight p.reader p.ahead ≤ w) (sym (same_at k d within)) (at_most w))

  module _ (start old : ControlEnds S K C) (r : Running left written source_faults sink_faults plan (Some start) (Some old) first ports run) (heard : IsLineKnown old.ahead) (least : IsLeast (control_moment (Some old) ∷ map turn_moment ports) 0) where
    turn_here : (t : Turn) × (line_turn_ahead old.buf old.ahead ≡ Some t) × (line_head old.buf old.ahead ≡ Known t)
    turn_here = line_at_moment old.buf old.ahead least.least least.there

    abbrev turn : Turn
    turn = turn_here.0

    controls : IsControls turn
    controls = line_turn old.buf old.ahead turn turn_here.1

    control_was : ControlRuns left written source_faults sink_faults plan run r.known.control start old r.control_taken
    control_was = r.stands.control

    running : has_ended_in plan (control_pass plan) run ≡ false
    running = subst (λ (h : Head). Agrees plan run (control_pass plan) h) turn_here.2 control_was.agrees

    open_now : has_ended (base_in plan run) (control_pass plan) run.past ≡ false
    open_now = alike_in plan run (control_pass plan) r.stands.plain ∙ running

    shows : has_pause (inputs_paused plan (base_in plan run) run.past) ≡ true
    shows = open_shows plan (base_in plan run) run.past (control_pass plan) rising (omega arith) open_now

    -- the run once room was made for the turn
    abbrev mid : Run
    mid = room_made plan turn run

    alike : IsAlike plan run mid
    alike = alike_room plan turn run (λ none. shows)

    stands_mid : Standing left written source_faults sink_faults plan (Some start) (Some old) first ports r.taken r.control_taken r.known mid
    stands_mid = stands_alike left written source_faults sink_faults plan (Some start) first (Some old) ports r.taken r.control_taken r.known run mid planned rising alike r.stands

    control_mid : ControlRuns left written source_faults sink_faults plan mid r.known.control start old r.control_taken
    control_mid = stands_mid.control

    open_mid : has_ended (base_in plan mid) (control_pass plan) mid.past ≡ false
    open_mid = alike_in plan mid (control_pass plan) stands_mid.plain ∙ alike.over_same (control_pass plan) (omega arith) ∙ running

    running_turn : has_ended_in plan (pass_of plan (who_of turn)) run ≡ false
    running_turn = ap (λ (n : ℕ). has_ended_in plan n run) (controls_pass plan turn controls) ∙ running

    module _ (now : List Row) (c : ControlEnds S K C) (new : List (PortEnds S K C)) (sinks : EachPair (OnlySink written sink_faults) ports new) (stepped : IsControlStepped written sink_faults old c)
        (ahead_is : c.ahead ≡ line_ahead_after (has_ended (base_in plan mid) (control_pass plan) now))
        (goes : AllOutputsGoOn written sink_faults plan mid (run_with mid now) old.ends.sink c.ends.sink ports new (λ stops. entered_in plan stops turn mid)) where
      abbrev after : Run
      after = run_with mid now

      abbrev base : Base
      base = base_in plan mid

      gone : (later : Stops) × AreOutputs written sink_faults plan later after first new × AreReplies written sink_faults plan after start.ends.sink c.ends.sink later.control × AllFollow plan r.known later mid after (λ stops. entered_in plan stops turn mid)
      gone = goes first start.ends.sink r.known stands_mid.outputs control_mid.sink control_mid.replied

      abbrev later : Stops
      later = gone.0

      now_is : now ≡ entered plan base (stops_left plan later mid) turn mid.past
      now_is = ap (λ (x : Run). x.past) (gone.3.made_so later (all_allowed_itself plan later after))

      plain_now : IsUnpaused now
      plain_now = subst IsUnpaused (sym now_is) (unpaused_entered plan base (stops_left plan later mid) turn mid.past (plain_of old.buf old.ahead turn turn_here.1) stands_mid.plain)

      reaches_new : (stops : Stops) → AreAllowed plan later stops after → Reaches plan stops (run_begun plan stops) (line_head c.buf c.ahead ∷ map head_of new) ((r.control_taken ++ turn ∷ []) ∷ r.taken) after
      reaches_new stops allowed =
          let begins = run_begun plan stops in
          let head = line_head old.buf old.ahead in
          let least_heads : IsLeast (map reaching.moment_of (head ∷ map head_of ports)) 0 = rw (moments_same ports, head_moment (Some old)) least in
          let step = reaches_take plan stops begins (head ∷ map head_of ports) (r.control_taken ∷ r.taken) run 0 turn (line_head c.buf c.ahead) turn_here.2 (controls_pass plan turn controls)
          (read_all head (map head_of ports) (control_read (Some old) heard) (all_read ports known)) (agree_all plan run head (map head_of ports) control_was.agrees r.stands.agree)
          least_heads (r.reaches stops (allowed_alike plan run mid alike r.known stops (gone.3.before stops allowed))) in
          subst (λ (hs : List Head). Reaches plan stops begins (line_head c.buf c.ahead ∷ hs) ((r.control_taken ++ turn ∷ []) ∷ r.taken) after) (sym (heads_new new sinks))
          (subst (λ (x : Run). Reaches plan stops begins (line_head c.buf c.ahead ∷ map head_of ports) ((r.control_taken ++ turn ∷ []) ∷ r.taken) x) (taken_open plan stops turn run running_turn ∙ sym (gone.3.made_so stops allowed)) step)

      size_ports : length ports ≡ length plan.ports
      size_ports = r.stands.later.size ∙ count_is first plan planned

      ends_same : (pass : ℕ) → pass ≤ ticker_pass plan → control_pass plan ≢ pass → has_ended_in plan pass after ≡ has_ended_in plan pass mid
      ends_same pass low other =
          over_in mid now stands_mid.plain plain_now plan pass
          (ap (λ (l : List Row). has_ended base pass l) now_is ∙ controlled_ends plan base (stops_left plan later mid) mid.past turn pass controls low other)

      agree_at : (k : ℕ) → k < length (map head_of new) → Agrees plan after k (get_or (map head_of new) k Done)
      agree_at k within =
          let size = size_ports in
          let size_new = sinks.size in
          let sizes = length-map ports head_of in
          let sizes_new = length-map new head_of in
          subst (λ (hs : List Head). Agrees plan after k (get_or hs k Done)) (sym (heads_new new sinks))
          (agrees_same plan mid after k (get_or (map head_of ports) k Done) (ends_same k (omega arith) (λ same. absurd (omega arith))) (stands_mid.agree k (omega arith)))

      -- the segments hold the same of the inputs of ports
      same_held : (n : ℕ) → HoldsSame n (rows_of mid) (rows_of after)
      same_held n =
          same_in mid now stands_mid.plain plain_now n
          (subst (λ (l : List Row). HoldsSame n mid.past l) (sym now_is) (controlled_holds plan base (stops_left plan later mid) mid.past turn n controls))

      line_step : Running left written source_faults sink_faults plan (Some start) (Some c) first new after
      line_step =
          let size = size_ports in
          let size_first = r.stands.later.size in
          record {
            taken = r.taken;
            taken_size = r.taken_size;
            control_taken = r.control_taken ++ turn ∷ [];
            known = later;
            reaches = reaches_new;
            stands = record {
              later = stepped_later left written source_faults sink_faults first ports new r.stands.later (sinks_stepped left written source_faults sink_faults ports new sinks);
              sound = λ k d within. subst (λ (p : PortEnds S K C). IsSoundAhead p.reader p.ahead) (sym (same_at new sinks k d (omega arith))) (r.stands.sound k d within);
              agree = agree_at;
              progress = λ k d within.
                  subst (λ (p : PortEnds S K C). Progress left plan k (rows_of after) (get_or first k d) p (get_or r.taken k [])) (sym (same_at new sinks k d (omega arith)))
                  (progress_kept left plan k (rows_of mid) (rows_of after) (get_or first k d) (get_or ports k d) (get_or new k d).ends.sink (get_or r.taken k []) (get_or ports k d).ahead (same_held (number_of (get_or first k d).port)).end_same (stands_mid.progress k d within));
              control = control_stepped left written source_faults sink_faults plan later mid now r.known.control later.control start old c r.control_taken turn stands_mid.plain plain_now control_mid stepped turn_here.1 now_is ahead_is gone.2;
              ticker = ends_same (ticker_pass plan) (omega arith) (λ same. absurd (omega arith)) ∙ stands_mid.ticker;
              quiet = λ k within. rw now_is (controlled_quiet plan base (stops_left plan later mid) mid.past turn k controls within (stands_mid.quiet k within));
              outputs = gone.1;
              plain = plain_now;
            };
          }

      line_fits : EachPair (FitsSoFar left source_faults (rows_of run)) first ports → EachPair (FitsSoFar left source_faults (rows_of after)) first new
      line_fits so_far =
          fits_sunk left written source_faults sink_faults (rows_of mid) (rows_of after) first ports new
          (fits_rows left source_faults (rows_of run) (rows_of mid) first ports alike.rows_same so_far) (sinks_stepped left written source_faults sink_faults ports new sinks)
          (λ k d within. ap (λ (p : PortEnds S K C). p.ahead) (same_at new sinks k d within)) same_held

      line_smaller : undone new + line_weight c.reader c.ahead < undone ports + line_weight old.reader old.ahead
      line_smaller =
          let ports_less = undone_new new sinks in
          let less = control_smaller left written source_faults sink_faults plan later mid now r.known.control later.control start old c r.control_taken turn stands_mid.plain plain_now control_mid stepped turn_here.1 now_is ahead_is gone.2 in
          omega (arith, ports_less, less)

  -- what a turn of control makes
  pub record Turned (ends_first c : Option (ControlEnds S K C)) (new : List (PortEnds S K C)) (after : Run) (weight_was : ℕ) : Type 0 where
    pub runs : Running left written source_faults sink_faults plan ends_first c first new after
    pub fits : EachPair (FitsSoFar left source_faults (rows_of run)) first ports → EachPair (FitsSoFar left source_faults (rows_of after)) first new
    pub smaller : undone new + control_weight c < undone ports + weight_was

  -- control's turn comes first
  pub record ControlNext (ends_first ends : Option (ControlEnds S K C)) (r : Running left written source_faults sink_faults plan ends_first ends first ports run) : Type 0 where
    pub turn : Turn
    pub turn_is : turn_next ends ports 0 ≡ Some turn
    pub may : IsControlTurn ends
    pub open_now : has_ended (base_in plan run) (control_pass plan) run.past ≡ false
    pub alike : IsAlike plan run (room_made plan turn run)
    pub stands : Standing left written source_faults sink_faults plan ends_first ends first ports r.taken r.control_taken r.known (room_made plan turn run)
    pub open_mid : has_ended (base_in plan (room_made plan turn run)) (control_pass plan) (room_made plan turn run).past ≡ false
    pub turns : (now : List Row) (c : Option (ControlEnds S K C)) (new : List (PortEnds S K C)) → EachPair (OnlySink written sink_faults) ports new → IsControlAdvanced written sink_faults ends c
        → IsAheadAfter plan (base_in plan (room_made plan turn run)) now c → ControlGoesOn written sink_faults plan (room_made plan turn run) (run_with (room_made plan turn run) now) ends c ports new
        → Turned ends_first c new (run_with (room_made plan turn run) now) (control_weight ends)

  module _ (start old : ControlEnds S K C) (r : Running left written source_faults sink_faults plan (Some start) (Some old) first ports run) (heard : IsLineKnown old.ahead) (least : IsLeast (control_moment (Some old) ∷ map turn_moment ports) 0) where
    turned_by : (now : List Row) (c : Option (ControlEnds S K C)) (new : List (PortEnds S K C)) → EachPair (OnlySink written sink_faults) ports new → IsControlAdvanced written sink_faults (Some old) c
        → IsAheadAfter plan (base_in plan (mid start old r heard least)) now c → ControlGoesOn written sink_faults plan (mid start old r heard least) (run_with (mid start old r heard least) now) (Some old) c ports new
        → Turned (Some start) c new (run_with (mid start old r heard least) now) (line_weight old.reader old.ahead)
    turned_by now None new sinks stepped ahead_is goes = absurd stepped
    turned_by now (Some c) new sinks stepped ahead_is goes =
        let m = mid start old r heard least in
        let goes_now : AllOutputsGoOn written sink_faults plan m (run_with m now) old.ends.sink c.ends.sink ports new (λ stops. entered_in plan stops (turn start old r heard least) m) =
        subst (λ (o : Option Turn). IfSome o (λ t. AllOutputsGoOn written sink_faults plan m (run_with m now) old.ends.sink c.ends.sink ports new (λ stops. entered_in plan stops t m))) (turn_here start old r heard least).1 goes in
        record {
          runs = line_step start old r heard least now c new sinks stepped ahead_is goes_now;
          fits = line_fits start old r heard least now c new sinks stepped ahead_is goes_now;
          smaller = line_smaller start old r heard least now c new sinks stepped ahead_is goes_now;
        }

    line_next : ControlNext (Some start) (Some old) r
    line_next = record {
      turn = turn start old r heard least;
      turn_is = (turn_here start old r heard least).1;
      may = (rw (turn_here start old r heard least).1 refl, (control_was start old r heard least).sound);
      open_now = open_now start old r heard least;
      alike = alike start old r heard least;
      stands = stands_mid start old r heard least;
      open_mid = open_mid start old r heard least;
      turns = turned_by;
    }

  pub control_next : (ends_first ends : Option (ControlEnds S K C)) (r : Running left written source_faults sink_faults plan ends_first ends first ports run) → IsControlKnown ends → IsLeast (control_moment ends ∷ map turn_moment ports) 0 → ControlNext ends_first ends r
  control_next None None r heard least = absurd (none_first (map turn_moment ports) least)
  control_next (Some start) None r heard least = absurd (none_first (map turn_moment ports) least)
  control_next None (Some old) r heard least = absurd r.stands.control
  control_next (Some start) (Some old) r heard least = line_next start old r heard least
