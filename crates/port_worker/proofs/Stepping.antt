-- One turn of a replay.
use Rattle.std.proofs.Common.{◌≡◌, ◌≢◌, ℕ, zero, suc, ◌<◌, ◌≤◌, Bool, true, false, List, [], ◌∷◌, ◌++◌, length, map, get_or, set, take, refl, sym, ap, ◌∙◌, subst, arith, ◌⊎◌, inl, inr, Option, Some, None, IsSome}
use Rattle.std.proofs.lemmas.Bool.{cases_eq}
use Rattle.std.proofs.lemmas.List.{length-map, length-set, get_or-map, get_or-set_same, get_or-set_other, get_or_default, ext_get_or}
use Rattle.std.specs.List.{All}
use Rattle.std.specs.List.Sorted.{IsStrictlyIncreasing}
use Rattle.savi_kinds.specs.declared.port.Port.{Port}
use Rattle.savi_kinds.specs.declared.plan.Plan.{Plan}
use Rattle.savi_kinds.specs.declared.entry.Who.TheVariants.{Ingress}
use Rattle.savi_kinds.specs.declared.entry.Who.TheVariants as passes
use Rattle.savi_kinds.specs.declared.entry.How.{How}
use Rattle.savi_kinds.specs.declared.entry.How.TheVariants as hows
use Rattle.savi_kinds.specs.Ports.{number_of}
use Rattle.savi_kinds.specs.ValidPlan.{numbers_of}
use Rattle.savi_kinds.specs.Arrivals.{Arrival}
use Rattle.savi_kinds.specs.Arrivals as arrivals
use Rattle.pcap_io.specs.Readers.{State}
use Rattle.hist_store.specs.Rows.{Row}
use Rattle.checkpoint.specs.Bases.{Base}
use Rattle.savi_history.specs.Endings.{has_pause}
use Rattle.savi_history.specs.Passes.{has_ended, pass_of, place_of, ticker_pass}
use Rattle.savi_history.specs.Turns.{Turn, Arrives, Commands, Ends, who_of}
use Rattle.savi_history.specs.Picks.{IsLeast}
use Rattle.savi_history.specs.Replay.{Stops, entered}
use Rattle.savi_history.specs.PortInputs.{input_end}
use Rattle.savi_history.proofs.ControlSame.{ControlSame, is_control, control_entered}
use Rattle.savi_history.proofs.PortInputs.{HoldsEnd, HoldsSame, IsTurnOf, other_entered}
use Rattle.savi_history.proofs.PassNumbers.{place_at}
use Rattle.savi_history.proofs.Replaying.{IsAt, IsOurs, anything}
use Rattle.savi_segments.specs.Replay.{Run, base_in, entered_in, has_ended_in, inputs_paused, room_made, run_begun, run_with, stops_left}
use Rattle.savi_segments.proofs.ForGood.{taken_open}
use Rattle.savi_segments.proofs.Reaching.{Head, Known, Done, Agrees, Reaches, reaches_take}
use Rattle.savi_segments.proofs.Reaching as reaching
use Rattle.port_worker.specs.declared.control_ends.ControlEnds.{ControlEnds}
use Rattle.port_worker.specs.declared.port_ends.Ahead.{Ahead}
use Rattle.port_worker.specs.declared.port_ends.Ahead.TheVariants as ahead
use Rattle.port_worker.specs.declared.port_ends.PortEnds.{PortEnds}
use Rattle.port_worker.specs.Pairs.{EachPair}
use Rattle.port_worker.specs.Inputs.{IsSoundAhead, IsReadable, IsReadAhead, turn_of, turn_ahead, turn_moment}
use Rattle.port_worker.specs.ControlOutputs.{AreAllowed}
use Rattle.port_worker.specs.LineInputs.{IsControlKnown, control_moment}
use Rattle.port_worker.specs.Outputs.{AreOutputs, Allows, MovesOn, OutputsGoOn}
use Rattle.port_worker.specs.Steps.{IsStepped, ends_input, ahead_after}
use Rattle.port_worker.specs.Replays.{ports_held, ports_planned}
use Rattle.port_worker.specs.Turnings.{turn_at_place}
use Rattle.port_worker.proofs.Alike.{IsAlike, alike_room, allowed_alike, open_shows}
use Rattle.port_worker.proofs.Allowed.{allowed_itself}
use Rattle.port_worker.proofs.Planned.{count_is, number_is, numbers_differ}
use Rattle.port_worker.proofs.Fitting.{FitsSoFar, fits_rows, fits_turned, turn_port}
use Rattle.port_worker.proofs.Entered.{ended_entered_other, ended_entered_open, ended_entered_done, quiet_entered}
use Rattle.port_worker.proofs.Progress.{head_of, head_ahead, turn_at_moment, AtTurn, AtFailure, at_turn, Goes, Progress, goes_at, goes_on_at, ends_at, fails_at, progress_kept}
use Rattle.port_worker.proofs.ControlFirst.{read_all, agree_all}
use Rattle.port_worker.proofs.ControlGoing.{outputs_ports, with_stop}
use Rattle.port_worker.proofs.ControlProgress.{control_head, head_moment}
use Rattle.port_worker.proofs.ControlRunning.{control_agrees, control_kept, control_read}
use Rattle.port_worker.proofs.Measures.{weight, undone, undone_less, weight_turned}
use Rattle.port_worker.proofs.Later.{stepped_later}
use Rattle.port_worker.proofs.RowsHeld.{ControlKept, IsHeld, held_entered, held_in, kept_in, over_as, over_in, rows_of, same_in}
use Rattle.port_worker.proofs.Running.{Running, Standing, head_at, element, moments_same, all_read, agrees_same, stands_alike}
use Rattle.port_worker.proofs.Unbroken.{IsUnpaused, alike_in}
use Rattle.port_worker.proofs.Unpaused.{IsPlain, unpaused_entered}

some_same : (u t : Turn) → Some u ≡ Some t → u ≡ t
some_same u t is = cc

no_end : (u t : Turn) → Some u ≡ Some t → ends_input u ≡ true → ends_input t ≡ false → ⊥
no_end u t is ends goes = let e : ends_input u ≡ ends_input t = ap ends_input (some_same u t is) in cc

readable_of : (port : Port) (state : State) (buf : List ℕ) (a : Ahead) (t : Turn) → turn_ahead port buf a ≡ Some t → ends_input t ≡ false → IsSoundAhead state a → IsReadable state
readable_of port state buf ahead.Unread t is goes sound = cc
readable_of port state buf (ahead.Frame stamp len) t is goes sound = sound.1
readable_of port state buf (ahead.Long stamp len) t is goes sound = sound.1
readable_of port state buf ahead.End t is goes sound = absurd (no_end (Ends (Ingress port) hows.End) t is refl goes)
readable_of port state buf (ahead.Malformed at) t is goes sound = absurd (no_end (Ends (Ingress port) (hows.Malformed at)) t is refl goes)
readable_of port state buf ahead.Failed t is goes sound = absurd (no_end (Ends (Ingress port) hows.Failed) t is refl goes)
readable_of port state buf ahead.Done t is goes sound = cc

-- what was read pauses nothing
plain_of : (port : Port) (buf : List ℕ) (a : Ahead) (t : Turn) → turn_ahead port buf a ≡ Some t → IsPlain t
plain_of port buf ahead.Unread t is = cc
plain_of port buf (ahead.Frame stamp len) t is = subst IsPlain (some_same (Arrives port (arrivals.Frame stamp (take len buf))) t is) tt
plain_of port buf (ahead.Long stamp len) t is = subst IsPlain (some_same (Arrives port (arrivals.Long stamp len)) t is) tt
plain_of port buf ahead.End t is = subst IsPlain (some_same (Ends (Ingress port) hows.End) t is) refl
plain_of port buf (ahead.Malformed at) t is = subst IsPlain (some_same (Ends (Ingress port) (hows.Malformed at)) t is) refl
plain_of port buf ahead.Failed t is = subst IsPlain (some_same (Ends (Ingress port) hows.Failed) t is) refl
plain_of port buf ahead.Done t is = cc

at_most : (n : ℕ) → n ≤ n
at_most n = omega arith

-- the turn that was read at a place
pub place_turn : {S K C : Type 0} (ports : List (PortEnds S K C)) (k : ℕ) (d : PortEnds S K C) → k < length ports → turn_at_place ports k ≡ turn_of (get_or ports k d)
place_turn [] k d inside = absurd (omega (arith, inside))
place_turn (p ∷ ports) zero d inside = refl
place_turn (p ∷ ports) (suc k) d inside = place_turn ports k d (omega (arith, inside))

module _ {S K C : Type 0} (left : S → Option (List ℕ)) (written : K → Option (List ℕ)) (source_faults : S → ℕ) (sink_faults : K → ℕ) (plan : Plan) (ends_first ends : Option (ControlEnds S K C)) (first ports : List (PortEnds S K C)) (run : Run) (j : ℕ)
    (planned : ports_held first ≡ ports_planned plan) (rising : IsStrictlyIncreasing (numbers_of plan.ports))
    (r : Running left written source_faults sink_faults plan ends_first ends first ports run) (heard : IsControlKnown ends) (known : All (λ p. IsReadAhead p.ahead) ports) (least : IsLeast (control_moment ends ∷ map turn_moment ports) (suc j)) where
  pub inside : j < length ports
  inside = let within = least.inside in let size = length-map ports turn_moment in omega arith

  pub d_here : PortEnds S K C
  d_here = element ports j inside

  abbrev pub here : PortEnds S K C
  here = get_or ports j d_here

  pub turn_here : (t : Turn) × (turn_of here ≡ Some t) × (head_of here ≡ Known t)
  turn_here = turn_at_moment here.port here.buf here.ahead least.least (sym (get_or-map turn_moment ports j d_here None inside) ∙ least.there)

  abbrev pub turn : Turn
  turn = turn_here.0

  -- it is a turn of the port
  of_port : IsTurnOf here.port turn
  of_port = turn_port here.port here.buf here.ahead turn turn_here.1

  size_ports : length ports ≡ length first
  size_ports = r.stands.later.size

  pass_is : (k : ℕ) (d : PortEnds S K C) → k < length first → pass_of plan (Ingress (get_or first k d).port) ≡ k
  pass_is k d within =
      let count = count_is first plan planned in
      ap (place_of plan) (number_is first plan k d planned within) ∙ place_at plan k rising (omega arith)

  port_is : (k : ℕ) (d : PortEnds S K C) → k < length first → (get_or ports k d).port ≡ (get_or first k d).port
  port_is k d within = (r.stands.later.each k d within).port

  inside_first : j < length first
  inside_first = let size = size_ports in let within = inside in omega arith

  pub inside_plan : j < length plan.ports
  inside_plan = let count = count_is first plan planned in let within = inside_first in omega arith

  at_here : AtTurn (left here.ends.source) here.port here.reader here.buf here.ahead turn
  at_here = at_turn (left here.ends.source) here.port here.reader here.buf here.ahead turn turn_here.1

  who_from : AtTurn (left here.ends.source) here.port here.reader here.buf here.ahead turn → pass_of plan (who_of turn) ≡ j
  who_from (inl arrives) = ap (λ (t : Turn). pass_of plan (who_of t)) arrives.is_turn ∙ ap (λ (p : Port). pass_of plan (Ingress p)) (port_is j d_here inside_first) ∙ pass_is j d_here inside_first
  who_from (inr (inl ends)) = ap (λ (t : Turn). pass_of plan (who_of t)) ends.is_turn ∙ ap (λ (p : Port). pass_of plan (Ingress p)) (port_is j d_here inside_first) ∙ pass_is j d_here inside_first
  who_from (inr (inr fails)) = ap (λ (t : Turn). pass_of plan (who_of t)) fails.is_turn ∙ ap (λ (p : Port). pass_of plan (Ingress p)) (port_is j d_here inside_first) ∙ pass_is j d_here inside_first

  pub who_is : pass_of plan (who_of turn) ≡ j
  who_is = who_from at_here

  pub turn_at : (d : PortEnds S K C) → turn_of (get_or ports j d) ≡ Some turn
  turn_at d = subst (λ (p : PortEnds S K C). turn_of p ≡ Some turn) (get_or_default ports j d_here d inside) turn_here.1

  pub turn_known : (d : PortEnds S K C) → IsSome (turn_of (get_or ports j d))
  turn_known d = rw (turn_at d) refl

  -- it is the next one
  pub turn_next_here : turn_at_place ports j ≡ Some turn
  turn_next_here = place_turn ports j d_here inside ∙ turn_here.1

  head_here : get_or (map head_of ports) j Done ≡ Known turn
  head_here = head_at ports j d_here Done inside ∙ turn_here.2

  running_j : has_ended_in plan j run ≡ false
  running_j = let within = inside in let size = length-map ports head_of in subst (λ (h : Head). Agrees plan run j h) head_here (r.stands.agree j (omega arith))

  running_turn : has_ended_in plan (pass_of plan (who_of turn)) run ≡ false
  running_turn = ap (λ (n : ℕ). has_ended_in plan n run) who_is ∙ running_j

  -- the input is open in the segment that goes on
  pub open_j : has_ended (base_in plan run) j run.past ≡ false
  open_j = alike_in plan run j r.stands.plain ∙ running_j

  shows : has_pause (inputs_paused plan (base_in plan run) run.past) ≡ true
  shows = let within = inside_plan in open_shows plan (base_in plan run) run.past j rising (omega arith) open_j

  -- the run once room was made for the turn
  abbrev pub mid : Run
  mid = room_made plan turn run

  pub alike : IsAlike plan run mid
  alike = alike_room plan turn run (λ none. shows)

  pub stands_mid : Standing left written source_faults sink_faults plan ends_first ends first ports r.taken r.control_taken r.known mid
  stands_mid = stands_alike left written source_faults sink_faults plan ends_first first ends ports r.taken r.control_taken r.known run mid planned rising alike r.stands

  pub running_mid : has_ended_in plan j mid ≡ false
  running_mid = let within = inside_plan in alike.over_same j (omega arith) ∙ running_j

  pub open_mid : has_ended (base_in plan mid) j mid.past ≡ false
  open_mid = alike_in plan mid j stands_mid.plain ∙ running_mid

  module _ (now : List Row) (new : List (PortEnds S K C)) (stepped : EachPair (IsStepped written sink_faults) ports new) (others : (k : ℕ) (d : PortEnds S K C) → k ≢ j → k < length ports → (get_or new k d).ahead ≡ (get_or ports k d).ahead)
      (goes : OutputsGoOn written sink_faults plan mid (run_with mid now) ports new (λ stops. entered_in plan stops turn mid))
      (ahead_at : (d : PortEnds S K C) → (get_or new j d).ahead ≡ ahead_after (ends_input turn)) where
    abbrev pub after : Run
    after = run_with mid now

    abbrev base : Base
    base = base_in plan mid

    -- what is known of the outputs behind the turn
    gone : (later : Stops) × AreOutputs written sink_faults plan later after first new × MovesOn plan r.known later mid after (λ stops. entered_in plan stops turn mid)
    gone = goes first r.known stands_mid.outputs

    -- control has written nothing
    abbrev later : Stops
    later = with_stop gone.0 r.known.control

    now_is : now ≡ entered plan base (stops_left plan later mid) turn mid.past
    now_is = ap (λ (x : Run). x.past) (gone.2.made_so later (allowed_itself plan later after))

    plain_now : IsUnpaused now
    plain_now =
        subst IsUnpaused (sym now_is) (unpaused_entered plan base (stops_left plan later mid) turn mid.past (plain_of here.port here.buf here.ahead turn turn_here.1) stands_mid.plain)

    port_at : IsAt plan (number_of here.port)
    port_at = record {
      place = j;
      inside = inside_plan;
      number = ap number_of (port_is j d_here inside_first) ∙ number_is first plan j d_here planned inside_first;
    }

    ours_at : (t : Turn) → IsTurnOf here.port t → IsOurs plan anything t × (is_control t ≡ false)
    ours_at (Arrives p a) is = (subst (λ (q : Port). IsAt plan (number_of q)) (sym is) port_at, refl)
    ours_at (Commands line) is = absurd is
    ours_at (Ends (Ingress p) how) is = (subst (λ (q : Port). IsAt plan (number_of q)) (sym is) port_at, refl)
    ours_at (Ends passes.Control how) is = absurd is
    ours_at (Ends passes.Ticker how) is = absurd is
    ours_at (Ends (passes.Egress p) how) is = absurd is

    -- nothing of control has changed
    control_same : ControlKept plan mid after
    control_same =
        let ours = ours_at turn of_port in
        kept_in mid now stands_mid.plain plain_now plan
        (subst (λ (l : List Row). ControlSame plan base mid.past l) (sym now_is) (control_entered plan base (stops_left plan later mid) turn mid.past ours.0 ours.1))

    allowed_before : (stops : Stops) → AreAllowed plan later stops after → AreAllowed plan r.known stops run
    allowed_before stops allowed = allowed_alike plan run mid alike r.known stops (record {
      ports = gone.2.before stops allowed.ports;
      replies = subst (λ (l : List (List ℕ)). Allows r.known.control stops.control (length l)) control_same.replies_same allowed.replies;
    })

    there_ahead : (get_or new j d_here).ahead ≡ ahead_after (ends_input turn)
    there_ahead = ahead_at d_here

    abbrev there : PortEnds S K C
    there = get_or new j d_here

    same_there : there ≡ record here { ends = record here.ends { sink = there.ends.sink }; ahead = there.ahead }
    same_there = (stepped.each j d_here inside).same

    size_new : length new ≡ length ports
    size_new = stepped.size

    head_kept : (k : ℕ) (d : PortEnds S K C) → k ≢ j → k < length ports → head_of (get_or new k d) ≡ head_of (get_or ports k d)
    head_kept k d other within =
        ap (λ (p : PortEnds S K C). head_of p) (stepped.each k d within).same ∙ ap (λ (a : Ahead). head_ahead (get_or ports k d).port (get_or ports k d).buf a) (others k d other within)

    heads_at : (k : ℕ) → k < length ports → (k ≡ j) ⊎ (k ≢ j) → get_or (map head_of new) k Done ≡ get_or (set (map head_of ports) j (head_of there)) k Done
    heads_at k within (inl same) =
        let size = length-map ports head_of in
        let size_n = size_new in
        rw (same, head_at new j d_here Done (omega arith)) (sym (get_or-set_same (map head_of ports) j (head_of there) Done (omega arith)))
    heads_at k within (inr other) =
        let d = element ports k within in
        let size_n = size_new in
        head_at new k d Done (omega arith) ∙ head_kept k d other within ∙ sym (head_at ports k d Done within) ∙ sym (get_or-set_other (map head_of ports) j k (head_of there) Done other)

    heads_new : map head_of new ≡ set (map head_of ports) j (head_of there)
    heads_new =
        let sizes = length-map ports head_of in
        let sizes_new = length-map new head_of in
        let size_n = size_new in
        let size_set = length-set (map head_of ports) j (head_of there) in
        ext_get_or Done (map head_of new) (set (map head_of ports) j (head_of there)) (omega arith) (λ k within. heads_at k (omega arith) (cases_eq k j))

    reaches_new : (stops : Stops) → AreAllowed plan later stops after → Reaches plan stops (run_begun plan stops) (control_head ends ∷ map head_of new) (r.control_taken ∷ set r.taken j (get_or r.taken j [] ++ turn ∷ [])) after
    reaches_new stops allowed =
        let begins = run_begun plan stops in
        let head = control_head ends in
        let least_heads : IsLeast (map reaching.moment_of (head ∷ map head_of ports)) (suc j) = rw (moments_same ports, head_moment ends) least in
        let step = reaches_take plan stops begins (head ∷ map head_of ports) (r.control_taken ∷ r.taken) run (suc j) turn (head_of there) head_here who_is (read_all head (map head_of ports) (control_read ends heard) (all_read ports known))
        (agree_all plan run head (map head_of ports) (control_agrees left written source_faults sink_faults plan run r.known.control ends_first ends r.control_taken r.stands.control) r.stands.agree)
        least_heads (r.reaches stops (allowed_before stops allowed)) in
        subst (λ (hs : List Head). Reaches plan stops begins (head ∷ hs) (r.control_taken ∷ set r.taken j (get_or r.taken j [] ++ turn ∷ [])) after) (sym heads_new)
        (subst (λ (x : Run). Reaches plan stops begins (head ∷ set (map head_of ports) j (head_of there)) (r.control_taken ∷ set r.taken j (get_or r.taken j [] ++ turn ∷ [])) x) (taken_open plan stops turn run running_turn ∙ sym (gone.2.made_so stops allowed.ports)) step)

    low_at : (k : ℕ) → k < length ports → k ≤ ticker_pass plan
    low_at k within = let size = size_ports in let count = count_is first plan planned in omega arith

    agree_there : (b : Bool) → ends_input turn ≡ b → there.ahead ≡ ahead_after b → Agrees plan after j (head_ahead there.port there.buf there.ahead)
    agree_there true ends_so is =
        rw is (over_as mid now stands_mid.plain plain_now plan j true
        (ap (λ (l : List Row). has_ended base j l) now_is
        ∙ ap (λ (n : ℕ). has_ended base n (entered plan base (stops_left plan later mid) turn mid.past)) (sym who_is)
        ∙ ended_entered_done plan base (stops_left plan later mid) mid.past here.port turn of_port ends_so))
    agree_there false ends_so is =
        rw is (over_as mid now stands_mid.plain plain_now plan j false
        (ap (λ (l : List Row). has_ended base j l) now_is
        ∙ ended_entered_open plan base (stops_left plan later mid) mid.past here.port turn j of_port (low_at j inside) ends_so
        ∙ open_mid))

    over_other : (pass : ℕ) → pass ≤ ticker_pass plan → pass ≢ j → has_ended_in plan pass after ≡ has_ended_in plan pass mid
    over_other pass low other =
        over_in mid now stands_mid.plain plain_now plan pass
        (ap (λ (l : List Row). has_ended base pass l) now_is
        ∙ ended_entered_other plan base (stops_left plan later mid) mid.past here.port turn pass of_port low (λ e. other (sym e ∙ who_is)))

    agree_at : (k : ℕ) → k < length ports → (k ≡ j) ⊎ (k ≢ j) → Agrees plan after k (get_or (map head_of new) k Done)
    agree_at k within (inl same) =
        let size_n = size_new in
        rw (same, head_at new j d_here Done (omega arith)) (agree_there (ends_input turn) refl there_ahead)
    agree_at k within (inr other) =
        let d = element ports k within in
        let size_n = size_new in
        let size = length-map ports head_of in
        rw (head_at new k d Done (omega arith), head_kept k d other within)
        (agrees_same plan mid after k (head_of (get_or ports k d)) (over_other k (low_at k within) other)
        (subst (λ (h : Head). Agrees plan mid k h) (head_at ports k d Done within) (stands_mid.agree k (omega arith))))

    goes_here : Goes left (get_or first j d_here) here (get_or r.taken j [])
    goes_here = goes_at left plan j (rows_of mid) (get_or first j d_here) here (get_or r.taken j []) here.ahead turn here.port here.buf turn_here.1 (stands_mid.progress j d_here inside_first)

    source_there : there.ends.source ≡ here.ends.source
    source_there = ap (λ (p : PortEnds S K C). p.ends.source) same_there

    reader_there : there.reader ≡ here.reader
    reader_there = ap (λ (p : PortEnds S K C). p.reader) same_there

    ends_true : (ending : How) → turn ≡ Ends (Ingress here.port) ending → ends_input turn ≡ false → ⊥
    ends_true ending is goes_so = let e : ends_input turn ≡ true = ap ends_input is in cc

    arrives_false : AtTurn (left here.ends.source) here.port here.reader here.buf here.ahead turn → ends_input turn ≡ true → (arrival : Arrival) → turn ≡ Arrives here.port arrival → ⊥
    arrives_false at ends_so arrival is = let e : ends_input turn ≡ false = ap ends_input is in cc

    -- what all segments hold of the inputs
    held : IsHeld turn (rows_of mid) (rows_of after)
    held = held_in mid now stands_mid.plain plain_now turn (subst (λ (l : List Row). IsHeld turn mid.past l) (sym now_is) (held_entered plan base (stops_left plan later mid) turn mid.past))

    ended_so : AtFailure here.port here.ahead turn → input_end (number_of (get_or first j d_here).port) (rows_of after) ≡ Some hows.Failed
    ended_so fails =
        let failed : HoldsEnd (number_of here.port) (rows_of mid) (rows_of after) hows.Failed = subst (λ (t : Turn). IsHeld t (rows_of mid) (rows_of after)) fails.is_turn held in
        ap (λ (p : Port). input_end (number_of p) (rows_of after)) (sym (port_is j d_here inside_first)) ∙ failed.ended_so

    progress_there : (b : Bool) → ends_input turn ≡ b → there.ahead ≡ ahead_after b → AtTurn (left here.ends.source) here.port here.reader here.buf here.ahead turn
        → Progress left plan j (rows_of after) (get_or first j d_here) there (get_or r.taken j [] ++ turn ∷ [])
    progress_there true ends_so is (inl arrives) = absurd (arrives_false at_here ends_so arrives.arrival arrives.is_turn)
    progress_there true ends_so is (inr (inl ending)) =
        ends_at left plan j (rows_of after) (get_or first j d_here) here there (get_or r.taken j []) turn (port_is j d_here inside_first) (pass_is j d_here inside_first) goes_here source_there reader_there is ending
    progress_there true ends_so is (inr (inr fails)) =
        fails_at left plan j (rows_of after) (get_or first j d_here) here there (get_or r.taken j []) turn (port_is j d_here inside_first) (pass_is j d_here inside_first) goes_here source_there reader_there is (ended_so fails) fails
    progress_there false ends_so is (inl arrives) =
        goes_on_at left plan j (rows_of after) (get_or first j d_here) here there (get_or r.taken j []) turn (port_is j d_here inside_first) (pass_is j d_here inside_first) goes_here source_there reader_there is arrives
    progress_there false ends_so is (inr (inl ending)) = absurd (ends_true ending.ending ending.is_turn ends_so)
    progress_there false ends_so is (inr (inr fails)) = absurd (ends_true hows.Failed fails.is_turn ends_so)

    same_other : (k : ℕ) (d : PortEnds S K C) → k ≢ j → k < length ports → get_or new k d ≡ record (get_or ports k d) { ends = record (get_or ports k d).ends { sink = (get_or new k d).ends.sink } }
    same_other k d other within =
        (stepped.each k d within).same
        ∙ ap (λ (a : Ahead). record (get_or ports k d) { ends = record (get_or ports k d).ends { sink = (get_or new k d).ends.sink }; ahead = a }) (others k d other within)

    numbers_apart : (k : ℕ) (d : PortEnds S K C) → k < length first → k ≢ j → number_of (get_or first j d).port ≢ number_of (get_or first k d).port
    numbers_apart k d within other same =
        let count = count_is first plan planned in
        let here_within = inside_first in
        numbers_differ plan k j rising (omega arith) (omega arith) other (sym (number_is first plan k d planned within) ∙ sym same ∙ number_is first plan j d planned inside_first)

    -- the segments hold the same of the inputs of the other ports
    same_held : (k : ℕ) (d : PortEnds S K C) → k < length first → k ≢ j → HoldsSame (number_of (get_or first k d).port) (rows_of mid) (rows_of after)
    same_held k d within other =
        let n = number_of (get_or first k d).port in
        let whose : IsTurnOf (get_or first j d).port turn = subst (λ (p : Port). IsTurnOf p turn) (port_is j d inside_first) (turn_port (get_or ports j d).port (get_or ports j d).buf (get_or ports j d).ahead turn (turn_at d)) in
        same_in mid now stands_mid.plain plain_now n
        (subst (λ (l : List Row). HoldsSame n mid.past l) (sym now_is) (other_entered plan base (stops_left plan later mid) mid.past (get_or first j d).port turn n whose (numbers_apart k d within other)))

    progress_at : (k : ℕ) (d : PortEnds S K C) → k < length first → (k ≡ j) ⊎ (k ≢ j) → Progress left plan k (rows_of after) (get_or first k d) (get_or new k d) (get_or (set r.taken j (get_or r.taken j [] ++ turn ∷ [])) k [])
    progress_at k d within (inl same) =
        let size_t = r.taken_size in
        let size_n = size_new in
        let size_p = size_ports in
        rw (same, get_or-set_same r.taken j (get_or r.taken j [] ++ turn ∷ []) [] (omega arith), get_or_default first j d d_here (omega arith), get_or_default new j d d_here (omega arith))
        (progress_there (ends_input turn) refl there_ahead at_here)
    progress_at k d within (inr other) =
        let size_p = size_ports in
        rw (get_or-set_other r.taken j k (get_or r.taken j [] ++ turn ∷ []) [] other)
        (subst (λ (p : PortEnds S K C). Progress left plan k (rows_of after) (get_or first k d) p (get_or r.taken k [])) (sym (same_other k d other (omega arith)))
        (progress_kept left plan k (rows_of mid) (rows_of after) (get_or first k d) (get_or ports k d) (get_or new k d).ends.sink (get_or r.taken k []) (get_or ports k d).ahead (same_held k d within other).end_same (stands_mid.progress k d within)))

    sound_there : (b : Bool) → ends_input turn ≡ b → there.ahead ≡ ahead_after b → IsSoundAhead there.reader there.ahead
    sound_there true ends_so is = rw is tt
    sound_there false ends_so is =
        rw (is, reader_there) (readable_of here.port here.reader here.buf here.ahead turn turn_here.1 ends_so (r.stands.sound j d_here inside_first))

    sound_at : (k : ℕ) (d : PortEnds S K C) → k < length first → (k ≡ j) ⊎ (k ≢ j) → IsSoundAhead (get_or new k d).reader (get_or new k d).ahead
    sound_at k d within (inl same) =
        let size_n = size_new in
        let size_p = size_ports in
        rw (same, get_or_default new j d d_here (omega arith)) (sound_there (ends_input turn) refl there_ahead)
    sound_at k d within (inr other) =
        let size_p = size_ports in
        subst (λ (p : PortEnds S K C). IsSoundAhead p.reader p.ahead) (sym (same_other k d other (omega arith))) (r.stands.sound k d within)

    pub turn_step : Running left written source_faults sink_faults plan ends_first ends first new after
    turn_step =
        let size_p = size_ports in
        let size_n = size_new in
        let count = count_is first plan planned in
        let within_j = inside_first in
        record {
          taken = set r.taken j (get_or r.taken j [] ++ turn ∷ []);
          taken_size = length-set r.taken j (get_or r.taken j [] ++ turn ∷ []) ∙ r.taken_size;
          control_taken = r.control_taken;
          known = later;
          reaches = reaches_new;
          stands = record {
            later = stepped_later left written source_faults sink_faults first ports new r.stands.later stepped;
            sound = λ k d within. sound_at k d within (cases_eq k j);
            agree = λ k within. let sizes = length-map new head_of in agree_at k (omega arith) (cases_eq k j);
            progress = λ k d within. progress_at k d within (cases_eq k j);
            control = control_kept left written source_faults sink_faults plan mid after r.known.control ends_first ends r.control_taken control_same stands_mid.control;
            ticker = over_other (ticker_pass plan) (omega arith) (λ e. absurd (omega arith)) ∙ stands_mid.ticker;
            quiet = λ k within. rw now_is (quiet_entered plan base (stops_left plan later mid) mid.past here.port turn k of_port within (stands_mid.quiet k within));
            outputs = outputs_ports written sink_faults plan gone.0 r.known.control after first new gone.1;
            plain = plain_now;
          };
        }

    weight_here : weight there.reader there.ahead < weight here.reader here.ahead
    weight_here = rw reader_there (weight_turned here.reader here.port here.buf here.ahead there.ahead turn turn_here.1 there_ahead)

    weight_at : (k : ℕ) (d : PortEnds S K C) → k < length ports → (k ≡ j) ⊎ (k ≢ j) → weight (get_or new k d).reader (get_or new k d).ahead ≤ weight (get_or ports k d).reader (get_or ports k d).ahead
    weight_at k d within (inl same) =
        let size_n = size_new in
        let less = weight_here in
        rw (same, get_or_default new j d d_here (omega arith), get_or_default ports j d d_here inside) (omega (arith, less))
    weight_at k d within (inr other) =
        let w = weight (get_or ports k d).reader (get_or ports k d).ahead in
        subst (λ (p : PortEnds S K C). weight p.reader p.ahead ≤ w) (sym (same_other k d other within)) (at_most w)

    -- less may come than before
    pub smaller : undone new < undone ports
    smaller = undone_less ports new j d_here size_new inside (λ k d within. weight_at k d within (cases_eq k j)) weight_here

    -- the sources still fit the segments
    pub fits_step : EachPair (FitsSoFar left source_faults (rows_of run)) first ports → EachPair (FitsSoFar left source_faults (rows_of after)) first new
    fits_step so_far =
        fits_turned left written source_faults sink_faults first ports new (rows_of mid) (rows_of after) j turn port_is inside_first
        (fits_rows left source_faults (rows_of run) (rows_of mid) first ports alike.rows_same so_far) stepped others turn_at held same_held ahead_at
