-- A step of one port.
use Rattle.std.proofs.Common.{◌≡◌, ◌≢◌, ℕ, ◌<◌, ◌≤◌, Bool, true, false, List, [], length, get_or, set, refl, sym, ap, ◌∙◌, subst, arith, ◌⊎◌, inl, inr, Option, Some, None, IfSome, IsSome}
use Rattle.std.proofs.lemmas.Bool.{cases_eq}
use Rattle.std.proofs.lemmas.List.{length-set, get_or-set_same, get_or-set_other, get_or_default, map-set, set-get_or, get_or-map}
use Rattle.savi_kinds.specs.declared.port.Port.{Port}
use Rattle.savi_kinds.specs.declared.plan.Plan.{Plan}
use Rattle.savi_kinds.specs.Ports.{number_of}
use Rattle.savi_kinds.specs.ValidPlan.{numbers_of}
use Rattle.savi_kinds.specs.Arrivals.{Arrival}
use Rattle.savi_kinds.specs.declared.entry.Who.TheVariants.{Ingress}
use Rattle.hist_store.specs.Rows.{Row}
use Rattle.checkpoint.specs.Bases.{Base}
use Rattle.savi_history.specs.Events.{End}
use Rattle.savi_history.specs.Passes.{has_ended, has_port, pass_of, egress_pass, ticker_pass}
use Rattle.savi_history.specs.Queues.{queue}
use Rattle.savi_history.specs.Turns.{Turn}
use Rattle.savi_history.specs.Replay.{Stops, event_of, with_event, drained, entered}
use Rattle.savi_history.proofs.PassNumbers.{number_at, known_at}
use Rattle.savi_history.proofs.PortPlaces.{length-numbers, place_within}
use Rattle.savi_history.proofs.Waiting.{ended_arrival}
use Rattle.savi_history.proofs.Depth.{queue_within}
use Rattle.savi_segments.specs.Replay.{Run, base_in, entered_in, pieces_in, run_with, stops_left}
use Rattle.savi_core.specs.Machines.{Machine, base_of}
use Rattle.port_worker.specs.declared.port_ends.Ahead.{Ahead}
use Rattle.port_worker.specs.declared.port_ends.Ahead.TheVariants as aheads
use Rattle.port_worker.specs.declared.port_ends.PortEnds.{PortEnds}
use Rattle.port_worker.specs.Pairs.{EachPair}
use Rattle.port_worker.specs.SentFrames.{TookMore, OnlySink}
use Rattle.port_worker.specs.Drains.{IsDrainable}
use Rattle.port_worker.specs.Outputs.{IsOutput, AreOutputs, Allows, ArePortsAllowed, OutputsGoOn}
use Rattle.port_worker.specs.Steps.{Enters, IsStepped, ahead_after, ends_input}
use Rattle.port_worker.specs.Replays.{ports_held, ports_planned}
use Rattle.port_worker.specs.Turnings.{StandsAt}
use Rattle.port_worker.proofs.Planned.{count_is, number_is}
use Rattle.port_worker.proofs.KeptOutputs.{KeepsOutput, keeps_in, keeps_pieces, keeps_arrival, keeps_ingress, output_kept, closed_arrival}
use Rattle.port_worker.proofs.Draining.{only_itself}

module _ {S K C : Type 0} (written : K → Option (List ℕ)) (faults : K → ℕ) (old : List (PortEnds S K C)) (place : ℕ) (x y : PortEnds S K C) (inside : place < length old) (is : (d : PortEnds S K C) → get_or old place d ≡ x) (rest : y ≡ record x { ahead = y.ahead }) where
  port_same : y.port ≡ x.port
  port_same = ap (λ (p : PortEnds S K C). p.port) rest

  pub held_set : ports_held (set old place y) ≡ ports_held old
  held_set =
      map-set (λ (p : PortEnds S K C). p.port) old place y
      ∙ ap (λ (p : Port). set (ports_held old) place p) (port_same ∙ sym (ap (λ (p : PortEnds S K C). p.port) (is y)) ∙ sym (get_or-map (λ (p : PortEnds S K C). p.port) old place y y.port inside))
      ∙ set-get_or (ports_held old) place y.port

  -- any part of a port that the step leaves as it is
  kept_at : {Z : Type 0} (part : PortEnds S K C → Z) → part y ≡ part x → (k : ℕ) (d : PortEnds S K C) → (k ≡ place) ⊎ (k ≢ place) → part (get_or (set old place y) k d) ≡ part (get_or old k d)
  kept_at part same k d (inl here) = rw (here, get_or-set_same old place y d inside, is d) same
  kept_at part same k d (inr other) = ap part (get_or-set_other old place k y d other)

  pub port_kept : (k : ℕ) (d : PortEnds S K C) → (get_or (set old place y) k d).port ≡ (get_or old k d).port
  port_kept k d = kept_at (λ p. p.port) port_same k d (cases_eq k place)

  pub sink_kept : (k : ℕ) (d : PortEnds S K C) → (get_or (set old place y) k d).ends.sink ≡ (get_or old k d).ends.sink
  sink_kept k d = kept_at (λ p. p.ends.sink) (ap (λ (p : PortEnds S K C). p.ends.sink) rest) k d (cases_eq k place)

  stepped_one : (p z : PortEnds S K C) (a : PortEnds S K C) → a ≡ record p { ahead = a.ahead } → OnlySink written faults a z → IsStepped written faults p z
  stepped_one p z a a_is only = record {
    same =
        let ahead_is : a.ahead ≡ z.ahead = sym (ap (λ (q : PortEnds S K C). q.ahead) only.same) in
        only.same ∙ ap (λ (q : PortEnds S K C). record q { ends = record q.ends { sink = z.ends.sink } }) a_is
        ∙ ap (λ (h : Ahead). record p { ends = record p.ends { sink = z.ends.sink }; ahead = h }) ahead_is;
    later = subst (λ (k : K). faults k ≤ faults z.ends.sink) (ap (λ (q : PortEnds S K C). q.ends.sink) a_is) only.later;
    took = subst (λ (k : K). TookMore (written k) (written z.ends.sink)) (ap (λ (q : PortEnds S K C). q.ends.sink) a_is) only.took;
  }

  mid_at : (k : ℕ) (d : PortEnds S K C) → (k ≡ place) ⊎ (k ≢ place) → get_or (set old place y) k d ≡ record (get_or old k d) { ahead = (get_or (set old place y) k d).ahead }
  mid_at k d (inl here) = rw (here, get_or-set_same old place y d inside, is d) rest
  mid_at k d (inr other) = rw (get_or-set_other old place k y d other) refl

  pub stepped_then : (new : List (PortEnds S K C)) → EachPair (OnlySink written faults) (set old place y) new → EachPair (IsStepped written faults) old new
  stepped_then new sinks = record {
    size = sinks.size ∙ length-set old place y;
    each = λ k d within. stepped_one (get_or old k d) (get_or new k d) (get_or (set old place y) k d) (mid_at k d (cases_eq k place)) (sinks.each k d (omega (arith, length-set old place y)));
  }

  pub stepped_only : EachPair (IsStepped written faults) old (set old place y)
  stepped_only = stepped_then (set old place y) (record { size = refl; each = λ k d within. only_itself written faults (get_or (set old place y) k d) })

  -- what is known of the port's input
  pub ahead_then : (new : List (PortEnds S K C)) (d : PortEnds S K C) → EachPair (OnlySink written faults) (set old place y) new → (get_or new place d).ahead ≡ y.ahead
  ahead_then new d sinks =
      ap (λ (p : PortEnds S K C). p.ahead) (sinks.each place d (omega (arith, length-set old place y, inside))).same ∙ ap (λ (p : PortEnds S K C). p.ahead) (get_or-set_same old place y d inside)

  -- what the entry of a turn leaves of the outputs
  module _ (plan : Plan) (run : Run) (mid : List Row) (planned : ports_held old ≡ ports_planned plan) (keeps : (k : ℕ) → k < length plan.ports → KeepsOutput plan (base_in plan run) (number_at plan k) run.past mid) where
    outputs_kept : (first : List (PortEnds S K C)) (known : Stops) → AreOutputs written faults plan known run first old → AreOutputs written faults plan known (run_with run mid) first (set old place y)
    outputs_kept first known was = record {
      size = length-set old place y ∙ was.size;
      each = λ k d within.
          let one = was.each k d within in
          let size = was.size in
          let count = count_is old plan planned in
          let n = number_of (get_or first k d).port in
          let n_is : n ≡ number_at plan k = ap number_of (sym one.port) ∙ number_is old plan k d planned (omega (arith, within)) in
          let here : KeepsOutput plan (base_in plan run) n run.past mid = subst (λ (m : ℕ). KeepsOutput plan (base_in plan run) m run.past mid) (sym n_is) (keeps k (omega (arith, within))) in
          let sink_is = sink_kept k d in
          record {
            port = port_kept k d ∙ one.port;
            later = subst (λ (s : K). faults (get_or first k d).ends.sink ≤ faults s) (sym sink_is) one.later;
            output = subst (λ (s : K). IsOutput written faults plan (run_with run mid) n (get_or first k d).ends.sink s (known.ports n)) (sym sink_is)
                (output_kept written faults plan n run (run_with run mid) (get_or first k d).ends.sink (get_or old k d).ends.sink (known.ports n) (keeps_in plan run n mid here) one.output);
          };
    }

    allowed_kept : (known stops : Stops) → ArePortsAllowed plan known stops (run_with run mid) → ArePortsAllowed plan known stops run
    allowed_kept known stops allowed k d within =
        let size = length-numbers plan.ports in
        let n = number_at plan k in
        subst (λ (m : ℕ). Allows (known.ports m) (stops.ports m) (pieces_in plan m run)) (get_or_default (numbers_of plan.ports) k 0 d within)
        (subst (λ (c : ℕ). Allows (known.ports n) (stops.ports n) c) (keeps_pieces plan n run (run_with run mid) (keeps_in plan run n mid (keeps k (omega (arith, within))))) (allowed k 0 within))

    -- an entry behind which nothing is drained
    pub goes_on_only : (made : Stops → Run) → ((stops : Stops) → run_with run mid ≡ made stops) → OutputsGoOn written faults plan run (run_with run mid) old (set old place y) made
    goes_on_only made made_so first known was = (known, outputs_kept first known was, record { before = λ stops allowed. allowed_kept known stops allowed; made_so = λ stops allowed. made_so stops })

    -- an entry and the drains behind it
    pub goes_on_then : (now : Run) (new : List (PortEnds S K C)) (made then : Stops → Run) → OutputsGoOn written faults plan (run_with run mid) now (set old place y) new then → ((stops : Stops) → then stops ≡ made stops) → OutputsGoOn written faults plan run now old new made
    goes_on_then now new made then goes same first known was =
        let later = goes first known (outputs_kept first known was) in
        (later.0, later.1, record { before = λ stops allowed. allowed_kept known stops (later.2.before stops allowed); made_so = λ stops allowed. later.2.made_so stops allowed ∙ same stops })

-- behind an arrival that was entered each queue may be drained
drainable_behind : (plan : Plan) (base : Base) (past : List Row) (port here : Port) (arrival : Arrival) (k : ℕ) → plan.depth ≤ 256 → k < length plan.ports → number_of here ≡ number_at plan k → queue plan base (number_of here) past ≡ []
    → IsDrainable plan base (with_event plan base past (event_of port arrival)) here
drainable_behind plan base past port here arrival k depth within number quiet =
    let few = queue_within plan base (number_of here) (with_event plan base past (event_of port arrival)) in
    let n_quiet : queue plan base (number_at plan k) past ≡ [] = ap (λ (n : ℕ). queue plan base n past) (sym number) ∙ quiet in
    record {
      known = ap (has_port plan) number ∙ known_at plan k within;
      few = omega (arith, few, depth);
      quiet = λ ended.
          let ended_k : has_ended base (egress_pass plan (number_at plan k)) past ≡ true =
          sym (ended_arrival plan base past port arrival (egress_pass plan (number_at plan k))) ∙ ap (λ (n : ℕ). has_ended base (egress_pass plan n) (with_event plan base past (event_of port arrival))) (sym number) ∙ ended in
          ap (λ (n : ℕ). queue plan base n (with_event plan base past (event_of port arrival))) number ∙ closed_arrival plan base past port arrival k within ended_k ∙ n_quiet;
    }

pub drainable_then : (plan plan' : Plan) (base base' : Base) (port here here' : Port) (o : Option Turn) (past mid : List Row) (result : Bool) (k : ℕ) → plan.depth ≤ 256 → plan' ≡ plan → base' ≡ base → here' ≡ here → result ≡ true → IsSome o
    → IfSome o (λ turn. Enters plan base port turn past result mid) → k < length plan.ports → number_of here ≡ number_at plan k → queue plan base (number_of here) past ≡ [] → IsDrainable plan' base' mid here'
drainable_then plan plan' base base' port here here' None past mid result k depth plan_is base_is here_is answer some enters within number quiet = cc
drainable_then plan plan' base base' port here here' (Some turn) past mid result k depth plan_is base_is here_is answer some enters within number quiet =
    let e : Enters plan base port turn past true mid = subst (λ (b : Bool). Enters plan base port turn past b mid) answer enters in
    subst (λ (p : Plan). IsDrainable p base' mid here') (sym plan_is)
    (subst (λ (b : Base). IsDrainable plan b mid here') (sym base_is)
    (subst (λ (p : Port). IsDrainable plan base mid p) (sym here_is) (subst (λ (l : List Row). IsDrainable plan base l here) (sym e.2) (drainable_behind plan base past port here e.0 k depth within number quiet))))

-- what is known of the input behind the turn

pub ahead_arrived : (plan : Plan) (base : Base) (port : Port) (o : Option Turn) (past mid : List Row) (result : Bool) (a : Ahead) → result ≡ true → IfSome o (λ turn. Enters plan base port turn past result mid) → a ≡ aheads.Unread → IfSome o (λ turn. a ≡ ahead_after (ends_input turn))
ahead_arrived plan base port None past mid result a answer enters is = tt
ahead_arrived plan base port (Some turn) past mid result a answer enters is =
    let e : Enters plan base port turn past true mid = subst (λ (b : Bool). Enters plan base port turn past b mid) answer enters in
    is ∙ sym (ap (λ (t : Turn). ahead_after (ends_input t)) e.1)

pub ahead_ended : (plan : Plan) (base : Base) (port : Port) (o : Option Turn) (past mid : List Row) (result : Bool) (a : Ahead) → result ≡ false → IfSome o (λ turn. Enters plan base port turn past result mid) → a ≡ aheads.Done → IfSome o (λ turn. a ≡ ahead_after (ends_input turn))
ahead_ended plan base port None past mid result a answer enters is = tt
ahead_ended plan base port (Some turn) past mid result a answer enters is =
    let e : Enters plan base port turn past false mid = subst (λ (b : Bool). Enters plan base port turn past b mid) answer enters in
    is ∙ sym (ap (λ (t : Turn). ahead_after (ends_input t)) e.1)

-- the outputs behind an arrival and its drains, and behind an ending

module _ {S K C : Type 0} (written : K → Option (List ℕ)) (faults : K → ℕ) (old : List (PortEnds S K C)) (place : ℕ) (x y : PortEnds S K C) (inside : place < length old) (is : (d : PortEnds S K C) → get_or old place d ≡ x) (rest : y ≡ record x { ahead = y.ahead }) (m mid : Machine)
    (planned : ports_held old ≡ ports_planned m.plan) (port : Port) (run : Run) (stands : StandsAt m run) where
  -- the rows behind the entry of this event, as the run has them
  entered_row : (event_row : Base → List Row → List Row) → mid.past ≡ event_row (base_of m) m.past → mid.past ≡ event_row (base_in m.plan run) run.past
  entered_row event_row mid_is = mid_is ∙ ap (λ (b : Base). event_row b m.past) stands.base ∙ ap (λ (l : List Row). event_row (base_in m.plan run) l) stands.rows

  pub outputs_arrived : (o : Option Turn) (now : List Row) (new : List (PortEnds S K C)) (result : Bool) → result ≡ true → mid.plan ≡ m.plan → base_of mid ≡ base_of m → IfSome o (λ turn. Enters m.plan (base_of m) port turn m.past result mid.past)
      → ((r : Run) → StandsAt mid r → OutputsGoOn written faults mid.plan r (run_with r now) (set old place y) new (λ stops. run_with r (drained mid.plan (base_of mid) (stops_left mid.plan stops r).ports mid.plan.ports mid.past)))
      → IfSome o (λ turn. OutputsGoOn written faults m.plan run (run_with run now) old new (λ stops. entered_in m.plan stops turn run))
  outputs_arrived None now new result answer plan_is base_is enters goes = tt
  outputs_arrived (Some turn) now new result answer plan_is base_is enters goes =
      let plan = m.plan in
      let base = base_in plan run in
      let e : Enters plan (base_of m) port turn m.past true mid.past = subst (λ (b : Bool). Enters plan (base_of m) port turn m.past b mid.past) answer enters in
      let mid_is : mid.past ≡ with_event plan base run.past (event_of port e.0) = entered_row (λ b l. with_event plan b l (event_of port e.0)) e.2 in
      let base_mid : base_of mid ≡ base = base_is ∙ stands.base in
      let stands_mid : StandsAt mid (run_with run mid.past) = record { base = base_mid ∙ ap (λ (p : Plan). base_in p run) (sym plan_is); rows = refl } in
      let goes_plan : OutputsGoOn written faults plan (run_with run mid.past) (run_with run now) (set old place y) new (λ stops. run_with run (drained plan (base_of mid) (stops_left plan stops run).ports plan.ports mid.past)) =
      subst (λ (p : Plan). OutputsGoOn written faults p (run_with run mid.past) (run_with run now) (set old place y) new (λ stops. run_with run (drained p (base_of mid) (stops_left p stops run).ports p.ports mid.past))) plan_is
      (goes (run_with run mid.past) stands_mid) in
      goes_on_then written faults old place x y inside is rest plan run mid.past planned
      (λ k within. subst (λ (l : List Row). KeepsOutput plan base (number_at plan k) run.past l) (sym mid_is) (keeps_arrival plan base run.past port e.0 k within))
      (run_with run now) new (λ stops. entered_in plan stops turn run) (λ stops. run_with run (drained plan (base_of mid) (stops_left plan stops run).ports plan.ports mid.past)) goes_plan
      (λ stops.
      let left = stops_left plan stops run in
      ap (λ (l : List Row). run_with run l)
      (ap (λ (b : Base). drained plan b left.ports plan.ports mid.past) base_mid ∙ ap (drained plan base left.ports plan.ports) mid_is ∙ ap (λ (t : Turn). entered plan base left t run.past) (sym e.1)))

  pub outputs_ended : (o : Option Turn) (result : Bool) → result ≡ false → pass_of m.plan (Ingress port) ≤ ticker_pass m.plan → IfSome o (λ turn. Enters m.plan (base_of m) port turn m.past result mid.past)
      → IfSome o (λ turn. OutputsGoOn written faults m.plan run (run_with run mid.past) old (set old place y) (λ stops. entered_in m.plan stops turn run))
  outputs_ended None result answer low enters = tt
  outputs_ended (Some turn) result answer low enters =
      let plan = m.plan in
      let base = base_in plan run in
      let e : Enters plan (base_of m) port turn m.past false mid.past = subst (λ (b : Bool). Enters plan (base_of m) port turn m.past b mid.past) answer enters in
      let mid_is : mid.past ≡ with_event plan base run.past (End (Ingress port) e.0) = entered_row (λ b l. with_event plan b l (End (Ingress port) e.0)) e.2 in
      goes_on_only written faults old place x y inside is rest plan run mid.past planned
      (λ k within. subst (λ (l : List Row). KeepsOutput plan base (number_at plan k) run.past l) (sym mid_is) (keeps_ingress plan base run.past port e.0 (number_at plan k) low))
      (λ stops. entered_in plan stops turn run)
      (λ stops. ap (λ (l : List Row). run_with run l) (mid_is ∙ ap (λ (t : Turn). entered plan base (stops_left plan stops run) t run.past) (sym e.1)))

-- the ingress pass of a port of the plan comes before the ticker
pub ingress_low : (plan : Plan) (port : Port) → has_port plan (number_of port) ≡ true → pass_of plan (Ingress port) ≤ ticker_pass plan
ingress_low plan port known = let within = place_within plan (number_of port) known in omega (arith, within)
