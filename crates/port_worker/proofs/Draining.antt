-- The queues, drained one after the other.
use Rattle.std.proofs.Common.{◌≡◌, ◌≢◌, ℕ, suc, ◌+◌, ◌<◌, ◌≤◌, ◌==◌, true, false, List, [], length, drop, get_or, set, refl, sym, ap, ◌∙◌, subst, arith, ◌⊎◌, inl, inr, Option, if◌then◌else◌, add-one}
use Rattle.std.proofs.lemmas.Bool.{cases_eq, cases_lt}
use Rattle.std.proofs.lemmas.Bool.Decides.{nat_tests}
use Rattle.std.proofs.lemmas.List.{length-set, get_or-set_same, get_or-set_other, get_or_default, drop_all}
use Rattle.std.specs.List.{All}
use Rattle.std.specs.List.Sorted.{IsStrictlyIncreasing}
use Rattle.savi_kinds.specs.declared.port.Port.{Port}
use Rattle.savi_kinds.specs.declared.plan.Plan.{Plan}
use Rattle.savi_kinds.specs.declared.plan.PortPlan.{PortPlan}
use Rattle.savi_kinds.specs.Ports.{number_of}
use Rattle.savi_kinds.specs.ValidPlan.{numbers_of}
use Rattle.hist_store.specs.Rows.{Row}
use Rattle.checkpoint.specs.Bases.{Base}
use Rattle.savi_history.specs.Passes.{has_ended, egress_pass, ticker_pass}
use Rattle.savi_history.specs.Replay.{Stops, with_drain, drained}
use Rattle.savi_history.proofs.PassNumbers.{number_at, place_at}
use Rattle.savi_history.proofs.PortPlaces.{length-numbers}
use Rattle.savi_history.proofs.Ends.{Later}
use Rattle.savi_segments.specs.Replay.{Run, base_in, pieces_in, run_with, stops_left}
use Rattle.savi_core.specs.Machines.{Machine, base_of}
use Rattle.port_worker.specs.declared.port_ends.PortEnds.{PortEnds}
use Rattle.port_worker.specs.SentFrames.{OnlySink}
use Rattle.port_worker.specs.Drains.{waiting_at, IsDrainable, IsDrained}
use Rattle.port_worker.specs.Outputs.{IsOutput, IsOutputOf, AreOutputs, Allows, ArePortsAllowed, OutputsGoOn}
use Rattle.port_worker.specs.Replays.{ports_held, ports_planned}
use Rattle.port_worker.specs.Turnings.{StandsAt}
use Rattle.port_worker.proofs.SoFar.{PairsSoFar, pairs_none, pairs_more}
use Rattle.port_worker.proofs.Later.{took_none}
use Rattle.port_worker.proofs.Planned.{count_is, number_is, numbers_differ, held_at}
use Rattle.port_worker.proofs.KeptOutputs.{keeps_in, keeps_pieces, output_kept}
use Rattle.port_worker.proofs.PortSteps.{PortStep, DrainStep, PortLeaves, drain_step, leaves_drained, emptied, drained_nothing}

pub only_itself : {S K C : Type 0} (written : K → Option (List ℕ)) (faults : K → ℕ) (p : PortEnds S K C) → OnlySink written faults p p
only_itself written faults p = record { same = refl; later = omega arith; took = took_none (written p.ends.sink) }

-- what is known, with what is known now of one port
abbrev pub with_known : Stops → ℕ → Option ℕ → Stops
with_known known q later = record { ports = λ n. if n == q then later else known.ports n; control = known.control }

known_here : (known : Stops) (q n : ℕ) (later : Option ℕ) → n ≡ q → (with_known known q later).ports n ≡ later
known_here known q n later same = let is : (n == q) ≡ true = grind (arith, nat_tests) in rw is refl

known_there : (known : Stops) (q n : ℕ) (later : Option ℕ) → n ≢ q → (with_known known q later).ports n ≡ known.ports n
known_there known q n later other = let is : (n == q) ≡ false = grind (arith, nat_tests) in rw is refl

pub egress_apart : (plan : Plan) (j k : ℕ) → IsStrictlyIncreasing (numbers_of plan.ports) → j < length plan.ports → k < length plan.ports → j ≢ k → egress_pass plan (number_at plan j) ≢ egress_pass plan (number_at plan k)
egress_apart plan j k rising inside_j inside_k other same =
    let one = place_at plan j rising inside_j in
    let two = place_at plan k rising inside_k in
    omega arith

-- one port's part of a step, among all outputs

module _ {S K C : Type 0} (written : K → Option (List ℕ)) (faults : K → ℕ) (plan : Plan) (known : Stops) (run : Run) (past now : List Row) (first x y : PortEnds S K C) (made : Stops → List Row) (same_port : x.port ≡ first.port) (no_less : faults first.ends.sink ≤ faults x.ends.sink)
    (only : OnlySink written faults x y) (leaves : PortLeaves plan (base_in plan run) x.port past now) (step : PortStep written faults plan x.port run now first.ends.sink y.ends.sink made) where
  abbrev pub later : Stops
  later = with_known known (number_of x.port) step.later

  -- the output of this port
  pub output_here : IsOutputOf written faults plan later (run_with run now) first y
  output_here = record {
    port = ap (λ (p : PortEnds S K C). p.port) only.same ∙ same_port;
    later = omega (arith, no_less, only.later);
    output =
        subst (λ (p : Port). IsOutput written faults plan (run_with run now) (number_of p) first.ends.sink y.ends.sink (later.ports (number_of p))) same_port
        (subst (λ (o : Option ℕ). IsOutput written faults plan (run_with run now) (number_of x.port) first.ends.sink y.ends.sink o) (sym (known_here known (number_of x.port) (number_of x.port) step.later refl)) step.output);
  }

  -- the output of another one
  pub output_there : (other now_there : PortEnds S K C) → number_of x.port ≢ number_of other.port → egress_pass plan (number_of x.port) ≢ egress_pass plan (number_of other.port)
      → IsOutputOf written faults plan known (run_with run past) other now_there → IsOutputOf written faults plan later (run_with run now) other now_there
  output_there other now_there apart passes was =
      let n = number_of other.port in
      record {
        port = was.port;
        later = was.later;
        output =
            subst (λ (o : Option ℕ). IsOutput written faults plan (run_with run now) n other.ends.sink now_there.ends.sink o) (sym (known_there known (number_of x.port) n step.later (λ same. apart (sym same))))
            (output_kept written faults plan n (run_with run past) (run_with run now) other.ends.sink now_there.ends.sink (known.ports n) (keeps_in plan (run_with run past) n now (leaves.keeps n apart passes)) was.output);
      }

  -- what is allowed behind the step was allowed before it, and the step made it
  pub allowed_here : (stop : Option ℕ) → Allows (later.ports (number_of x.port)) stop (pieces_in plan (number_of x.port) (run_with run now)) → Allows step.later stop (pieces_in plan (number_of x.port) (run_with run now))
  allowed_here stop = subst (λ (o : Option ℕ). Allows o stop (pieces_in plan (number_of x.port) (run_with run now))) (known_here known (number_of x.port) (number_of x.port) step.later refl)

  pub made_here : (stops : Stops) → Allows (later.ports (number_of x.port)) (stops.ports (number_of x.port)) (pieces_in plan (number_of x.port) (run_with run now)) → now ≡ made stops
  made_here stops allowed = step.made_so stops (allowed_here (stops.ports (number_of x.port)) allowed)

  pub allowed_there : (n : ℕ) (stop : Option ℕ) → number_of x.port ≢ n → egress_pass plan (number_of x.port) ≢ egress_pass plan n → Allows (later.ports n) stop (pieces_in plan n (run_with run now)) → Allows (known.ports n) stop (pieces_in plan n (run_with run past))
  allowed_there n stop apart passes allowed =
      subst (λ (c : ℕ). Allows (known.ports n) stop c) (keeps_pieces plan n (run_with run past) (run_with run now) (keeps_in plan (run_with run past) n now (leaves.keeps n apart passes)))
      (subst (λ (o : Option ℕ). Allows o stop (pieces_in plan n (run_with run now))) (known_there known (number_of x.port) n step.later (λ same. apart (sym same))) allowed)

-- what the ports below a place made of the outputs, from what was known before
pub record DrainedSoFar {S K C : Type 0} (written : K → Option (List ℕ)) (faults : K → ℕ) (plan : Plan) (place : ℕ) (known : Stops) (run : Run) (now : List Row) (first new : List (PortEnds S K C)) : Type 0 where
  pub later : Stops
  pub outputs : AreOutputs written faults plan later (run_with run now) first new
  pub before : (stops : Stops) → ArePortsAllowed plan later stops (run_with run now) → ArePortsAllowed plan known stops run
  pub made_so : (stops : Stops) → ArePortsAllowed plan later stops (run_with run now)
      → drained plan (base_in plan run) (stops_left plan stops run).ports (drop place plan.ports) now ≡ drained plan (base_in plan run) (stops_left plan stops run).ports plan.ports run.past

-- the queues of the ports below a place are drained and what they held is written
pub record DrainsSoFar {S K C : Type 0} (written : K → Option (List ℕ)) (faults : K → ℕ) (place : ℕ) (first now : Machine) (old new : List (PortEnds S K C)) : Type 0 where
  pub plan : now.plan ≡ first.plan
  pub base : base_of now ≡ base_of first
  pub sinks : PairsSoFar (OnlySink written faults) place old new
  pub later : Later (base_of first) first.past now.past
  pub low : (pass : ℕ) → pass ≤ ticker_pass first.plan → has_ended (base_of first) pass now.past ≡ has_ended (base_of first) pass first.past
  pub drainable : (k : ℕ) (d : PortEnds S K C) → k < length old → IsDrainable first.plan (base_of first) now.past (get_or old k d).port
  pub alone : (k : ℕ) (d : PortEnds S K C) → k < length old → has_ended (base_of first) (egress_pass first.plan (number_of (get_or old k d).port)) first.past ≡ true → get_or new k d ≡ get_or old k d
  pub outputs : (run : Run) → StandsAt first run → (start : List (PortEnds S K C)) (known : Stops) → AreOutputs written faults first.plan known run start old → DrainedSoFar written faults first.plan place known run now.past start new

-- nothing is drained yet
start_drained : {S K C : Type 0} (written : K → Option (List ℕ)) (faults : K → ℕ) (plan : Plan) (known : Stops) (run : Run) (past : List Row) (start old : List (PortEnds S K C)) → run.past ≡ past → AreOutputs written faults plan known run start old
    → DrainedSoFar written faults plan 0 known run past start old
start_drained {S} {K} {C} written faults plan known run past start old same was =
    subst (λ (l : List Row). DrainedSoFar written faults plan 0 known run l start old) same
    (record { later = known; outputs = was; before = λ stops allowed. allowed; made_so = λ stops allowed. refl })

pub drains_none : {S K C : Type 0} (written : K → Option (List ℕ)) (faults : K → ℕ) (first : Machine) (old : List (PortEnds S K C)) → All (λ p. IsDrainable first.plan (base_of first) first.past p.port) old → DrainsSoFar written faults 0 first first old old
drains_none written faults first old drainable = record {
  plan = refl;
  base = refl;
  sinks = pairs_none (OnlySink written faults) old;
  later = λ pass ended. ended;
  low = λ pass below. refl;
  drainable = drainable;
  alone = λ k d within ended. refl;
  outputs = λ run stands start known was. start_drained written faults first.plan known run first.past start old (sym stands.rows) was;
}

module _ {S K C : Type 0} (written : K → Option (List ℕ)) (faults : K → ℕ) (place : ℕ) (first now next : Machine) (old new : List (PortEnds S K C)) (x y : PortEnds S K C)
    (planned : ports_held old ≡ ports_planned first.plan) (rising : IsStrictlyIncreasing (numbers_of first.plan.ports)) (so_far : DrainsSoFar written faults place first now old new) (inside : place < length new)
    (is : get_or new place y ≡ x) (plan_is : next.plan ≡ now.plan) (base_is : base_of next ≡ base_of now) (only : OnlySink written faults x y) (drained_now : IsDrained written faults now.plan (base_of now) now.past next.past x y) where
  inside_old : place < length old
  inside_old = let size = so_far.sinks.size in omega arith

  old_is : get_or old place y ≡ x
  old_is = sym (so_far.sinks.still place y (omega arith)) ∙ is

  drained_one : IsDrained written faults first.plan (base_of first) now.past next.past x y
  drained_one =
      subst (λ (b : Base). IsDrained written faults first.plan b now.past next.past x y) so_far.base
      (subst (λ (p : Plan). IsDrained written faults p (base_of now) now.past next.past x y) so_far.plan drained_now)

  leaves : PortLeaves first.plan (base_of first) x.port now.past next.past
  leaves = leaves_drained written faults first.plan (base_of first) now.past next.past x y drained_one

  number_old : (k : ℕ) (d : PortEnds S K C) → k < length old → number_of (get_or old k d).port ≡ number_at first.plan k
  number_old k d within = number_is old first.plan k d planned within

  number_here : number_of x.port ≡ number_at first.plan place
  number_here = ap (λ (p : PortEnds S K C). number_of p.port) (sym old_is) ∙ number_old place y inside_old

  apart : (k : ℕ) → k < length old → k ≢ place → number_of x.port ≢ number_at first.plan k
  apart k within other same =
      let count = count_is old first.plan planned in
      let here = inside_old in
      numbers_differ first.plan k place rising (omega arith) (omega arith) other (sym same ∙ number_here)

  passes_apart : (k : ℕ) → k < length old → k ≢ place → egress_pass first.plan (number_of x.port) ≢ egress_pass first.plan (number_at first.plan k)
  passes_apart k within other same =
      let count = count_is old first.plan planned in
      let here = inside_old in
      egress_apart first.plan place k rising (omega arith) (omega arith) (λ e. other (sym e)) (ap (egress_pass first.plan) (sym number_here) ∙ same)

  -- what may be drained next

  drainable_here : (p : Port) → x.port ≡ p → IsDrainable first.plan (base_of first) now.past p → IsDrainable first.plan (base_of first) next.past p
  drainable_here p same was =
      let none : waiting_at first.plan (base_of first) p next.past ≡ [] =
      subst (λ (r : Port). waiting_at first.plan (base_of first) r next.past ≡ []) same (emptied written faults first.plan (base_of first) now.past next.past x y drained_one) in
      record { known = was.known; few = rw none (omega arith); quiet = λ ended. none }

  drainable_there : (p : Port) → number_of x.port ≢ number_of p → egress_pass first.plan (number_of x.port) ≢ egress_pass first.plan (number_of p) → IsDrainable first.plan (base_of first) now.past p → IsDrainable first.plan (base_of first) next.past p
  drainable_there p other passes was =
      let keeps = leaves.keeps (number_of p) other passes in
      let same : waiting_at first.plan (base_of first) p next.past ≡ waiting_at first.plan (base_of first) p now.past = leaves.queues (number_of p) other in
      record { known = was.known; few = rw same was.few; quiet = λ ended. same ∙ was.quiet (sym keeps.ended_same ∙ ended) }

  drainable_at : (k : ℕ) (d : PortEnds S K C) → k < length old → (k ≡ place) ⊎ (k ≢ place) → IsDrainable first.plan (base_of first) next.past (get_or old k d).port
  drainable_at k d within (inl same) =
      let here : x.port ≡ (get_or old k d).port = ap (λ (p : PortEnds S K C). p.port) (sym old_is ∙ get_or_default old place y d inside_old ∙ ap (λ (n : ℕ). get_or old n d) (sym same)) in
      drainable_here (get_or old k d).port here (so_far.drainable k d within)
  drainable_at k d within (inr other) =
      drainable_there (get_or old k d).port (λ e. apart k within other (e ∙ number_old k d within)) (λ e. passes_apart k within other (e ∙ ap (egress_pass first.plan) (number_old k d within))) (so_far.drainable k d within)

  -- an output that had ended is left alone

  alone_at : (k : ℕ) (d : PortEnds S K C) → k < length old → (k ≡ place) ⊎ (k ≢ place) → has_ended (base_of first) (egress_pass first.plan (number_of (get_or old k d).port)) first.past ≡ true → get_or (set new place y) k d ≡ get_or old k d
  alone_at k d within (inl same) ended =
      let here : get_or old k d ≡ x = ap (λ (n : ℕ). get_or old n d) same ∙ get_or_default old place d y inside_old ∙ old_is in
      let ended_now : has_ended (base_of first) (egress_pass first.plan (number_of (get_or old k d).port)) now.past ≡ true = so_far.later (egress_pass first.plan (number_of (get_or old k d).port)) ended in
      let none : waiting_at first.plan (base_of first) x.port now.past ≡ [] = subst (λ (p : PortEnds S K C). waiting_at first.plan (base_of first) p.port now.past ≡ []) here ((so_far.drainable k d within).quiet ended_now) in
      ap (λ (n : ℕ). get_or (set new place y) n d) same ∙ get_or-set_same new place y d inside ∙ drained_nothing written faults first.plan (base_of first) now.past next.past x y drained_one none ∙ sym here
  alone_at k d within (inr other) ended = get_or-set_other new place k y d other ∙ so_far.alone k d within ended

  module _ (run : Run) (stands : StandsAt first run) (start : List (PortEnds S K C)) (known : Stops) (before : DrainedSoFar written faults first.plan place known run now.past start new) where
    drained_in : IsDrained written faults first.plan (base_in first.plan run) now.past next.past x y
    drained_in = subst (λ (b : Base). IsDrained written faults first.plan b now.past next.past x y) stands.base drained_one

    leaves_in : PortLeaves first.plan (base_in first.plan run) x.port now.past next.past
    leaves_in = subst (λ (b : Base). PortLeaves first.plan b x.port now.past next.past) stands.base leaves

    abbrev made : Stops → List Row
    made stops = with_drain first.plan (base_in first.plan run) (stops_left first.plan stops run).ports x.port (length (waiting_at first.plan (base_in first.plan run) x.port now.past)) now.past

    inside_start : place < length start
    inside_start = let size = before.outputs.size in omega arith

    o : PortEnds S K C
    o = get_or start place y

    was : IsOutputOf written faults first.plan before.later (run_with run now.past) o x
    unfolding o
    was = subst (λ (p : PortEnds S K C). IsOutputOf written faults first.plan before.later (run_with run now.past) (get_or start place y) p) is (before.outputs.each place y inside_start)

    drain : DrainStep written faults first.plan x.port (before.later.ports (number_of x.port)) run now.past next.past o.ends.sink y.ends.sink made
    drain =
        drain_step written faults first.plan run now.past next.past o.ends.sink x y (before.later.ports (number_of x.port))
        (subst (λ (p : Port). IsOutput written faults first.plan (run_with run now.past) (number_of p) o.ends.sink x.ends.sink (before.later.ports (number_of p))) (sym was.port) was.output) drained_in

    abbrev step : PortStep written faults first.plan x.port run next.past o.ends.sink y.ends.sink made
    step = drain.step

    abbrev known_now : Stops
    known_now = later written faults first.plan before.later run now.past next.past o x y made was.port was.later only leaves_in step

    port_new : (k : ℕ) (d : PortEnds S K C) → (k < place) ⊎ (place ≤ k) → (get_or new k d).port ≡ (get_or old k d).port
    port_new k d (inl below) = ap (λ (p : PortEnds S K C). p.port) (so_far.sinks.done k d below).same
    port_new k d (inr above) = ap (λ (p : PortEnds S K C). p.port) (so_far.sinks.still k d above)

    number_start : (k : ℕ) (d : PortEnds S K C) → k < length start → number_of (get_or start k d).port ≡ number_at first.plan k
    number_start k d within =
        let size = before.outputs.size in
        let size_old = so_far.sinks.size in
        ap number_of (sym (before.outputs.each k d within).port ∙ port_new k d (cases_lt k place)) ∙ number_old k d (omega arith)

    within_old : (k : ℕ) → k < length start → k < length old
    within_old k within = let size = before.outputs.size in let size_old = so_far.sinks.size in omega arith

    output_at : (k : ℕ) (d : PortEnds S K C) → k < length start → (k ≡ place) ⊎ (k ≢ place) → IsOutputOf written faults first.plan known_now (run_with run next.past) (get_or start k d) (get_or (set new place y) k d)
    unfolding o
    output_at k d within (inl same) =
        let first_is : get_or start k d ≡ o = ap (λ (n : ℕ). get_or start n d) same ∙ get_or_default start place d y inside_start in
        let now_is : get_or (set new place y) k d ≡ y = ap (λ (n : ℕ). get_or (set new place y) n d) same ∙ get_or-set_same new place y d inside in
        rw (first_is, now_is) (output_here written faults first.plan before.later run now.past next.past o x y made was.port was.later only leaves_in step)
    output_at k d within (inr other) =
        rw (get_or-set_other new place k y d other)
        (output_there written faults first.plan before.later run now.past next.past o x y made was.port was.later only leaves_in step (get_or start k d) (get_or new k d)
        (λ e. apart k (within_old k within) other (e ∙ number_start k d within)) (λ e. passes_apart k (within_old k within) other (e ∙ ap (egress_pass first.plan) (number_start k d within))) (before.outputs.each k d within))

    allowed_at : (stops : Stops) (k : ℕ) → k < length old → (k ≡ place) ⊎ (k ≢ place) → Allows (known_now.ports (number_at first.plan k)) (stops.ports (number_at first.plan k)) (pieces_in first.plan (number_at first.plan k) (run_with run next.past))
        → Allows (before.later.ports (number_at first.plan k)) (stops.ports (number_at first.plan k)) (pieces_in first.plan (number_at first.plan k) (run_with run now.past))
    allowed_at stops k within (inl same) allowed =
        let here : number_of x.port ≡ number_at first.plan k = number_here ∙ ap (number_at first.plan) (sym same) in
        subst (λ (n : ℕ). Allows (before.later.ports n) (stops.ports n) (pieces_in first.plan n (run_with run now.past))) here
        (drain.before (stops.ports (number_of x.port))
        (allowed_here written faults first.plan before.later run now.past next.past o x y made was.port was.later only leaves_in step (stops.ports (number_of x.port))
        (subst (λ (n : ℕ). Allows (known_now.ports n) (stops.ports n) (pieces_in first.plan n (run_with run next.past))) (sym here) allowed)))
    allowed_at stops k within (inr other) allowed =
        allowed_there written faults first.plan before.later run now.past next.past o x y made was.port was.later only leaves_in step (number_at first.plan k) (stops.ports (number_at first.plan k)) (apart k within other) (passes_apart k within other) allowed

    allowed_before : (stops : Stops) → ArePortsAllowed first.plan known_now stops (run_with run next.past) → ArePortsAllowed first.plan before.later stops (run_with run now.past)
    allowed_before stops allowed k d within =
        let count = count_is old first.plan planned in
        let size = length-numbers first.plan.ports in
        subst (λ (n : ℕ). Allows (before.later.ports n) (stops.ports n) (pieces_in first.plan n (run_with run now.past))) (get_or_default (numbers_of first.plan.ports) k 0 d within)
        (allowed_at stops k (omega arith) (cases_eq k place) (allowed k 0 within))

    next_is : (stops : Stops) → ArePortsAllowed first.plan known_now stops (run_with run next.past) → next.past ≡ made stops
    next_is stops allowed =
        let count = count_is old first.plan planned in
        let size = length-numbers first.plan.ports in
        let here = inside_old in
        made_here written faults first.plan before.later run now.past next.past o x y made was.port was.later only leaves_in step stops
        (subst (λ (n : ℕ). Allows (known_now.ports n) (stops.ports n) (pieces_in first.plan n (run_with run next.past))) (sym number_here) (allowed place 0 (omega arith)))

    rest_is : (stops : Stops) → ArePortsAllowed first.plan known_now stops (run_with run next.past)
        → drained first.plan (base_in first.plan run) (stops_left first.plan stops run).ports (drop (place + 1) first.plan.ports) next.past ≡ drained first.plan (base_in first.plan run) (stops_left first.plan stops run).ports (drop place first.plan.ports) now.past
    rest_is stops allowed =
        let base = base_in first.plan run in
        let left = (stops_left first.plan stops run).ports in
        let q = held_at old first.plan place y planned inside_old in
        let port_is : q.0.number ≡ x.port = q.2 ∙ ap (λ (p : PortEnds S K C). p.port) old_is in
        let one : drained first.plan base left (drop place first.plan.ports) now.past ≡ drained first.plan base left (drop (suc place) first.plan.ports) next.past =
        ap (λ (l : List PortPlan). drained first.plan base left l now.past) q.1
        ∙ ap (λ (p : Port). drained first.plan base left (drop (suc place) first.plan.ports) (with_drain first.plan base left p (length (waiting_at first.plan base p now.past)) now.past)) port_is
        ∙ ap (drained first.plan base left (drop (suc place) first.plan.ports)) (sym (next_is stops allowed)) in
        rw add-one (sym one)

    pub drained_more : DrainedSoFar written faults first.plan (place + 1) known run next.past start (set new place y)
    drained_more = record {
      later = known_now;
      outputs = record { size = length-set new place y ∙ before.outputs.size; each = λ k d within. output_at k d within (cases_eq k place) };
      before = λ stops allowed. before.before stops (allowed_before stops allowed);
      made_so = λ stops allowed. rest_is stops allowed ∙ before.made_so stops (allowed_before stops allowed);
    }

  pub drains_more : DrainsSoFar written faults (place + 1) first next old (set new place y)
  drains_more = record {
    plan = plan_is ∙ so_far.plan;
    base = base_is ∙ so_far.base;
    sinks = pairs_more (OnlySink written faults) place old new y so_far.sinks inside (subst (λ (p : PortEnds S K C). OnlySink written faults p y) (sym old_is) only);
    later = λ pass ended. leaves.later pass (so_far.later pass ended);
    low = λ pass below. leaves.low pass below ∙ so_far.low pass below;
    drainable = λ k d within. drainable_at k d within (cases_eq k place);
    alone = λ k d within. alone_at k d within (cases_eq k place);
    outputs = λ run stands start known was. drained_more run stands start known (so_far.outputs run stands start known was);
  }

-- behind the last port
pub drains_all : {S K C : Type 0} (written : K → Option (List ℕ)) (faults : K → ℕ) (place : ℕ) (first now : Machine) (old new : List (PortEnds S K C)) → place ≡ length first.plan.ports → DrainsSoFar written faults place first now old new → (run : Run) → StandsAt first run
    → OutputsGoOn written faults first.plan run (run_with run now.past) old new (λ stops. run_with run (drained first.plan (base_of first) (stops_left first.plan stops run).ports first.plan.ports first.past))
drains_all written faults place first now old new all so_far run stands start known was =
    let done = so_far.outputs run stands start known was in
    let none : drop place first.plan.ports ≡ [] = drop_all place first.plan.ports (omega arith) in (
      done.later,
      done.outputs,
      record {
        before = done.before;
        made_so = λ stops allowed.
            let left = (stops_left first.plan stops run).ports in
            ap (λ (l : List Row). run_with run l)
            (ap (λ (l : List PortPlan). drained first.plan (base_in first.plan run) left l now.past) (sym none) ∙ done.made_so stops allowed
            ∙ ap (λ (l : List Row). drained first.plan (base_in first.plan run) left first.plan.ports l) (sym stands.rows) ∙ ap (λ (b : Base). drained first.plan b left first.plan.ports first.past) (sym stands.base));
      },
    )
