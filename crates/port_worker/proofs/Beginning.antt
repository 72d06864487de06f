-- The outputs, begun one after the other.
use Rattle.std.proofs.Common.{◌≡◌, ◌≢◌, ℕ, suc, ◌+◌, ◌<◌, ◌≤◌, true, false, List, [], ◌∷◌, ◌++◌, length, take, drop, get_or, set, refl, sym, ap, ◌∙◌, subst, arith, ◌⊎◌, inl, inr, Option, Some, None, add-one}
use Rattle.std.proofs.lemmas.Bool.{cases_eq}
use Rattle.std.proofs.lemmas.List.{get_or-set_same, get_or-set_other, get_or_default, drop_all}
use Rattle.std.specs.List.{concat}
use Rattle.std.specs.List.Sorted.{IsStrictlyIncreasing}
use Rattle.savi_kinds.specs.declared.port.Port.{Port}
use Rattle.savi_kinds.specs.declared.plan.Plan.{Plan}
use Rattle.savi_kinds.specs.declared.plan.PortPlan.{PortPlan}
use Rattle.savi_kinds.specs.declared.entry.Who.TheVariants.{Egress}
use Rattle.savi_kinds.specs.declared.entry.How.TheVariants as hows
use Rattle.savi_kinds.specs.Ports.{number_of}
use Rattle.savi_kinds.specs.ValidPlan.{numbers_of}
use Rattle.savi_ends.specs.Octets.{IsFront}
use Rattle.pcap_io.specs.Captures.{header_text}
use Rattle.hist_store.specs.Rows.{Row}
use Rattle.checkpoint.specs.Bases.{Base, empty}
use Rattle.savi_history.specs.Passes.{has_ended, has_port, egress_pass}
use Rattle.savi_history.specs.Queues.{Item, sent}
use Rattle.savi_history.specs.Legal.{IsOpen}
use Rattle.savi_history.specs.Replay.{Stops, is_stopped, with_failure, begun}
use Rattle.savi_history.specs.PortOutputs.{output_end, pieces, TookPieces}
use Rattle.savi_history.proofs.PassNumbers.{number_at, known_at}
use Rattle.savi_history.proofs.PortPlaces.{length-numbers}
use Rattle.savi_history.proofs.Waiting.{sent_end}
use Rattle.savi_segments.specs.Replay.{Run, has_ended_in, pieces_in, run_begun, segments_of}
use Rattle.savi_segments.specs.Sent.{before_last_drain_in, sent_in}
use Rattle.savi_segments.specs.Unbroken.{unbroken}
use Rattle.savi_core.specs.Machines.{Machine, base_of}
use Rattle.port_worker.specs.declared.port_ends.PortEnds.{PortEnds}
use Rattle.port_worker.specs.SentFrames.{OnlySink}
use Rattle.port_worker.specs.Drains.{with_failed, IsWritten, IsBegun}
use Rattle.port_worker.specs.Outputs.{RunsOn, HasStopped, IsOutputOf, AreOutputs, Allows, ArePortsAllowed}
use Rattle.port_worker.specs.Replays.{ports_held, ports_planned}
use Rattle.port_worker.proofs.SoFar.{PairsSoFar, pairs_none, pairs_more}
use Rattle.port_worker.proofs.Planned.{count_is, number_is, numbers_differ, held_at}
use Rattle.port_worker.proofs.KeptOutputs.{KeepsOutput, KeepsIn, keeps_in}
use Rattle.port_worker.proofs.PortSteps.{PortStep, PortLeaves, no_failure, a_failure, stopped_more, leaves_written, end_failed, over_failed, quiet_failed, fits_front}
use Rattle.port_worker.proofs.Draining.{egress_apart, later, output_here, output_there, made_here, allowed_there}

-- the run whose first segment has these rows
abbrev pub begun_at : List Row → Run
begun_at past = record { closed = []; past = past }

-- nothing came in, and nothing was sent: at this port nothing has happened yet
pub record IsFresh (plan : Plan) (past : List Row) (n : ℕ) : Type 0 where
  pub running : has_ended empty (egress_pass plan n) past ≡ false
  pub on : has_ended_in plan (egress_pass plan n) (begun_at past) ≡ false
  pub none : output_end n (unbroken (segments_of (begun_at past))) ≡ None
  pub unsent : sent plan empty n past ≡ []
  pub unsure : before_last_drain_in plan n (segments_of (begun_at past)) ≡ []

-- one port is begun
module _ {K : Type 0} (written : K → Option (List ℕ)) (faults : K → ℕ) (plan : Plan) (port : Port) (past now : List Row) (old new : K) (fresh : IsFresh plan past (number_of port)) where
  abbrev q : ℕ
  q = number_of port

  abbrev run : Run
  run = begun_at []

  one_piece : pieces_in plan q (begun_at past) ≡ 1
  one_piece = ap (λ (l : List Item). suc (length l)) fresh.unsent

  -- the header was written, or that failed
  begun_step : IsWritten written faults plan empty port past now (header_text ∷ []) old new → PortStep written faults plan port run now old new (λ stops. with_failure plan empty stops.ports port past)
  begun_step (inl all) =
      let here : RunsOn written faults plan (begun_at past) q old new = record {
        running = fresh.on;
        none = fresh.none;
        took = subst (λ (l : List Item). TookPieces (written old) (written new) (pieces l) None) (sym fresh.unsent) all.took;
        still = all.still;
      } in
      record {
        later = None;
        output = subst (λ (l : List Row). RunsOn written faults plan (begun_at l) q old new) (sym all.past) here;
        made_so = λ stops allowed. all.past ∙ sym (no_failure plan empty stops.ports port past (subst (λ (l : List Row). is_stopped (stops.ports q) (pieces_in plan q (begun_at l)) ≡ false) all.past allowed));
      }
  begun_step (inr front) =
      let failed = with_failed plan empty port past in
      let unsent : sent plan empty q failed ≡ [] = sent_end plan empty past (Egress port) hows.Failed q ∙ fresh.unsent in
      let size = one_piece in
      let inside = front.took.0 in
      let took : TookPieces (written old) (written new) (pieces (sent_in plan q (segments_of (begun_at failed)))) (Some front.whole) =
      subst (λ (l : List Item). TookPieces (written old) (written new) (pieces l) (Some front.whole)) (sym unsent) front.took in
      let here : HasStopped written faults plan (begun_at failed) q old new front.whole = record {
        ended = over_failed plan run port past;
        failed = end_failed plan run port past;
        quiet = quiet_failed plan empty port past;
        took = took;
        fits = fits_front plan run port past (written old) (written new) (header_text ∷ []) front.whole front.took (ap pieces unsent)
            (subst (λ (l : List ℕ). IsFront l (concat (take front.whole (header_text ∷ [])) ++ front.took.1)) (sym fresh.unsure) (concat (take front.whole (header_text ∷ [])) ++ front.took.1, refl));
        rose = front.rose;
      } in
      record {
        later = Some front.whole;
        output = subst (λ (l : List Row). HasStopped written faults plan (begun_at l) q old new front.whole) (sym front.past) here;
        made_so = λ stops allowed.
            front.past
            ∙ sym (a_failure plan empty stops.ports port past (subst (λ (o : Option ℕ). is_stopped o (pieces_in plan q (begun_at past)) ≡ true) (sym allowed) (stopped_more front.whole (pieces_in plan q (begun_at past)) (omega (arith, size, inside)))));
      }

fresh_kept : (plan : Plan) (n : ℕ) (past now : List Row) → KeepsOutput plan empty n past now → IsFresh plan past n → IsFresh plan now n
fresh_kept plan n past now keeps fresh =
    let all : KeepsIn plan n (begun_at past) (begun_at now) = keeps_in plan (begun_at past) n now keeps in
    record {
      running = keeps.ended_same ∙ fresh.running;
      on = all.over_same ∙ fresh.on;
      none = all.end_same ∙ fresh.none;
      unsent = keeps.sent_same ∙ fresh.unsent;
      unsure = all.sure_same ∙ fresh.unsure;
    }

-- what is allowed at the ports below a place
abbrev pub AllowedBelow : Plan → ℕ → Stops → Stops → List Row → Type 0
AllowedBelow plan place known stops past = (k : ℕ) → k < place → Allows (known.ports (number_at plan k)) (stops.ports (number_at plan k)) (pieces_in plan (number_at plan k) (begun_at past))

-- the outputs of the ports below a place are begun
pub record BeginsSoFar {S K C : Type 0} (written : K → Option (List ℕ)) (faults : K → ℕ) (place : ℕ) (first now : Machine) (old new : List (PortEnds S K C)) : Type 0 where
  pub plan : now.plan ≡ first.plan
  pub base : base_of now ≡ empty
  pub sinks : PairsSoFar (OnlySink written faults) place old new
  pub fresh : (k : ℕ) → place ≤ k → k < length old → IsFresh first.plan now.past (number_at first.plan k)
  pub known : Stops
  pub outputs : (k : ℕ) (d : PortEnds S K C) → k < place → IsOutputOf written faults first.plan known (begun_at now.past) (get_or old k d) (get_or new k d)
  pub made_so : (stops : Stops) → AllowedBelow first.plan place known stops now.past → begun first.plan empty stops.ports (drop place first.plan.ports) now.past ≡ begun first.plan empty stops.ports first.plan.ports []

fresh_first : (plan : Plan) (n : ℕ) → IsFresh plan [] n
fresh_first plan n = record { running = refl; on = refl; none = refl; unsent = refl; unsure = refl }

pub begins_none : {S K C : Type 0} (written : K → Option (List ℕ)) (faults : K → ℕ) (first : Machine) (old : List (PortEnds S K C)) → base_of first ≡ empty → first.past ≡ [] → BeginsSoFar written faults 0 first first old old
begins_none written faults first old base_is start = record {
  plan = refl;
  base = base_is;
  sinks = pairs_none (OnlySink written faults) old;
  fresh = λ k above within. subst (λ (l : List Row). IsFresh first.plan l (number_at first.plan k)) (sym start) (fresh_first first.plan (number_at first.plan k));
  known = record { ports = λ n. None; control = None };
  outputs = λ k d below. absurd (omega arith);
  made_so = λ stops allowed. ap (begun first.plan empty stops.ports first.plan.ports) start;
}

module _ {S K C : Type 0} (written : K → Option (List ℕ)) (faults : K → ℕ) (place : ℕ) (first now next : Machine) (old new : List (PortEnds S K C)) (x y : PortEnds S K C)
    (planned : ports_held old ≡ ports_planned first.plan) (rising : IsStrictlyIncreasing (numbers_of first.plan.ports)) (so_far : BeginsSoFar written faults place first now old new) (inside : place < length new)
    (is : get_or new place y ≡ x) where
  inside_old : place < length old
  inside_old = let size = so_far.sinks.size in omega arith

  old_is : get_or old place y ≡ x
  old_is = sym (so_far.sinks.still place y (omega arith)) ∙ is

  number_old : (k : ℕ) (d : PortEnds S K C) → k < length old → number_of (get_or old k d).port ≡ number_at first.plan k
  number_old k d within = number_is old first.plan k d planned within

  number_here : number_of x.port ≡ number_at first.plan place
  number_here = ap (λ (p : PortEnds S K C). number_of p.port) (sym old_is) ∙ number_old place y inside_old

  fresh_here : IsFresh first.plan now.past (number_of x.port)
  fresh_here = subst (λ (n : ℕ). IsFresh first.plan now.past n) (sym number_here) (so_far.fresh place (omega arith) inside_old)

  -- the egress of the port may end
  pub open_here : IsOpen now.plan (base_of now) now.past (Egress x.port)
  open_here =
      let count = count_is old first.plan planned in
      let here = inside_old in
      subst (λ (b : Base). IsOpen now.plan b now.past (Egress x.port)) (sym so_far.base)
      (subst (λ (p : Plan). IsOpen p empty now.past (Egress x.port)) (sym so_far.plan) (record { known = ap (has_port first.plan) number_here ∙ known_at first.plan place (omega arith); running = fresh_here.running }))

  module _ (plan_is : next.plan ≡ now.plan) (base_is : base_of next ≡ base_of now) (only : OnlySink written faults x y) (begun_now : IsBegun written faults now.plan (base_of now) now.past next.past x y) where
    abbrev made : Stops → List Row
    made stops = with_failure first.plan empty stops.ports x.port now.past

    begun_one : IsBegun written faults first.plan empty now.past next.past x y
    begun_one = subst (λ (b : Base). IsBegun written faults first.plan b now.past next.past x y) so_far.base (subst (λ (p : Plan). IsBegun written faults p (base_of now) now.past next.past x y) so_far.plan begun_now)

    leaves : PortLeaves first.plan empty x.port now.past next.past
    leaves = leaves_written written faults first.plan empty x.port now.past next.past (header_text ∷ []) x.ends.sink y.ends.sink begun_one

    step : PortStep written faults first.plan x.port (begun_at []) next.past x.ends.sink y.ends.sink made
    step = begun_step written faults first.plan x.port now.past next.past x.ends.sink y.ends.sink fresh_here begun_one

    apart : (k : ℕ) → k < length old → k ≢ place → number_of x.port ≢ number_at first.plan k
    apart k within other same =
        let count = count_is old first.plan planned in
        let here = inside_old in
        numbers_differ first.plan k place rising (omega arith) (omega arith) other (sym same ∙ number_here)

    passes_apart : (k : ℕ) → k < length old → k ≢ place → egress_pass first.plan (number_of x.port) ≢ egress_pass first.plan (number_at first.plan k)
    passes_apart k within other same =
        let count = count_is old first.plan planned in
        let here = inside_old in
        egress_apart first.plan place k rising (omega arith) (omega arith) (λ e. other (sym e)) (ap (egress_pass first.plan) (sym number_here) ∙ same)

    abbrev known_now : Stops
    known_now = later written faults first.plan so_far.known (begun_at []) now.past next.past x x y made refl (omega arith) only leaves step

    output_at : (k : ℕ) (d : PortEnds S K C) → k < place + 1 → (k ≡ place) ⊎ (k ≢ place) → IsOutputOf written faults first.plan known_now (begun_at next.past) (get_or old k d) (get_or (set new place y) k d)
    output_at k d below (inl same) =
        let old_d : get_or old k d ≡ x = ap (λ (n : ℕ). get_or old n d) same ∙ get_or_default old place d y inside_old ∙ old_is in
        let now_is : get_or (set new place y) k d ≡ y = ap (λ (n : ℕ). get_or (set new place y) n d) same ∙ get_or-set_same new place y d inside in
        rw (old_d, now_is) (output_here written faults first.plan so_far.known (begun_at []) now.past next.past x x y made refl (omega arith) only leaves step)
    output_at k d below (inr other) =
        let here = inside_old in
        rw (get_or-set_other new place k y d other)
        (output_there written faults first.plan so_far.known (begun_at []) now.past next.past x x y made refl (omega arith) only leaves step (get_or old k d) (get_or new k d)
        (λ e. apart k (omega arith) other (e ∙ number_old k d (omega arith))) (λ e. passes_apart k (omega arith) other (e ∙ ap (egress_pass first.plan) (number_old k d (omega arith)))) (so_far.outputs k d (omega arith)))

    allowed_below : (stops : Stops) → AllowedBelow first.plan (place + 1) known_now stops next.past → AllowedBelow first.plan place so_far.known stops now.past
    allowed_below stops allowed k below =
        let here = inside_old in
        allowed_there written faults first.plan so_far.known (begun_at []) now.past next.past x x y made refl (omega arith) only leaves step (number_at first.plan k) (stops.ports (number_at first.plan k)) (apart k (omega arith) (omega arith)) (passes_apart k (omega arith) (omega arith)) (allowed k (omega arith))

    next_is : (stops : Stops) → AllowedBelow first.plan (place + 1) known_now stops next.past → next.past ≡ made stops
    next_is stops allowed =
        made_here written faults first.plan so_far.known (begun_at []) now.past next.past x x y made refl (omega arith) only leaves step stops
        (subst (λ (n : ℕ). Allows (known_now.ports n) (stops.ports n) (pieces_in first.plan n (begun_at next.past))) (sym number_here) (allowed place (omega arith)))

    rest_is : (stops : Stops) → AllowedBelow first.plan (place + 1) known_now stops next.past → begun first.plan empty stops.ports (drop (place + 1) first.plan.ports) next.past ≡ begun first.plan empty stops.ports (drop place first.plan.ports) now.past
    rest_is stops allowed =
        let q = held_at old first.plan place y planned inside_old in
        let port_is : q.0.number ≡ x.port = q.2 ∙ ap (λ (p : PortEnds S K C). p.port) old_is in
        let one : begun first.plan empty stops.ports (drop place first.plan.ports) now.past ≡ begun first.plan empty stops.ports (drop (suc place) first.plan.ports) next.past =
        ap (λ (l : List PortPlan). begun first.plan empty stops.ports l now.past) q.1
        ∙ ap (λ (p : Port). begun first.plan empty stops.ports (drop (suc place) first.plan.ports) (with_failure first.plan empty stops.ports p now.past)) port_is
        ∙ ap (begun first.plan empty stops.ports (drop (suc place) first.plan.ports)) (sym (next_is stops allowed)) in
        rw add-one (sym one)

    pub begins_more : BeginsSoFar written faults (place + 1) first next old (set new place y)
    begins_more = record {
      plan = plan_is ∙ so_far.plan;
      base = base_is ∙ so_far.base;
      sinks = pairs_more (OnlySink written faults) place old new y so_far.sinks inside (subst (λ (p : PortEnds S K C). OnlySink written faults p y) (sym old_is) only);
      fresh = λ k above within. fresh_kept first.plan (number_at first.plan k) now.past next.past (leaves.keeps (number_at first.plan k) (apart k within (omega arith)) (passes_apart k within (omega arith))) (so_far.fresh k (omega arith) within);
      known = known_now;
      outputs = λ k d below. output_at k d below (cases_eq k place);
      made_so = λ stops allowed. rest_is stops allowed ∙ so_far.made_so stops (allowed_below stops allowed);
    }

-- behind the last port
pub begins_all : {S K C : Type 0} (written : K → Option (List ℕ)) (faults : K → ℕ) (place : ℕ) (first now : Machine) (old new : List (PortEnds S K C)) → place ≡ length first.plan.ports → length old ≡ length first.plan.ports → BeginsSoFar written faults place first now old new
    → (known : Stops) × AreOutputs written faults first.plan known (begun_at now.past) old new × ((stops : Stops) → ArePortsAllowed first.plan known stops (begun_at now.past) → begun_at now.past ≡ run_begun first.plan stops)
begins_all written faults place first now old new all count so_far =
    let none : drop place first.plan.ports ≡ [] = drop_all place first.plan.ports (omega arith) in
    let size = length-numbers first.plan.ports in (
      so_far.known,
      record { size = so_far.sinks.size; each = λ k d within. so_far.outputs k d (omega arith) },
      λ stops allowed.
          ap (λ (l : List Row). begun_at l)
          (ap (λ (l : List PortPlan). begun first.plan empty stops.ports l now.past) (sym none) ∙ so_far.made_so stops (λ k below. allowed k 0 (omega arith))),
    )
