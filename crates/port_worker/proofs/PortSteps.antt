-- What one port's part of a step makes of its output.
use Rattle.std.proofs.Common.{◌≡◌, ◌≢◌, ℕ, suc, ◌+◌, ◌<◌, ◌≤◌, ◌==◌, true, false, List, [], ◌∷◌, ◌++◌, length, take, refl, sym, ap, ◌∙◌, subst, arith, append_assoc, inl, inr, Option, Some, None}
use Rattle.std.specs.List.{concat}
use Rattle.std.proofs.lemmas.Bool.Decides.{nat_tests}
use Rattle.std.proofs.lemmas.List.{take_all, length-append, drop_all}
use Rattle.savi_kinds.specs.declared.plan.Plan.{Plan}
use Rattle.savi_kinds.specs.declared.port.Port.{Port}
use Rattle.savi_kinds.specs.declared.entry.Who.TheVariants.{Egress}
use Rattle.savi_kinds.specs.declared.entry.How.{How}
use Rattle.savi_kinds.specs.declared.entry.How.TheVariants as hows
use Rattle.savi_kinds.specs.Ports.{number_of}
use Rattle.savi_ends.specs.Octets.{IsFront}
use Rattle.savi_ends.specs.Faults.{Rose}
use Rattle.savi_ends.proofs.FaultCounts.{rose_since}
use Rattle.pcap_io.specs.Captures.{capture_text}
use Rattle.hist_store.specs.Rows.{Row}
use Rattle.checkpoint.specs.Bases.{Base}
use Rattle.savi_history.specs.Passes.{has_ended, egress_pass, ticker_pass}
use Rattle.savi_history.specs.Queues.{Item, queue, sent}
use Rattle.savi_history.specs.Outputs.{sent_items}
use Rattle.savi_history.specs.Events.{Drain, End}
use Rattle.savi_history.specs.Replay.{PortStops, Stops, is_stopped, pieces_by, with_event, with_failure, with_drain}
use Rattle.savi_history.specs.PortOutputs.{output_end, pieces, TookPieces, FitsOutput}
use Rattle.savi_history.proofs.Ends.{Later, later_event}
use Rattle.savi_history.proofs.TakenPieces.{pieces_are}
use Rattle.savi_history.proofs.Waiting.{ended_other, sent_here, sent_end}
use Rattle.savi_segments.specs.Replay.{Run, base_in, has_ended_in, pieces_in, run_with, segments_of, stops_left}
use Rattle.savi_segments.specs.Sent.{FitsOutputIn, before_last_drain_in, sent_in}
use Rattle.savi_segments.specs.Unbroken.{unbroken}
use Rattle.savi_segments.proofs.FittingReplies.{fewer_is}
use Rattle.port_worker.specs.declared.port_ends.PortEnds.{PortEnds}
use Rattle.port_worker.specs.SentFrames.{records}
use Rattle.port_worker.specs.Drains.{waiting_at, with_failed, IsWritten, IsDrained}
use Rattle.port_worker.specs.Outputs.{RunsOn, HasStopped, IsOutput, Allows}
use Rattle.port_worker.proofs.Pieces.{took_then, took_until, pieces-append, length-records, front_of_all, sure_front}
use Rattle.port_worker.proofs.KeptOutputs.{KeepsOutput, keeps_same, keeps_then, keeps_drain, keeps_failed, queue_drain, queue_failed}

-- tests on stops

pub stopped_less : (stop : Option ℕ) (m n : ℕ) → m ≤ n → is_stopped stop n ≡ false → is_stopped stop m ≡ false
stopped_less None m n less is = refl
stopped_less (Some whole) m n less is = grind (arith, nat_tests)

pub not_stopped : (whole m : ℕ) → m ≤ whole → is_stopped (Some whole) m ≡ false
not_stopped whole m less = grind (arith, nat_tests)

pub stopped_more : (whole m : ℕ) → whole < m → is_stopped (Some whole) m ≡ true
stopped_more whole m less = grind (arith, nat_tests)

-- how many pieces a sink takes is told behind those of closed segments
pub left_is : (plan : Plan) (stops : Stops) (run : Run) (q : ℕ) (past : List Row) → is_stopped ((stops_left plan stops run).ports q) (pieces_by plan (base_in plan run) q past) ≡ is_stopped (stops.ports q) (pieces_in plan q (run_with run past))
left_is plan stops run q past =
    let early = sent_in plan q run.closed in
    let here = sent plan (base_in plan run) q past in
    let size : length (early ++ here) ≡ length early + length here = length-append early here in
    let all : length early + suc (length here) ≡ suc (length (early ++ here)) = omega (arith, size) in
    fewer_is (stops.ports q) (length early) (length here) ∙ ap (is_stopped (stops.ports q)) all

pub no_failure : (plan : Plan) (base : Base) (stops : PortStops) (port : Port) (past : List Row) → is_stopped (stops (number_of port)) (pieces_by plan base (number_of port) past) ≡ false → with_failure plan base stops port past ≡ past
no_failure plan base stops port past is = rw is refl

pub a_failure : (plan : Plan) (base : Base) (stops : PortStops) (port : Port) (past : List Row) → is_stopped (stops (number_of port)) (pieces_by plan base (number_of port) past) ≡ true → with_failure plan base stops port past ≡ with_failed plan base port past
a_failure plan base stops port past is = rw is refl

some_length : (items : List Item) → items ≢ [] → (length items == 0) ≡ false
some_length [] some = absurd (some refl)
some_length (x ∷ items) some = grind (arith, nat_tests)

-- what is known of an output behind a step within a segment, and what that allows
pub record PortStep {K : Type 0} (written : K → Option (List ℕ)) (faults : K → ℕ) (plan : Plan) (port : Port) (run : Run) (now : List Row) (first new : K) (made : Stops → List Row) : Type 0 where
  pub later : Option ℕ
  pub output : IsOutput written faults plan (run_with run now) (number_of port) first new later
  pub made_so : (stops : Stops) → Allows later (stops.ports (number_of port)) (pieces_in plan (number_of port) (run_with run now)) → now ≡ made stops

-- the same of a drain, before which something was known already
pub record DrainStep {K : Type 0} (written : K → Option (List ℕ)) (faults : K → ℕ) (plan : Plan) (port : Port) (known : Option ℕ) (run : Run) (past now : List Row) (first new : K) (made : Stops → List Row) : Type 0 where
  pub step : PortStep written faults plan port run now first new made
  pub before : (stop : Option ℕ) → Allows step.later stop (pieces_in plan (number_of port) (run_with run now)) → Allows known stop (pieces_in plan (number_of port) (run_with run past))

-- what it leaves of the outputs of other ports, and of all ends
pub record PortLeaves (plan : Plan) (base : Base) (port : Port) (past now : List Row) : Type 0 where
  pub keeps : (n : ℕ) → number_of port ≢ n → egress_pass plan (number_of port) ≢ egress_pass plan n → KeepsOutput plan base n past now
  pub queues : (n : ℕ) → number_of port ≢ n → queue plan base n now ≡ queue plan base n past
  pub later : Later base past now
  pub low : (pass : ℕ) → pass ≤ ticker_pass plan → has_ended base pass now ≡ has_ended base pass past

pub leaves_same : (plan : Plan) (base : Base) (port : Port) (past now : List Row) → now ≡ past → PortLeaves plan base port past now
leaves_same plan base port past now same = record {
  keeps = λ n other pass. keeps_same plan base n past now same;
  queues = λ n other. ap (λ (l : List Row). queue plan base n l) same;
  later = λ pass ended. ap (λ (l : List Row). has_ended base pass l) same ∙ ended;
  low = λ pass below. ap (λ (l : List Row). has_ended base pass l) same;
}

pub leaves_then : (plan : Plan) (base : Base) (port : Port) (past mid now : List Row) → PortLeaves plan base port past mid → PortLeaves plan base port mid now → PortLeaves plan base port past now
leaves_then plan base port past mid now one two = record {
  keeps = λ n other pass. keeps_then plan base n past mid now (one.keeps n other pass) (two.keeps n other pass);
  queues = λ n other. two.queues n other ∙ one.queues n other;
  later = λ pass ended. two.later pass (one.later pass ended);
  low = λ pass below. two.low pass below ∙ one.low pass below;
}

leaves_drain : (plan : Plan) (base : Base) (port : Port) (past : List Row) (count : ℕ) → PortLeaves plan base port past (with_event plan base past (Drain port count))
leaves_drain plan base port past count = record {
  keeps = λ n other pass. keeps_drain plan base past port count n other;
  queues = λ n other. queue_drain plan base past port count n other;
  later = later_event plan base past (Drain port count);
  low = λ pass below. refl;
}

leaves_failed : (plan : Plan) (base : Base) (port : Port) (past : List Row) → PortLeaves plan base port past (with_failed plan base port past)
leaves_failed plan base port past = record {
  keeps = λ n other pass. keeps_failed plan base past port n other pass;
  queues = λ n other. queue_failed plan base past port n other;
  later = later_event plan base past (End (Egress port) hows.Failed);
  low = λ pass below. ended_other plan base past (Egress port) hows.Failed pass (λ same. absurd (omega (arith, below, same)));
}

pub leaves_written : {K : Type 0} (written : K → Option (List ℕ)) (faults : K → ℕ) (plan : Plan) (base : Base) (port : Port) (past now : List Row) (given : List (List ℕ)) (old new : K) → IsWritten written faults plan base port past now given old new
    → PortLeaves plan base port past now
leaves_written written faults plan base port past now given old new (inl all) = leaves_same plan base port past now all.past
leaves_written written faults plan base port past now given old new (inr front) = subst (λ (l : List Row). PortLeaves plan base port past l) (sym front.past) (leaves_failed plan base port past)

pub leaves_drained : {S K C : Type 0} (written : K → Option (List ℕ)) (faults : K → ℕ) (plan : Plan) (base : Base) (past now : List Row) (x y : PortEnds S K C) → IsDrained written faults plan base past now x y → PortLeaves plan base x.port past now
leaves_drained written faults plan base past now x y (inl quiet) = leaves_same plan base x.port past now quiet.past_same
leaves_drained written faults plan base past now x y (inr drained) =
    let count = length (waiting_at plan base x.port past) in
    let mid = with_event plan base past (Drain x.port count) in
    leaves_then plan base x.port past mid now (leaves_drain plan base x.port past count)
    (leaves_written written faults plan base x.port mid now (records (waiting_at plan base x.port past)) x.ends.sink y.ends.sink drained.wrote)

itself_at : (n : ℕ) → (n == n) ≡ true
itself_at n = grind (arith, nat_tests)

pub quiet_failed : (plan : Plan) (base : Base) (port : Port) (past : List Row) → queue plan base (number_of port) (with_failed plan base port past) ≡ []
quiet_failed plan base port past = rw (itself_at (number_of port)) refl

pub quiet_whole : (plan : Plan) (base : Base) (port : Port) (past : List Row) → queue plan base (number_of port) (with_event plan base past (Drain port (length (waiting_at plan base port past)))) ≡ []
quiet_whole plan base port past = rw (itself_at (number_of port)) (drop_all (length (waiting_at plan base port past)) (waiting_at plan base port past) (omega arith))

quiet_written : {K : Type 0} (written : K → Option (List ℕ)) (faults : K → ℕ) (plan : Plan) (base : Base) (port : Port) (past now : List Row) (given : List (List ℕ)) (old new : K) → IsWritten written faults plan base port past now given old new
    → queue plan base (number_of port) past ≡ [] → queue plan base (number_of port) now ≡ []
quiet_written written faults plan base port past now given old new (inl all) none = ap (λ (l : List Row). queue plan base (number_of port) l) all.past ∙ none
quiet_written written faults plan base port past now given old new (inr front) none = ap (λ (l : List Row). queue plan base (number_of port) l) front.past ∙ quiet_failed plan base port past

-- nothing waits at a port that was drained
pub emptied : {S K C : Type 0} (written : K → Option (List ℕ)) (faults : K → ℕ) (plan : Plan) (base : Base) (past now : List Row) (x y : PortEnds S K C) → IsDrained written faults plan base past now x y → queue plan base (number_of x.port) now ≡ []
emptied written faults plan base past now x y (inl quiet) = ap (λ (l : List Row). queue plan base (number_of x.port) l) quiet.past_same ∙ quiet.none
emptied written faults plan base past now x y (inr drained) =
    quiet_written written faults plan base x.port (with_event plan base past (Drain x.port (length (waiting_at plan base x.port past)))) now (records (waiting_at plan base x.port past)) x.ends.sink y.ends.sink drained.wrote
    (quiet_whole plan base x.port past)

-- where nothing waited nothing changes
pub drained_nothing : {S K C : Type 0} (written : K → Option (List ℕ)) (faults : K → ℕ) (plan : Plan) (base : Base) (past now : List Row) (x y : PortEnds S K C) → IsDrained written faults plan base past now x y → waiting_at plan base x.port past ≡ [] → y ≡ x
drained_nothing written faults plan base past now x y (inl quiet) none = quiet.same
drained_nothing written faults plan base past now x y (inr drained) none = absurd (drained.some none)

pub end_failed : (plan : Plan) (run : Run) (port : Port) (past : List Row) → output_end (number_of port) (unbroken (segments_of (run_with run (with_failed plan (base_in plan run) port past)))) ≡ Some hows.Failed
end_failed plan run port past = rw (itself_at (number_of port)) refl

pub over_failed : (plan : Plan) (run : Run) (port : Port) (past : List Row) → has_ended_in plan (egress_pass plan (number_of port)) (run_with run (with_failed plan (base_in plan run) port past)) ≡ true
over_failed plan run port past = rw (itself_at (egress_pass plan (number_of port))) refl

-- What a sink took up to a failed write fits, where it holds what was sent before the last drain.
pub fits_front : (plan : Plan) (run : Run) (port : Port) (past : List Row) (before after : Option (List ℕ)) (given : List (List ℕ)) (whole : ℕ) (took : TookPieces before after given (Some whole))
    → pieces (sent_in plan (number_of port) (segments_of (run_with run (with_failed plan (base_in plan run) port past)))) ≡ given
    → IsFront (before_last_drain_in plan (number_of port) (segments_of (run_with run past))) (concat (take whole given) ++ took.1)
    → FitsOutputIn plan before after (number_of port) (segments_of (run_with run (with_failed plan (base_in plan run) port past)))
fits_front plan run port past before after given whole took given_is sure =
    let q = number_of port in
    let failed = segments_of (run_with run (with_failed plan (base_in plan run) port past)) in
    let joined_is : concat given ≡ capture_text (sent_items (sent_in plan q failed)) = ap (λ (l : List (List ℕ)). concat l) (sym given_is) ∙ pieces_are (sent_in plan q failed) in
    let front : IsFront (concat (take whole given) ++ took.1) (capture_text (sent_items (sent_in plan q failed))) =
    subst (λ (l : List ℕ). IsFront (concat (take whole given) ++ took.1) l) joined_is (front_of_all given whole took.1 took.2 took.0) in
    subst (λ (o : Option How). FitsOutput before after (capture_text (sent_items (sent_in plan q failed))) (before_last_drain_in plan q failed) o) (sym (end_failed plan run port past))
    (concat (take whole given) ++ took.1, took.3, front, sure)

module _ {K : Type 0} (written : K → Option (List ℕ)) (faults : K → ℕ) (plan : Plan) (port : Port) (run : Run) (past now : List Row) (first old new : K) where
  abbrev base : Base
  base = base_in plan run

  abbrev q : ℕ
  q = number_of port

  abbrev items : List Item
  items = waiting_at plan base port past

  -- what was sent before, in all segments
  abbrev sent_before : List Item
  sent_before = sent_in plan q (segments_of (run_with run past))

  abbrev made : Stops → List Row
  made stops = with_drain plan base (stops_left plan stops run).ports port (length items) past

  abbrev mid : List Row
  mid = with_event plan base past (Drain port (length items))

  abbrev pieces_at : List Row → ℕ
  pieces_at rows = pieces_in plan q (run_with run rows)

  -- nothing waited
  pub quiet_step : (known : Option ℕ) → items ≡ [] → now ≡ past → new ≡ old → IsOutput written faults plan (run_with run past) q first old known → DrainStep written faults plan port known run past now first new made
  quiet_step known none past_same same output =
      let zero_is : length items ≡ 0 = ap (λ (l : List Item). length l) none in
      record {
        step = record {
          later = known;
          output = subst (λ (l : List Row). IsOutput written faults plan (run_with run l) q first new known) (sym past_same) (subst (λ (k : K). IsOutput written faults plan (run_with run past) q first k known) (sym same) output);
          made_so = λ stops allowed. past_same ∙ rw zero_is refl;
        };
        before = λ stop allowed. subst (λ (l : List Row). Allows known stop (pieces_at l)) past_same allowed;
      }

  module _ (some : items ≢ []) where
    drained_is : (stops : Stops) → made stops ≡ with_failure plan base (stops_left plan stops run).ports port mid
    drained_is stops = rw (some_length items some) refl

    sent_mid : sent_in plan q (segments_of (run_with run mid)) ≡ sent_before ++ items
    sent_mid =
        ap (λ (l : List Item). sent_in plan q run.closed ++ l) (sent_here plan base past port (length items) ∙ ap (λ (l : List Item). sent plan base q past ++ l) (take_all (length items) items (omega arith)))
        ∙ sym (append_assoc (sent_in plan q run.closed) (sent plan base q past) items)

    pieces_mid : pieces_at mid ≡ pieces_at past + length items
    pieces_mid = let sizes = length-append sent_before items in let e : length (sent_in plan q (segments_of (run_with run mid))) ≡ length sent_before + length items = ap (λ (l : List Item). length l) sent_mid ∙ sizes in omega arith

    -- all was written
    pub drained_step : now ≡ mid → TookPieces (written old) (written new) (records items) None → faults new ≡ faults old → RunsOn written faults plan (run_with run past) q first old → DrainStep written faults plan port None run past now first new made
    drained_step now_is took still was =
        let here : RunsOn written faults plan (run_with run mid) q first new = record {
          running = was.running;
          none = was.none;
          took = subst (λ (l : List (List ℕ)). TookPieces (written first) (written new) l None) (sym (ap pieces sent_mid ∙ pieces-append sent_before items))
              (took_then (written first) (written old) (written new) (pieces sent_before) (records items) was.took took);
          still = still ∙ was.still;
        } in
        let more = pieces_mid in
        record {
          step = record {
            later = None;
            output = subst (λ (l : List Row). RunsOn written faults plan (run_with run l) q first new) (sym now_is) here;
            made_so = λ stops allowed.
                now_is ∙ sym (drained_is stops ∙ no_failure plan base (stops_left plan stops run).ports port mid (left_is plan stops run q mid ∙ subst (λ (l : List Row). is_stopped (stops.ports q) (pieces_at l) ≡ false) now_is allowed));
          };
          before = λ stop allowed.
              stopped_less stop (pieces_at past) (pieces_at mid) (omega (arith, more)) (subst (λ (l : List Row). is_stopped stop (pieces_at l) ≡ false) now_is allowed);
        }

    -- a write failed
    module _ (whole : ℕ) (took : TookPieces (written old) (written new) (records items) (Some whole)) (rose : Rose (faults old) (faults new)) (was : RunsOn written faults plan (run_with run past) q first old) where
      abbrev done : ℕ
      done = length (pieces sent_before) + whole

      abbrev failed : List Row
      failed = with_failed plan base port mid

      sent_failed : sent_in plan q (segments_of (run_with run failed)) ≡ sent_before ++ items
      sent_failed = ap (λ (l : List Item). sent_in plan q run.closed ++ l) (sent_end plan base mid (Egress port) hows.Failed q) ∙ sent_mid

      given_is : pieces (sent_in plan q (segments_of (run_with run failed))) ≡ pieces sent_before ++ records items
      given_is = ap pieces sent_failed ∙ pieces-append sent_before items

      took_both : TookPieces (written first) (written new) (pieces sent_before ++ records items) (Some done)
      took_both = took_until (written first) (written old) (written new) (pieces sent_before) (records items) whole was.took took

      sure_mid : before_last_drain_in plan q (segments_of (run_with run mid)) ≡ capture_text (sent_items sent_before)
      sure_mid = rw (itself_at q) refl

      fits_failed : FitsOutputIn plan (written first) (written new) q (segments_of (run_with run failed))
      fits_failed =
          fits_front plan run port mid (written first) (written new) (pieces sent_before ++ records items) done took_both given_is
          (subst (λ (l : List ℕ). IsFront l (concat (take done (pieces sent_before ++ records items)) ++ took_both.1)) (pieces_are sent_before ∙ sym sure_mid)
          (sure_front (pieces sent_before) (records items) whole took_both.1))

      pieces_past : length (pieces sent_before) ≡ pieces_at past
      pieces_past = ap (λ (n : ℕ). suc n) (length-records sent_before)

      in_time : done < pieces_at mid
      in_time = let size = length-records items in let within = took.0 in let more = pieces_mid in let first_is = pieces_past in omega arith

      pub failed_step : now ≡ failed → DrainStep written faults plan port None run past now first new made
      failed_step now_is =
          let here : HasStopped written faults plan (run_with run failed) q first new done = record {
            ended = over_failed plan run port mid;
            failed = end_failed plan run port mid;
            quiet = quiet_failed plan base port mid;
            took = subst (λ (l : List (List ℕ)). TookPieces (written first) (written new) l (Some done)) (sym given_is) took_both;
            fits = fits_failed;
            rose = rose_since (faults first) (faults old) (faults new) was.still rose;
          } in
          let first_is = pieces_past in
          record {
            step = record {
              later = Some done;
              output = subst (λ (l : List Row). HasStopped written faults plan (run_with run l) q first new done) (sym now_is) here;
              made_so = λ stops allowed.
                  now_is
                  ∙ sym (drained_is stops ∙ a_failure plan base (stops_left plan stops run).ports port mid
                  (left_is plan stops run q mid ∙ subst (λ (o : Option ℕ). is_stopped o (pieces_at mid) ≡ true) (sym allowed) (stopped_more done (pieces_at mid) in_time)));
            };
            before = λ stop allowed. subst (λ (o : Option ℕ). is_stopped o (pieces_at past) ≡ false) (sym allowed) (not_stopped done (pieces_at past) (omega (arith, first_is)));
          }

-- the part of one port in the drains behind an arrival
pub drain_step : {S K C : Type 0} (written : K → Option (List ℕ)) (faults : K → ℕ) (plan : Plan) (run : Run) (past now : List Row) (first : K) (x y : PortEnds S K C) (known : Option ℕ)
    → IsOutput written faults plan (run_with run past) (number_of x.port) first x.ends.sink known → IsDrained written faults plan (base_in plan run) past now x y
    → DrainStep written faults plan x.port known run past now first y.ends.sink (λ stops. with_drain plan (base_in plan run) (stops_left plan stops run).ports x.port (length (waiting_at plan (base_in plan run) x.port past)) past)
drain_step {S} {K} {C} written faults plan run past now first x y known output (inl quiet) =
    quiet_step written faults plan x.port run past now first x.ends.sink y.ends.sink known quiet.none quiet.past_same (ap (λ (p : PortEnds S K C). p.ends.sink) quiet.same) output
drain_step written faults plan run past now first x y None output (inr drained) =
    elim drained.wrote as (λ w. DrainStep written faults plan x.port None run past now first y.ends.sink
    (λ stops. with_drain plan (base_in plan run) (stops_left plan stops run).ports x.port (length (waiting_at plan (base_in plan run) x.port past)) past)) [
      | inl all ↦ drained_step written faults plan x.port run past now first x.ends.sink y.ends.sink drained.some all.past all.took all.still output
      | inr front ↦ failed_step written faults plan x.port run past now first x.ends.sink y.ends.sink drained.some front.whole front.took front.rose output front.past
    ]
drain_step written faults plan run past now first x y (Some whole) output (inr drained) = absurd (drained.some output.quiet)
