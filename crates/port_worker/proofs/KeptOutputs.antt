-- What an entry leaves of an output.
use Rattle.std.proofs.Common.{◌≡◌, ◌≢◌, ℕ, suc, ◌<◌, ◌≤◌, ◌==◌, not, Bool, true, false, if◌then◌else◌, List, [], ◌++◌, length, refl, sym, ap, ◌∙◌, subst, arith, Option, Some, None}
use Rattle.std.specs.Option.{is_some}
use Rattle.std.proofs.lemmas.Bool.Decides.{nat_tests}
use Rattle.savi_kinds.specs.declared.plan.Plan.{Plan}
use Rattle.savi_kinds.specs.declared.port.Port.{Port}
use Rattle.savi_kinds.specs.declared.entry.Who.TheVariants.{Ingress, Control, Ticker, Egress}
use Rattle.savi_kinds.specs.declared.entry.How.{How}
use Rattle.savi_kinds.specs.declared.entry.How.TheVariants as hows
use Rattle.savi_kinds.specs.Ports.{number_of}
use Rattle.savi_kinds.specs.Arrivals.{Arrival}
use Rattle.savi_kinds.specs.Arrivals as arrivals
use Rattle.savi_kinds.specs.declared.entry.Who.{Who}
use Rattle.pcap_io.specs.Captures.{capture_text}
use Rattle.hist_store.specs.Rows.{Row}
use Rattle.checkpoint.specs.Bases.{Base}
use Rattle.savi_history.specs.Endings.{is_paused_reason}
use Rattle.savi_history.specs.Passes.{has_ended, egress_pass, pass_of, ticker_pass}
use Rattle.savi_history.specs.Queues.{Item, queue, sent}
use Rattle.savi_history.specs.Outputs.{sent_items}
use Rattle.savi_history.specs.Events.{Drain, End, row_of}
use Rattle.savi_history.specs.Replay.{with_event, event_of}
use Rattle.savi_history.specs.PortOutputs.{output_end, pieces, TookPieces, FitsOutput}
use Rattle.savi_history.proofs.PassNumbers.{number_at}
use Rattle.savi_history.proofs.Closed.{nothing_joins_frame, nothing_joins_long}
use Rattle.savi_history.proofs.Waiting.{ended_arrival, ended_other, empty_end, sent_arrival, sent_end, sent_elsewhere}
use Rattle.savi_segments.specs.Checkpoints.{end_of}
use Rattle.savi_segments.specs.Replay.{Run, base_in, has_ended_in, pieces_in, run_with, segments_of}
use Rattle.savi_segments.specs.Segments.{joined}
use Rattle.savi_segments.specs.Sent.{FitsOutputIn, before_last_drain, before_last_drain_in, sent_in}
use Rattle.savi_segments.specs.Unbroken.{unbroken, without_pauses}
use Rattle.savi_segments.proofs.OutputSteps.{said_if}
use Rattle.port_worker.specs.Drains.{with_failed}
use Rattle.port_worker.specs.Outputs.{IsOutput}
use Rattle.savi_segments.proofs.HowEnded.{shows}

pub record KeepsOutput (plan : Plan) (base : Base) (n : ℕ) (past now : List Row) : Type 0 where
  pub sent_same : sent plan base n now ≡ sent plan base n past
  pub ended_same : has_ended base (egress_pass plan n) now ≡ has_ended base (egress_pass plan n) past
  pub over_same : end_of base (egress_pass plan n) now ≡ end_of base (egress_pass plan n) past
  pub end_same : (rows : List Row) → output_end n (without_pauses (now ++ rows)) ≡ output_end n (without_pauses (past ++ rows))
  pub sure_same : (early : List Item) (text : List ℕ) → before_last_drain plan base n early text now ≡ before_last_drain plan base n early text past
  pub quiet : has_ended base (egress_pass plan n) past ≡ true → queue plan base n past ≡ [] → queue plan base n now ≡ []

pub keeps_same : (plan : Plan) (base : Base) (n : ℕ) (past now : List Row) → now ≡ past → KeepsOutput plan base n past now
keeps_same plan base n past now same = record {
  sent_same = ap (λ (l : List Row). sent plan base n l) same;
  ended_same = ap (λ (l : List Row). has_ended base (egress_pass plan n) l) same;
  over_same = ap (λ (l : List Row). end_of base (egress_pass plan n) l) same;
  end_same = λ rows. ap (λ (l : List Row). output_end n (without_pauses (l ++ rows))) same;
  sure_same = λ early text. ap (λ (l : List Row). before_last_drain plan base n early text l) same;
  quiet = λ ended none. ap (λ (l : List Row). queue plan base n l) same ∙ none;
}

pub keeps_then : (plan : Plan) (base : Base) (n : ℕ) (past mid now : List Row) → KeepsOutput plan base n past mid → KeepsOutput plan base n mid now → KeepsOutput plan base n past now
keeps_then plan base n past mid now one two = record {
  sent_same = two.sent_same ∙ one.sent_same;
  ended_same = two.ended_same ∙ one.ended_same;
  over_same = two.over_same ∙ one.over_same;
  end_same = λ rows. two.end_same rows ∙ one.end_same rows;
  sure_same = λ early text. two.sure_same early text ∙ one.sure_same early text;
  quiet = λ ended none. two.quiet (one.ended_same ∙ ended) (one.quiet ended none);
}

-- what is kept of an output in a segment is kept of it in all of them

fits_kept : (plan : Plan) (run now : Run) (n : ℕ) (before after : Option (List ℕ)) → sent_in plan n (segments_of now) ≡ sent_in plan n (segments_of run)
    → before_last_drain_in plan n (segments_of now) ≡ before_last_drain_in plan n (segments_of run) → output_end n (unbroken (segments_of now)) ≡ output_end n (unbroken (segments_of run))
    → FitsOutputIn plan before after n (segments_of run) → FitsOutputIn plan before after n (segments_of now)
fits_kept plan run now n before after items sure end fits =
    subst (λ (l : List Item). FitsOutput before after (capture_text (sent_items l)) (before_last_drain_in plan n (segments_of now)) (output_end n (unbroken (segments_of now)))) (sym items)
    (subst (λ (s : List ℕ). FitsOutput before after (capture_text (sent_items (sent_in plan n (segments_of run)))) s (output_end n (unbroken (segments_of now)))) (sym sure)
    (subst (λ (o : Option How). FitsOutput before after (capture_text (sent_items (sent_in plan n (segments_of run)))) (before_last_drain_in plan n (segments_of run)) o) (sym end) fits))

-- two runs tell the same of an output, and in the newer one nothing waits there where that is over
pub record KeepsIn (plan : Plan) (n : ℕ) (run now : Run) : Type 0 where
  pub sent_same : sent_in plan n (segments_of now) ≡ sent_in plan n (segments_of run)
  pub over_same : has_ended_in plan (egress_pass plan n) now ≡ has_ended_in plan (egress_pass plan n) run
  pub end_same : output_end n (unbroken (segments_of now)) ≡ output_end n (unbroken (segments_of run))
  pub sure_same : before_last_drain_in plan n (segments_of now) ≡ before_last_drain_in plan n (segments_of run)
  pub quiet : has_ended_in plan (egress_pass plan n) run ≡ true → queue plan (base_in plan run) n run.past ≡ [] → queue plan (base_in plan now) n now.past ≡ []

pub keeps_in : (plan : Plan) (run : Run) (n : ℕ) (now : List Row) → KeepsOutput plan (base_in plan run) n run.past now → KeepsIn plan n run (run_with run now)
keeps_in plan run n now keeps = record {
  sent_same = ap (λ (l : List Item). sent_in plan n run.closed ++ l) keeps.sent_same;
  over_same = ap is_some keeps.over_same;
  end_same = keeps.end_same (joined run.closed);
  sure_same = keeps.sure_same (sent_in plan n run.closed) (before_last_drain_in plan n run.closed);
  quiet = λ over none. keeps.quiet (shows (base_in plan run) run.past (egress_pass plan n) over) none;
}

pub keeps_pieces : (plan : Plan) (n : ℕ) (run now : Run) → KeepsIn plan n run now → pieces_in plan n now ≡ pieces_in plan n run
keeps_pieces plan n run now keeps = ap (λ (l : List Item). suc (length l)) keeps.sent_same

pub output_kept : {K : Type 0} (written : K → Option (List ℕ)) (faults : K → ℕ) (plan : Plan) (n : ℕ) (run now : Run) (old new : K) (known : Option ℕ) → KeepsIn plan n run now → IsOutput written faults plan run n old new known → IsOutput written faults plan now n old new known
output_kept written faults plan n run now old new None keeps was = record {
  running = keeps.over_same ∙ was.running;
  none = keeps.end_same ∙ was.none;
  took = subst (λ (l : List Item). TookPieces (written old) (written new) (pieces l) None) (sym keeps.sent_same) was.took;
  still = was.still;
}
output_kept written faults plan n run now old new (Some whole) keeps was = record {
  ended = keeps.over_same ∙ was.ended;
  failed = keeps.end_same ∙ was.failed;
  quiet = keeps.quiet was.ended was.quiet;
  took = subst (λ (l : List Item). TookPieces (written old) (written new) (pieces l) (Some whole)) (sym keeps.sent_same) was.took;
  fits = fits_kept plan run now n (written old) (written new) keeps.sent_same keeps.sure_same keeps.end_same was.fits;
  rose = was.rose;
}

-- within a segment

apart : (m n : ℕ) → m ≢ n → (m == n) ≡ false
apart m n other = grind (arith, nat_tests)

-- the end of another pass is none of this one
over_at : (paused here : Bool) (how : How) (before : Option How) → here ≡ false → (if paused then before else if here then Some how else before) ≡ before
over_at true here how before other = refl
over_at false true how before other = cc
over_at false false how before other = refl

over_other : (plan : Plan) (base : Base) (past : List Row) (who : Who) (how : How) (pass : ℕ) → pass_of plan who ≢ pass → end_of base pass (with_event plan base past (End who how)) ≡ end_of base pass past
over_other plan base past who how pass other = over_at (is_paused_reason how) (pass_of plan who == pass) how (end_of base pass past) (apart (pass_of plan who) pass other)

-- a drain of another port
pub queue_drain : (plan : Plan) (base : Base) (past : List Row) (port : Port) (count n : ℕ) → number_of port ≢ n → queue plan base n (with_event plan base past (Drain port count)) ≡ queue plan base n past
queue_drain plan base past port count n other = rw (apart (number_of port) n other) refl

pub keeps_drain : (plan : Plan) (base : Base) (past : List Row) (port : Port) (count n : ℕ) → number_of port ≢ n → KeepsOutput plan base n past (with_event plan base past (Drain port count))
keeps_drain plan base past port count n other = record {
  sent_same = sent_elsewhere plan base past port count n other;
  ended_same = refl;
  over_same = refl;
  end_same = λ rows. refl;
  sure_same = λ early text. rw (apart (number_of port) n other) refl;
  quiet = λ ended none. queue_drain plan base past port count n other ∙ none;
}

-- the end of the egress of another port
pub keeps_egress : (plan : Plan) (base : Base) (past : List Row) (port : Port) (how : How) (n : ℕ) → number_of port ≢ n → egress_pass plan (number_of port) ≢ egress_pass plan n → KeepsOutput plan base n past (with_event plan base past (End (Egress port) how))
keeps_egress plan base past port how n other pass = record {
  sent_same = sent_end plan base past (Egress port) how n;
  ended_same = ended_other plan base past (Egress port) how (egress_pass plan n) pass;
  over_same = over_other plan base past (Egress port) how (egress_pass plan n) pass;
  end_same = λ rows.
      said_if n (row_of plan base past (End (Egress port) how)) (without_pauses (past ++ rows)) (not (is_paused_reason how)) (rw (apart (number_of port) n other) refl);
  sure_same = λ early text. refl;
  quiet = λ ended none. empty_end plan base past (Egress port) how n none;
}

-- a write that failed at another port
pub queue_failed : (plan : Plan) (base : Base) (past : List Row) (port : Port) (n : ℕ) → number_of port ≢ n → queue plan base n (with_failed plan base port past) ≡ queue plan base n past
queue_failed plan base past port n other = rw (apart (number_of port) n other) refl

pub keeps_failed : (plan : Plan) (base : Base) (past : List Row) (port : Port) (n : ℕ) → number_of port ≢ n → egress_pass plan (number_of port) ≢ egress_pass plan n → KeepsOutput plan base n past (with_failed plan base port past)
keeps_failed plan base past port n other pass = keeps_egress plan base past port hows.Failed n other pass

-- the end of an input or of control
pub keeps_ingress : (plan : Plan) (base : Base) (past : List Row) (port : Port) (how : How) (n : ℕ) → pass_of plan (Ingress port) ≤ ticker_pass plan → KeepsOutput plan base n past (with_event plan base past (End (Ingress port) how))
keeps_ingress plan base past port how n low = record {
  sent_same = sent_end plan base past (Ingress port) how n;
  ended_same = ended_other plan base past (Ingress port) how (egress_pass plan n) (λ same. absurd (omega (arith, low, same)));
  over_same = over_other plan base past (Ingress port) how (egress_pass plan n) (λ same. absurd (omega (arith, low, same)));
  end_same = λ rows. said_if n (row_of plan base past (End (Ingress port) how)) (without_pauses (past ++ rows)) (not (is_paused_reason how)) refl;
  sure_same = λ early text. refl;
  quiet = λ ended none. none;
}

pub keeps_control : (plan : Plan) (base : Base) (past : List Row) (how : How) (n : ℕ) → KeepsOutput plan base n past (with_event plan base past (End Control how))
keeps_control plan base past how n = record {
  sent_same = sent_end plan base past Control how n;
  ended_same = ended_other plan base past Control how (egress_pass plan n) (λ same. absurd (omega (arith, same)));
  over_same = over_other plan base past Control how (egress_pass plan n) (λ same. absurd (omega (arith, same)));
  end_same = λ rows. said_if n (row_of plan base past (End Control how)) (without_pauses (past ++ rows)) (not (is_paused_reason how)) refl;
  sure_same = λ early text. refl;
  quiet = λ ended none. none;
}

pub keeps_ticker : (plan : Plan) (base : Base) (past : List Row) (how : How) (n : ℕ) → KeepsOutput plan base n past (with_event plan base past (End Ticker how))
keeps_ticker plan base past how n = record {
  sent_same = sent_end plan base past Ticker how n;
  ended_same = ended_other plan base past Ticker how (egress_pass plan n) (λ same. absurd (omega (arith, same)));
  over_same = over_other plan base past Ticker how (egress_pass plan n) (λ same. absurd (omega (arith, same)));
  end_same = λ rows. said_if n (row_of plan base past (End Ticker how)) (without_pauses (past ++ rows)) (not (is_paused_reason how)) refl;
  sure_same = λ early text. refl;
  quiet = λ ended none. none;
}

-- and of its own
pub end_here : (plan : Plan) (base : Base) (past : List Row) (port : Port) (how : How) → output_end (number_of port) (with_event plan base past (End (Egress port) how)) ≡ Some how
end_here plan base past port how = let same : (number_of port == number_of port) ≡ true = grind (arith, nat_tests) in rw same refl

-- an arrival, which joins no queue whose egress has ended

pub closed_arrival : (plan : Plan) (base : Base) (past : List Row) (port : Port) (arrival : Arrival) (k : ℕ) → k < length plan.ports → has_ended base (egress_pass plan (number_at plan k)) past ≡ true
    → queue plan base (number_at plan k) (with_event plan base past (event_of port arrival)) ≡ queue plan base (number_at plan k) past
closed_arrival plan base past port (arrivals.Frame stamp octets) k inside ended = nothing_joins_frame plan base past (number_at plan k) port stamp octets ended
closed_arrival plan base past port (arrivals.Long stamp len) k inside ended = nothing_joins_long plan base past (number_at plan k) port stamp len ended

over_arrival : (plan : Plan) (base : Base) (past : List Row) (port : Port) (arrival : Arrival) (pass : ℕ) → end_of base pass (with_event plan base past (event_of port arrival)) ≡ end_of base pass past
over_arrival plan base past port (arrivals.Frame stamp octets) pass = refl
over_arrival plan base past port (arrivals.Long stamp len) pass = refl

end_arrival : (plan : Plan) (base : Base) (past : List Row) (port : Port) (arrival : Arrival) (n : ℕ) (rows : List Row)
    → output_end n (without_pauses (with_event plan base past (event_of port arrival) ++ rows)) ≡ output_end n (without_pauses (past ++ rows))
end_arrival plan base past port (arrivals.Frame stamp octets) n rows = refl
end_arrival plan base past port (arrivals.Long stamp len) n rows = refl

sure_arrival : (plan : Plan) (base : Base) (past : List Row) (port : Port) (arrival : Arrival) (n : ℕ) (early : List Item) (text : List ℕ)
    → before_last_drain plan base n early text (with_event plan base past (event_of port arrival)) ≡ before_last_drain plan base n early text past
sure_arrival plan base past port (arrivals.Frame stamp octets) n early text = refl
sure_arrival plan base past port (arrivals.Long stamp len) n early text = refl

pub keeps_arrival : (plan : Plan) (base : Base) (past : List Row) (port : Port) (arrival : Arrival) (k : ℕ) → k < length plan.ports → KeepsOutput plan base (number_at plan k) past (with_event plan base past (event_of port arrival))
keeps_arrival plan base past port arrival k inside = record {
  sent_same = sent_arrival plan base past port arrival (number_at plan k);
  ended_same = ended_arrival plan base past port arrival (egress_pass plan (number_at plan k));
  over_same = over_arrival plan base past port arrival (egress_pass plan (number_at plan k));
  end_same = end_arrival plan base past port arrival (number_at plan k);
  sure_same = sure_arrival plan base past port arrival (number_at plan k);
  quiet = λ ended none. closed_arrival plan base past port arrival k inside ended ∙ none;
}
