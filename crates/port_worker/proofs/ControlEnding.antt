-- Control behind the last turn.
use Rattle.std.proofs.Common.{◌≡◌, ◌≢◌, ℕ, List, [], ◌++◌, refl, sym, ap, ◌∙◌, subst, append-nil, Option, Some, None}
use Rattle.savi_kinds.specs.declared.plan.Plan.{Plan}
use Rattle.savi_kinds.specs.declared.entry.How.{How}
use Rattle.savi_kinds.specs.declared.entry.How.TheVariants as hows
use Rattle.savi_kinds.specs.Arrivals.{Input}
use Rattle.savi_ends.specs.Faults.{Rose}
use Rattle.cli_lang.specs.Arrivals as control
use Rattle.hist_store.specs.Rows.{Row}
use Rattle.savi_history.specs.ControlInputs.{control_end, entered_lines}
use Rattle.savi_history.specs.EnteredLines.{AreEntered}
use Rattle.savi_history.specs.Passes.{control_pass}
use Rattle.savi_history.specs.PortOutputs.{TookPieces}
use Rattle.savi_history.specs.Replay.{Stops}
use Rattle.savi_history.specs.Turns.{Turn, control_turns}
use Rattle.savi_segments.specs.Replay.{Run, replayed, segments_of}
use Rattle.savi_segments.specs.Segments.{IsWholeSession}
use Rattle.savi_segments.specs.Sent.{FitsRepliesIn, replies_in}
use Rattle.savi_segments.specs.Unbroken.{unbroken}
use Rattle.savi_segments.proofs.ForGood.{AreOf}
use Rattle.savi_segments.proofs.EnteringLines.{lines_entered}
use Rattle.savi_segments.proofs.FittingReplies.{all_replies_fit}
use Rattle.savi_segments.proofs.Reaching.{Done}
use Rattle.port_worker.specs.declared.control_ends.ControlEnds.{ControlEnds}
use Rattle.port_worker.specs.declared.control_ends.LineAhead.{LineAhead}
use Rattle.port_worker.specs.declared.control_ends.LineAhead.TheVariants as ahead
use Rattle.port_worker.specs.ControlOutputs.{AreReplies}
use Rattle.port_worker.specs.ControlServed.{IsControlInputOf, IsControlServed, ServesControl}
use Rattle.port_worker.specs.LineInputs.{IsControlKnown, IsLineKnown, control_moment, line_moment_ahead}
use Rattle.port_worker.proofs.ControlFitting.{fits_control}
use Rattle.port_worker.proofs.ControlProgress.{HeardOut, control_head, line_head}
use Rattle.port_worker.proofs.ControlRunning.{ControlRuns, ControlStands, LineProgress}
use Rattle.port_worker.proofs.ControlStepping.{line_done_at_none}
use Rattle.port_worker.proofs.RowsHeld.{ControlKept, rows_of}

unknown : (a : LineAhead) → IsLineKnown a → a ≡ ahead.Unread → ⊥
unknown a known unread = subst IsLineKnown unread known

pub done_at : {S K C : Type 0} (c : ControlEnds S K C) → IsLineKnown c.ahead → line_moment_ahead c.ahead ≡ None → c.ahead ≡ ahead.Done
done_at c known none = line_done_at_none c.ahead (unknown c.ahead known) none

pub control_done : {S K C : Type 0} (ends : Option (ControlEnds S K C)) → IsControlKnown ends → control_moment ends ≡ None → control_head ends ≡ Done
control_done None known none = refl
control_done (Some c) known none = ap (λ (a : LineAhead). line_head c.buf a) (done_at c known none)

took_of : {K : Type 0} (written : K → Option (List ℕ)) (sink_faults : K → ℕ) (plan : Plan) (run now : Run) (start sink : K) (known : Option ℕ) → ControlKept plan run now → AreReplies written sink_faults plan run start sink known → TookPieces (written start) (written sink) (replies_in plan (segments_of now)) known
took_of written sink_faults plan run now start sink None same was = subst (λ (l : List (List ℕ)). TookPieces (written start) (written sink) l None) (sym same.replies_same) was.took
took_of written sink_faults plan run now start sink (Some whole) same was = subst (λ (l : List (List ℕ)). TookPieces (written start) (written sink) l (Some whole)) (sym same.replies_same) was.took

unwritten_of : {K : Type 0} (written : K → Option (List ℕ)) (sink_faults : K → ℕ) (plan : Plan) (run : Run) (start sink : K) (known : Option ℕ) → AreReplies written sink_faults plan run start sink known → control_end (rows_of run) ≡ Some hows.Unwritten → Rose (sink_faults start) (sink_faults sink)
unwritten_of written sink_faults plan run start sink None was is = absurd (was.none is)
unwritten_of written sink_faults plan run start sink (Some whole) was is = was.rose

done_apart : (a : LineAhead) → a ≡ ahead.Done → a ≢ ahead.Failed
done_apart a done failed = cc

still_of : {K : Type 0} (written : K → Option (List ℕ)) (sink_faults : K → ℕ) (plan : Plan) (run : Run) (start sink : K) (known : Option ℕ) → AreReplies written sink_faults plan run start sink known → control_end (rows_of run) ≢ Some hows.Unwritten → sink_faults sink ≡ sink_faults start
still_of written sink_faults plan run start sink None was other = was.still
still_of written sink_faults plan run start sink (Some whole) was other = absurd (other was.failed)

module _ {S K C : Type 0} (left : S → Option (List ℕ)) (written : K → Option (List ℕ)) (source_faults : S → ℕ) (sink_faults : K → ℕ) (plan : Plan) (run : Run) (stop : Option ℕ) where
  -- Control's whole input, and what a closed replay of it was to control's ends.
  pub record ControlOver (first ends : Option (ControlEnds S K C)) (taken : List Turn) : Type 0 where
    pub lines : Option control.Input
    pub rest : List Turn
    pub of : AreOf plan (control_pass plan) rest
    pub split : taken ++ rest ≡ control_turns lines
    pub serves : (now : Run) (inputs : List Input) (stops : Stops) → stops.control ≡ stop → ControlKept plan run now → IsWholeSession plan (segments_of now) → segments_of now ≡ replayed plan lines inputs stops
        → ServesControl left written source_faults sink_faults plan (segments_of now) first ends lines stop

  module _ (start c : ControlEnds S K C) (taken : List Turn) (runs : ControlRuns left written source_faults sink_faults plan run stop start c taken) (out : HeardOut left plan (rows_of run) start c taken) (done : c.ahead ≡ ahead.Done) where
    serves_lines : (now : Run) (inputs : List Input) (stops : Stops) → stops.control ≡ stop → ControlKept plan run now → IsWholeSession plan (segments_of now) → segments_of now ≡ replayed plan (Some out.input) inputs stops
        → IsControlServed left written source_faults sink_faults plan (segments_of now) out.input stop start.ends c.ends
    serves_lines now inputs stops stop_is same session now_is =
        let replay = replayed plan (Some out.input) inputs stops in
        let session_so : IsWholeSession plan replay = subst (λ (segments : List (List Row)). IsWholeSession plan segments) now_is session in
        let entered : AreEntered out.input (entered_lines (rows_of now)) (control_end (rows_of now)) =
        subst (λ (segments : List (List Row)). AreEntered out.input (entered_lines (unbroken segments)) (control_end (unbroken segments))) (sym now_is) (lines_entered plan out.input inputs stops out.readable session_so.legal) in
        let came : IsControlInputOf (left start.ends.source) (left c.ends.source) (control_end (rows_of now)) out.input.arrivals out.input.ending =
        subst (λ (e : Option How). IsControlInputOf (left start.ends.source) (left c.ends.source) e out.input.arrivals out.input.ending) (sym same.end_same) out.came in
        let took : TookPieces (written start.ends.sink) (written c.ends.sink) (replies_in plan (segments_of now)) stop = took_of written sink_faults plan run now start.ends.sink c.ends.sink stop same runs.replied in
        let took_so : TookPieces (written start.ends.sink) (written c.ends.sink) (replies_in plan replay) stops.control =
        subst (λ (o : Option ℕ). TookPieces (written start.ends.sink) (written c.ends.sink) (replies_in plan replay) o) (sym stop_is)
        (subst (λ (segments : List (List Row)). TookPieces (written start.ends.sink) (written c.ends.sink) (replies_in plan segments) stop) now_is took) in
        record {
          used = runs.used;
          gave = came;
          fits = fits_control (left start.ends.source) (left c.ends.source) out.input (entered_lines (rows_of now)) (control_end (rows_of now)) entered came;
          near = λ how at is. out.near how at (sym same.end_same ∙ is);
          took = took;
          fits_out = subst (λ (segments : List (List Row)). FitsRepliesIn plan (written start.ends.sink) (written c.ends.sink) segments) (sym now_is)
              (all_replies_fit plan (Some out.input) inputs stops (written start.ends.sink) (written c.ends.sink) out.readable session_so took_so);
          source = runs.source;
          sink = runs.sink;
          broken = λ is. runs.broken (sym same.end_same ∙ is);
          still = λ others. runs.still (done_apart c.ahead done) (λ is. others (same.end_same ∙ is));
          still_out = λ others. still_of written sink_faults plan run start.ends.sink c.ends.sink stop runs.replied (λ is. others (same.end_same ∙ is));
          unwritten = λ is. unwritten_of written sink_faults plan run start.ends.sink c.ends.sink stop runs.replied (sym same.end_same ∙ is);
        }

  pub control_over : (first ends : Option (ControlEnds S K C)) (taken : List Turn) → IsControlKnown ends → control_moment ends ≡ None → ControlStands left written source_faults sink_faults plan run stop first ends taken → ControlOver first ends taken
  control_over None None taken known none stands = record {
    lines = None;
    rest = [];
    of = tt;
    split = append-nil taken ∙ stands.0;
    serves = λ now inputs stops stop_is same session now_is. tt;
  }
  control_over None (Some c) taken known none stands = absurd stands
  control_over (Some start) None taken known none stands = absurd stands
  control_over (Some start) (Some c) taken known none stands =
      let out : HeardOut left plan (rows_of run) start c taken = subst (λ (a : LineAhead). LineProgress left plan (rows_of run) start c taken a) (done_at c known none) stands.progress in
      record {
        lines = Some out.input;
        rest = out.rest;
        of = out.of;
        split = out.split;
        serves = λ now inputs stops stop_is same session now_is. serves_lines start c taken stands out (done_at c known none) now inputs stops stop_is same session now_is;
      }
