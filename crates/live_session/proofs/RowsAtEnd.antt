-- Where the segments are a whole session, what stands of each worker is the row of its ends.
use Rattle.std.proofs.Common.{◌≡◌, ◌≢◌, ℕ, ◌≤◌, Bool, true, List, refl, sym, ap, subst, ◌∙◌, arith, Option, Some, None}
use Rattle.std.specs.Option.{is_some}
use Rattle.std.proofs.lemmas.Bool.{false≢true}
use Rattle.savi_kinds.specs.declared.plan.Plan.{Plan}
use Rattle.savi_kinds.specs.declared.plan.Format.{Format}
use Rattle.savi_kinds.specs.declared.entry.How.{How}
use Rattle.savi_kinds.specs.declared.entry.How.TheVariants as hows
use Rattle.savi_ends.specs.declared.world.Ends.{Ends}
use Rattle.savi_ends.specs.Faults.{Rose}
use Rattle.parcel_ring.specs.Handed.{Handed}
use Rattle.hist_store.specs.Rows.{Row}
use Rattle.savi_history.specs.ControlInputs.{control_end, entered_lines}
use Rattle.savi_history.specs.ControlOutputs.{FitsReplies}
use Rattle.savi_history.specs.Passes.{control_pass, egress_pass, has_port, place_of, ticker_pass}
use Rattle.savi_history.specs.PortInputs.{arrived, input_end}
use Rattle.savi_history.specs.PortOutputs.{output_end}
use Rattle.savi_segments.specs.Segments.{IsWholeSession}
use Rattle.savi_segments.specs.Sent.{replies_in}
use Rattle.savi_segments.specs.Unbroken.{unbroken}
use Rattle.savi_segments.proofs.HowEnded.{all_said, control_says, egress_below, input_says, output_says, place_below}
use Rattle.port_reader.specs.Judging.{EnteredRow, JudgesSo}
use Rattle.control_reader.specs.Answered.{AnswersSo}
use Rattle.control_reader.specs.Heard.{HeardLine}
use Rattle.control_reader.specs.Rows.{SourceRow}
use Rattle.live_session.specs.LiveRows.{ControlRow, EgressRow, IngressRow, NoControlRow, TickerRow}
use Rattle.live_session.specs.Standing.{ControlStands, InputStands, NoControlStands, OutputStands, RepliesOr, TickerStands, WritesOr}
use Rattle.live_session.specs.Ticking.{ticker_end}
use Rattle.live_session.proofs.TickerEnds.{ticker_below, ticker_ends_so, ticker_says}

-- there is an end, and it is so
abbrev Ended : Option How → Type 0
Ended ended = (how : How) × (ended ≡ Some how)

ended_of : (ended : Option How) → is_some ended ≡ true → Ended ended
ended_of None is = absurd (false≢true is)
ended_of (Some how) is = (how, refl)

module _ (plan : Plan) (segments : List (List Row)) (whole : IsWholeSession plan segments) where
  input_ended : (port : ℕ) → has_port plan port ≡ true → Ended (input_end port (unbroken segments))
  input_ended port known =
      ended_of (input_end port (unbroken segments)) (all_said plan (place_of plan port) (input_end port) (input_says plan port known) (place_below plan port known) segments whole)

  output_ended : (port : ℕ) → has_port plan port ≡ true → Ended (output_end port (unbroken segments))
  output_ended port known =
      ended_of (output_end port (unbroken segments)) (all_said plan (egress_pass plan port) (output_end port) (output_says plan port known) (egress_below plan port known) segments whole)

  control_ended : Ended (control_end (unbroken segments))
  control_ended = ended_of (control_end (unbroken segments)) (all_said plan (control_pass plan) control_end (control_says plan) (omega arith) segments whole)

  ticker_ended : Ended (ticker_end (unbroken segments))
  ticker_ended = ended_of (ticker_end (unbroken segments)) (all_said plan (ticker_pass plan) ticker_end (ticker_says plan) (ticker_below plan) segments whole)

  -- A port's source, by what its reader and its judge leave together (`meet`).
  pub ingress_row : {S C : Type 0} (left : S → Option (List ℕ)) (faults : S → ℕ) (readings : C → Option (List ℕ)) (format : Format) (port : ℕ) (taken : List Handed) (kept : Option Handed) (old new : S) (clock later : C) → has_port plan port ≡ true
      → ((ending : How) → JudgesSo (arrived port (unbroken segments)) (Some ending) taken kept → EnteredRow left faults readings format (arrived port (unbroken segments)) (Some ending) old new clock later)
      → InputStands port segments taken kept → IngressRow left faults readings format port segments old new clock later
  ingress_row left faults readings format port taken kept old new clock later known meet stands =
      let ended = input_ended port known in
      let judged : JudgesSo (arrived port (unbroken segments)) (Some ended.0) taken kept =
      subst (λ (o : Option How). JudgesSo (arrived port (unbroken segments)) o taken kept) ended.1 stands in
      subst (λ (o : Option How). EnteredRow left faults readings format (arrived port (unbroken segments)) o old new clock later) (sym ended.1) (meet ended.0 judged)

  pub egress_row : {K : Type 0} (written : K → Option (List ℕ)) (faults : K → ℕ) (format : Format) (port : ℕ) (begun : Bool) (old new : K) → has_port plan port ≡ true
      → OutputStands written faults format plan port segments begun old new → EgressRow written faults format plan port segments old new
  egress_row written faults format port begun old new known stands =
      subst (λ (o : Option How). WritesOr written faults o format plan port segments begun old new) (output_ended port known).1 stands

  module _ {K : Type 0} (written : K → Option (List ℕ)) (faults : K → ℕ) (old new : K) where
    -- what control's sink took, by how control ended
    record SinkRow (ending : How) : Type 0 where
      fits : FitsReplies (written old) (written new) (replies_in plan segments) (Some ending)
      later : faults old ≤ faults new
      broken : ending ≡ hows.Unwritten → Rose (faults old) (faults new)
      still : ending ≢ hows.Unwritten → faults new ≡ faults old

    answered : (ending : How) → ending ≢ hows.Unwritten → FitsReplies (written old) (written new) (replies_in plan segments) (Some ending) → faults new ≡ faults old → SinkRow ending
    answered ending other wrote same = record { fits = wrote; later = omega (arith, same); broken = λ is. absurd (other is); still = λ is. same }

    sink_row : (ending : How) → control_end (unbroken segments) ≡ Some ending → RepliesOr written faults (Some ending) plan segments old new → SinkRow ending
    sink_row hows.End is replies = answered hows.End (λ e. cc) replies.took replies.still
    sink_row hows.Quit is replies = answered hows.Quit (λ e. cc) replies.took replies.still
    sink_row (hows.Malformed at) is replies = answered (hows.Malformed at) (λ e. cc) replies.took replies.still
    sink_row (hows.Overlong at) is replies = answered (hows.Overlong at) (λ e. cc) replies.took replies.still
    sink_row hows.Failed is replies = answered hows.Failed (λ e. cc) replies.took replies.still
    sink_row hows.Unwritten is lost = record {
      fits = subst (λ (o : Option How). FitsReplies (written old) (written new) (replies_in plan segments) o) is lost.0;
      later = lost.1;
      broken = λ so. lost.2;
      still = λ other. absurd (other refl);
    }
    sink_row hows.Paused is never = absurd never

  -- Control's ends, by what its reader and who answers it leave together (`meet`).
  pub control_row : {S K C : Type 0} (left : S → Option (List ℕ)) (written : K → Option (List ℕ)) (source_faults : S → ℕ) (sink_faults : K → ℕ) (readings : C → Option (List ℕ)) (taken : List HeardLine) (kept : Option HeardLine) (old new : Ends S K C)
      → ((ending : How) → AnswersSo (entered_lines (unbroken segments)) (Some ending) taken kept
      → SourceRow left source_faults readings (entered_lines (unbroken segments)) ending old.source new.source old.clock new.clock)
      → ControlStands written sink_faults plan segments taken kept old.sink new.sink → ControlRow left written source_faults sink_faults readings plan segments old new
  control_row left written source_faults sink_faults readings taken kept old new meet stands =
      let last = control_ended in
      let answers : AnswersSo (entered_lines (unbroken segments)) (Some last.0) taken kept =
      subst (λ (o : Option How). AnswersSo (entered_lines (unbroken segments)) o taken kept) last.1 stands.answers in
      let replied = sink_row written sink_faults old.sink new.sink last.0 last.1 (subst (λ (o : Option How). RepliesOr written sink_faults o plan segments old.sink new.sink) last.1 stands.replies) in
      record {
        ending = last.0;
        ended = last.1;
        source = meet last.0 answers;
        fits_out = subst (λ (o : Option How). FitsReplies (written old.sink) (written new.sink) (replies_in plan segments) o) (sym last.1) replied.fits;
        sink = replied.later;
        unwritten = replied.broken;
        still_out = replied.still;
      }

  pub no_control_row : NoControlStands segments → NoControlRow segments
  no_control_row stands =
      let last = control_ended in
      record { none = stands.none; ended = last.1 ∙ ap (λ (how : How). Some how) (stands.ended last.0 last.1) }

  pub ticker_row : {C : Type 0} (readings : C → Option (List ℕ)) (old new : C) → TickerStands readings plan segments old new → TickerRow readings plan segments old new
  ticker_row readings old new stands =
      let last = ticker_ended in
      record {
        latest = stands.latest;
        reads = stands.reads;
        ticked = stands.ticked;
        ended = last.1 ∙ ap (λ (how : How). Some how) (ticker_ends_so plan segments whole.legal last.0 last.1);
      }
