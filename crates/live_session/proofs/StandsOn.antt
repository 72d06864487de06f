-- What stands of a worker by the segments so far stands on: at the start of a session, while others go on in the newest
-- segment, where the next one begins, and over a segment before which the worker's pass had ended for good.
use Rattle.std.proofs.Common.{◌≡◌, ℕ, Bool, true, false, List, [], ◌∷◌, ◌++◌, refl, sym, ap, ◌∙◌, append-nil, Option, Some, None}
use Rattle.std.proofs.lemmas.List.Elements.{All-nil}
use Rattle.savi_kinds.specs.declared.plan.Plan.{Plan}
use Rattle.savi_kinds.specs.declared.plan.Format.{Format}
use Rattle.savi_kinds.specs.declared.entry.How.{How}
use Rattle.savi_kinds.specs.Arrivals.{Arrival}
use Rattle.savi_ends.specs.Octets.{behind}
use Rattle.stream_io.proofs.ClockReadings.{adds_none}
use Rattle.cli_lang.specs.Arrivals.{Line}
use Rattle.parcel_ring.specs.Handed.{Handed}
use Rattle.hist_store.specs.Rows.{Row}
use Rattle.savi_history.specs.ControlInputs.{control_end, entered_lines, is_quit}
use Rattle.savi_history.specs.Legal.{IsLegal}
use Rattle.savi_history.specs.Passes.{control_pass, egress_pass, has_ended, place_of, ticker_pass}
use Rattle.savi_history.specs.PortInputs.{arrived, input_end}
use Rattle.savi_history.specs.PortOutputs.{output_end}
use Rattle.savi_history.specs.Queues.{Item}
use Rattle.savi_segments.specs.Segments.{base_after}
use Rattle.savi_segments.specs.Sent.{replies_in, sent_in}
use Rattle.savi_segments.specs.Unbroken.{unbroken}
use Rattle.savi_segments.proofs.Adjoined.{said_over}
use Rattle.core_keep.specs.Seen.{IsLater}
use Rattle.control_reader.specs.Heard.{HeardLine}
use Rattle.live_session.specs.LiveOutputs.{sure_output}
use Rattle.live_session.specs.Standing.{ControlStands, InputStands, NoControlStands, OutputStands, TickerStands}
use Rattle.live_session.proofs.Adding.{arrived_adds, control_adds, input_adds, lines_add, output_adds}
use Rattle.live_session.proofs.Same.{SameControl, SameInput, SameOutput, control_same, input_same, no_control_same, output_same}
use Rattle.live_session.proofs.Stays.{arrived_stays, control_stays, input_stays, lines_stay, output_stays, over_later, replies_stay, sent_stays, sure_stays}
use Rattle.live_session.proofs.TicksStay.{ticks_later, ticks_next}

-- Others go on in the newest segment.
module _ (plan : Plan) (before : List (List Row)) (found now : List Row) (legal : IsLegal plan (base_after plan before) now) where
  pub same_input : (port : ℕ) → IsLater (place_of plan port) found now → SameInput port (found ∷ before) (now ∷ before)
  same_input port later = record {
    arrivals = arrived_adds found before port
        ∙ ap (λ (l : List Arrival). arrived port (unbroken before) ++ l) (arrived_stays plan (base_after plan before) found now legal port later)
        ∙ sym (arrived_adds now before port);
    ended = input_adds found before port
        ∙ ap (λ (o : Option How). said_over o (input_end port (unbroken before))) (input_stays plan (base_after plan before) found now legal port later)
        ∙ sym (input_adds now before port);
  }

  pub same_output : (format : Format) (port : ℕ) → IsLater (egress_pass plan port) found now → SameOutput format plan port (found ∷ before) (now ∷ before)
  same_output format port later = record {
    items = ap (λ (l : List Item). sent_in plan port before ++ l) (sent_stays plan (base_after plan before) found now legal port later);
    sure = sure_stays plan (base_after plan before) found now legal format port (sent_in plan port before) (sure_output format plan port before) later;
    ended = output_adds found before port
        ∙ ap (λ (o : Option How). said_over o (output_end port (unbroken before))) (output_stays plan (base_after plan before) found now legal port later)
        ∙ sym (output_adds now before port);
  }

  pub same_control : IsLater (control_pass plan) found now → SameControl plan (found ∷ before) (now ∷ before)
  same_control later = record {
    lines = lines_add found before
        ∙ ap (λ (l : List Line). entered_lines (unbroken before) ++ l) (lines_stay plan (base_after plan before) found now legal later)
        ∙ sym (lines_add now before);
    told = ap (λ (l : List (List ℕ)). replies_in plan before ++ l) (replies_stay plan (base_after plan before) found now legal later);
    ended = control_adds found before
        ∙ ap (λ (o : Option How). said_over o (control_end (unbroken before))) (control_stays plan (base_after plan before) found now legal later)
        ∙ sym (control_adds now before);
  }

  pub ticker_later : {C : Type 0} (readings : C → Option (List ℕ)) (old new : C) → IsLater (ticker_pass plan) found now
      → TickerStands readings plan (found ∷ before) old new → TickerStands readings plan (now ∷ before) old new
  ticker_later readings old new later stands = record {
    latest = stands.latest;
    reads = stands.reads;
    ticked = ticks_later plan before found now stands.latest legal later stands.ticked;
  }

-- The next segment begins.
module _ (plan : Plan) (before : List (List Row)) where
  pub next_input : (port : ℕ) → SameInput port before ([] ∷ before)
  next_input port = record { arrivals = refl; ended = refl }

  pub next_output : (format : Format) (port : ℕ) → SameOutput format plan port before ([] ∷ before)
  next_output format port = record { items = sym (append-nil (sent_in plan port before)); sure = refl; ended = refl }

  pub next_control : SameControl plan before ([] ∷ before)
  next_control = record { lines = refl; told = sym (append-nil (replies_in plan before)); ended = refl }

  pub ticker_next : {C : Type 0} (readings : C → Option (List ℕ)) (old new : C) → TickerStands readings plan before old new → TickerStands readings plan ([] ∷ before) old new
  ticker_next readings old new stands = record { latest = stands.latest; reads = stands.reads; ticked = ticks_next plan before stands.latest stands.ticked }

-- Over a segment before which the pass had ended.
module _ (plan : Plan) (before : List (List Row)) (segment : List Row) (legal : IsLegal plan (base_after plan before) segment) where
  over : (pass : ℕ) → has_ended (base_after plan before) pass [] ≡ true → IsLater pass [] segment
  over pass ended = over_later plan (base_after plan before) pass segment legal ended

  pub input_over : (port : ℕ) (taken : List Handed) (kept : Option Handed) → has_ended (base_after plan before) (place_of plan port) [] ≡ true → InputStands port before taken kept → InputStands port (segment ∷ before) taken kept
  input_over port taken kept ended stands =
      input_same port ([] ∷ before) (segment ∷ before) taken kept (same_input plan before [] segment legal port (over (place_of plan port) ended))
      (input_same port before ([] ∷ before) taken kept (next_input plan before port) stands)

  pub control_over : {K : Type 0} (written : K → Option (List ℕ)) (faults : K → ℕ) (taken : List HeardLine) (kept : Option HeardLine) (old new : K) → has_ended (base_after plan before) (control_pass plan) [] ≡ true
      → ControlStands written faults plan before taken kept old new → ControlStands written faults plan (segment ∷ before) taken kept old new
  control_over written faults taken kept old new ended stands =
      control_same written faults plan ([] ∷ before) (segment ∷ before) (same_control plan before [] segment legal (over (control_pass plan) ended)) old new taken kept
      (control_same written faults plan before ([] ∷ before) (next_control plan before) old new taken kept stands)

  pub no_control_over : has_ended (base_after plan before) (control_pass plan) [] ≡ true → NoControlStands before → NoControlStands (segment ∷ before)
  no_control_over ended stands =
      no_control_same plan ([] ∷ before) (segment ∷ before) (same_control plan before [] segment legal (over (control_pass plan) ended))
      (no_control_same plan before ([] ∷ before) (next_control plan before) stands)

  pub output_over : {K : Type 0} (written : K → Option (List ℕ)) (faults : K → ℕ) (format : Format) (port : ℕ) (begun : Bool) (old new : K) → has_ended (base_after plan before) (egress_pass plan port) [] ≡ true
      → OutputStands written faults format plan port before begun old new → OutputStands written faults format plan port (segment ∷ before) begun old new
  output_over written faults format port begun old new ended stands =
      output_same written faults format plan port ([] ∷ before) (segment ∷ before) (same_output plan before [] segment legal format port (over (egress_pass plan port) ended)) old new begun
      (output_same written faults format plan port before ([] ∷ before) (next_output plan before format port) old new begun stands)

  pub ticker_over : {C : Type 0} (readings : C → Option (List ℕ)) (old new : C) → has_ended (base_after plan before) (ticker_pass plan) [] ≡ true
      → TickerStands readings plan before old new → TickerStands readings plan (segment ∷ before) old new
  ticker_over readings old new ended stands =
      ticker_later plan before [] segment legal readings old new (over (ticker_pass plan) ended) (ticker_next plan before readings old new stands)

-- At the start of a session nothing was taken, written or read.

pub behind_none : (o : Option (List ℕ)) → o ≡ behind o []
behind_none None = refl
behind_none (Some written) = ap (λ (l : List ℕ). Some l) (sym (append-nil written))

none_yet : (how : How) → None ≡ Some how → ⊥
none_yet how e = cc

pub input_starts : (port : ℕ) → InputStands port [] [] None
input_starts port = refl

pub output_starts : {K : Type 0} (written : K → Option (List ℕ)) (faults : K → ℕ) (format : Format) (plan : Plan) (port : ℕ) (sink : K) → OutputStands written faults format plan port [] false sink sink
output_starts written faults format plan port sink = record { took = behind_none (written sink); unbegun = λ is. refl; unsure = λ is. refl; still = refl }

pub control_starts : {K : Type 0} (written : K → Option (List ℕ)) (faults : K → ℕ) (plan : Plan) (sink : K) → ControlStands written faults plan [] [] None sink sink
control_starts written faults plan sink = record {
  answers = (All-nil (λ line. is_quit line ≡ false), refl);
  replies = record { took = behind_none (written sink); still = refl };
}

pub no_control_starts : NoControlStands []
no_control_starts = record { none = refl; ended = λ how is. absurd (none_yet how is) }

pub ticker_starts : {C : Type 0} (readings : C → Option (List ℕ)) (plan : Plan) (clock : C) → TickerStands readings plan [] clock clock
ticker_starts readings plan clock = record { latest = []; reads = adds_none (readings clock); ticked = tt }
