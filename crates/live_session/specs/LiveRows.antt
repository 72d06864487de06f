-- What each worker of a live session leaves of its ends, by the segments of the history, the newest first, each with its
-- newest row first. Each holds once the worker's pass has ended for good, and of all segments that come behind.
use Rattle.std.specs.Prelude.{◌≡◌, ◌≢◌, ℕ, ◌≤◌, List, [], reverse, Option, Some}
use Rattle.savi_kinds.specs.declared.plan.Plan.{Plan}
use Rattle.savi_kinds.specs.declared.plan.Format.{Format}
use Rattle.savi_kinds.specs.declared.entry.How.{How}
use Rattle.savi_kinds.specs.declared.entry.How.TheVariants as hows
use Rattle.savi_ends.specs.declared.world.Ends.{Ends}
use Rattle.savi_ends.specs.Faults.{Rose}
use Rattle.stream_io.specs.Calls.{AddsReadings}
use Rattle.hist_store.specs.Rows.{Row}
use Rattle.savi_history.specs.ControlInputs.{entered_lines, control_end}
use Rattle.savi_history.specs.PortInputs.{arrived, input_end}
use Rattle.savi_history.specs.PortOutputs.{output_end}
use Rattle.savi_segments.specs.Sent.{FitsRepliesIn}
use Rattle.savi_segments.specs.Unbroken.{unbroken}
use Rattle.port_reader.specs.Judging.{EnteredRow}
use Rattle.control_reader.specs.Rows.{SourceRow}
use Rattle.live_session.specs.LiveOutputs.{FitsOutputOf}
use Rattle.live_session.specs.Ticking.{ticker_end, Ticked}

-- The source and the clock of a port: all that its source gave up came to the port's judge, and the segments hold all of its
-- arrivals, each once and in order; the input ended there as it ended at the source.
abbrev pub IngressRow : {S C : Type 0} → (S → Option (List ℕ)) → (S → ℕ) → (C → Option (List ℕ)) → Format → ℕ → List (List Row)
    → S → S → C → C → Type 0
IngressRow left faults readings format port segments old_source new_source old_clock new_clock =
    EnteredRow left faults readings format (arrived port (unbroken segments)) (input_end port (unbroken segments)) old_source new_source old_clock new_clock

-- The sink of a port took what the segments send there. It ended by a failed write exactly where its own faults rose.
pub record EgressRow {K : Type 0} (written : K → Option (List ℕ)) (faults : K → ℕ)
    (format : Format) (plan : Plan) (port : ℕ) (segments : List (List Row)) (old new : K) : Type 0 where
  pub fits : FitsOutputOf format plan (written old) (written new) port segments
  pub later : faults old ≤ faults new
  pub broken : output_end port (unbroken segments) ≡ Some hows.Failed → Rose (faults old) (faults new)
  pub still : output_end port (unbroken segments) ≢ Some hows.Failed → faults new ≡ faults old

-- The ends of control: what its source gave up are the lines that the segments hold, stamped by its clock, and its sink took
-- the replies to them. It ended by a reply that wasn't written exactly where its sink's faults rose.
pub record ControlRow {S K C : Type 0} (left : S → Option (List ℕ)) (written : K → Option (List ℕ)) (source_faults : S → ℕ)
    (sink_faults : K → ℕ) (readings : C → Option (List ℕ)) (plan : Plan) (segments : List (List Row)) (old new : Ends S K C) : Type 0 where
  pub ending : How
  pub ended : control_end (unbroken segments) ≡ Some ending
  pub source : SourceRow left source_faults readings (entered_lines (unbroken segments)) ending old.source new.source old.clock new.clock
  pub fits_out : FitsRepliesIn plan (written old.sink) (written new.sink) segments
  pub sink : sink_faults old.sink ≤ sink_faults new.sink
  pub unwritten : ending ≡ hows.Unwritten → Rose (sink_faults old.sink) (sink_faults new.sink)
  pub still_out : ending ≢ hows.Unwritten → sink_faults new.sink ≡ sink_faults old.sink

-- Where there is no control, no line was entered, and its end was made.
pub record NoControlRow (segments : List (List Row)) : Type 0 where
  pub none : entered_lines (unbroken segments) ≡ []
  pub ended : control_end (unbroken segments) ≡ Some hows.End

-- The ticker's clock: its readings made the ticks of the segments.
pub record TickerRow {C : Type 0} (readings : C → Option (List ℕ)) (plan : Plan) (segments : List (List Row)) (old new : C) : Type 0 where
  pub latest : List ℕ
  pub reads : AddsReadings (readings old) (readings new) (reverse latest)
  pub ticked : Ticked plan segments latest
  pub ended : ticker_end (unbroken segments) ≡ Some hows.End
