-- How far the workers of a live session are, by the segments so far, the newest first: where the newest goes on, or is closed and
-- the next hasn't begun. Each holds also of segments that have gone on by entries of other passes.
use Rattle.std.specs.Prelude.{◌≡◌, ℕ, ◌≤◌, Bool, true, false, List, [], ◌++◌, reverse, Option, Some, None}
use Rattle.std.specs.List.{concat}
use Rattle.savi_kinds.specs.declared.plan.Plan.{Plan}
use Rattle.savi_kinds.specs.declared.plan.Format.{Format}
use Rattle.savi_kinds.specs.declared.entry.How.{How}
use Rattle.savi_kinds.specs.declared.entry.How.TheVariants as hows
use Rattle.savi_ends.specs.Faults.{Rose}
use Rattle.savi_ends.specs.Octets.{behind}
use Rattle.stream_io.specs.Calls.{AddsReadings}
use Rattle.parcel_ring.specs.Handed.{Handed}
use Rattle.hist_store.specs.Rows.{Row}
use Rattle.savi_history.specs.ControlInputs.{entered_lines, control_end}
use Rattle.savi_history.specs.PortInputs.{arrived, input_end}
use Rattle.savi_history.specs.PortOutputs.{output_end}
use Rattle.savi_segments.specs.Sent.{FitsRepliesIn, replies_in, sent_in}
use Rattle.savi_segments.specs.Unbroken.{unbroken}
use Rattle.port_reader.specs.Judging.{JudgesSo}
use Rattle.control_reader.specs.Heard.{HeardLine}
use Rattle.control_reader.specs.Answered.{AnswersSo}
use Rattle.live_session.specs.LiveOutputs.{output_text, sure_output}
use Rattle.live_session.specs.LiveRows.{EgressRow}
use Rattle.live_session.specs.Ticking.{Ticked}

-- the judge of a port, by what it took of its ring and what it keeps until there is room
abbrev pub InputStands : ℕ → List (List Row) → List Handed → Option Handed → Type 0
InputStands port segments taken kept = JudgesSo (arrived port (unbroken segments)) (input_end port (unbroken segments)) taken kept

-- what was written so far of an output, which was begun or not
abbrev pub text_so_far : Bool → List ℕ → List ℕ
text_so_far true text = text
text_so_far false text = []

module _ {K : Type 0} (written : K → Option (List ℕ)) (faults : K → ℕ) where
  -- Its sink took all that the segments sent, and no write failed; before it was begun nothing was sent, and nothing is sure.
  pub record Writes (format : Format) (plan : Plan) (port : ℕ) (segments : List (List Row)) (begun : Bool) (old new : K) : Type 0 where
    pub took : written new ≡ behind (written old) (text_so_far begun (output_text format (sent_in plan port segments)))
    pub unbegun : begun ≡ false → sent_in plan port segments ≡ []
    pub unsure : begun ≡ false → sure_output format plan port segments ≡ []
    pub still : faults new ≡ faults old

  -- the output goes on, or has ended so
  abbrev pub WritesOr : Option How → Format → Plan → ℕ → List (List Row) → Bool → K → K → Type 0
  WritesOr None format plan port segments begun old new = Writes format plan port segments begun old new
  WritesOr (Some how) format plan port segments begun old new = EgressRow written faults format plan port segments old new

  -- the output of a port, by its sink at the start of the session and now
  abbrev pub OutputStands : Format → Plan → ℕ → List (List Row) → Bool → K → K → Type 0
  OutputStands format plan port segments begun old new = WritesOr (output_end port (unbroken segments)) format plan port segments begun old new

  -- control's sink took the replies to all lines that were entered, and no write failed
  pub record Replies (plan : Plan) (segments : List (List Row)) (old new : K) : Type 0 where
    pub took : written new ≡ behind (written old) (concat (replies_in plan segments))
    pub still : faults new ≡ faults old

  -- by how control ended, if it did
  abbrev pub RepliesOr : Option How → Plan → List (List Row) → K → K → Type 0
  RepliesOr (Some hows.Unwritten) plan segments old new =
      FitsRepliesIn plan (written old) (written new) segments × (faults old ≤ faults new) × Rose (faults old) (faults new)
  RepliesOr (Some hows.End) plan segments old new = Replies plan segments old new
  RepliesOr (Some hows.Quit) plan segments old new = Replies plan segments old new
  RepliesOr (Some (hows.Malformed at)) plan segments old new = Replies plan segments old new
  RepliesOr (Some (hows.Overlong at)) plan segments old new = Replies plan segments old new
  RepliesOr (Some hows.Failed) plan segments old new = Replies plan segments old new
  RepliesOr (Some hows.Paused) plan segments old new = ⊥
  RepliesOr None plan segments old new = Replies plan segments old new

  -- control, by what was taken of its ring and is kept until there is room, and by its sink
  pub record ControlStands (plan : Plan) (segments : List (List Row)) (taken : List HeardLine) (kept : Option HeardLine) (old new : K) : Type 0 where
    pub answers : AnswersSo (entered_lines (unbroken segments)) (control_end (unbroken segments)) taken kept
    pub replies : RepliesOr (control_end (unbroken segments)) plan segments old new

-- where there is no control, no line was entered, and it has ended or hasn't
pub record NoControlStands (segments : List (List Row)) : Type 0 where
  pub none : entered_lines (unbroken segments) ≡ []
  pub ended : (how : How) → control_end (unbroken segments) ≡ Some how → how ≡ hows.End

-- the ticker, by its clock at the start of the session and now
pub record TickerStands {C : Type 0} (readings : C → Option (List ℕ)) (plan : Plan) (segments : List (List Row)) (old new : C) : Type 0 where
  pub latest : List ℕ
  pub reads : AddsReadings (readings old) (readings new) (reverse latest)
  pub ticked : Ticked plan segments latest
