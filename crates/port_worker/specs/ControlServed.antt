-- What a replay was to the ends of control: what its source gave up, and what its sink took.
use Rattle.std.specs.Prelude.{◌≡◌, ◌≢◌, ℕ, ◌+◌, ◌≤◌, Bool, true, false, List, [], Option, Some, None}
use Rattle.savi_kinds.specs.declared.plan.Plan.{Plan}
use Rattle.savi_kinds.specs.declared.entry.How.{How}
use Rattle.savi_kinds.specs.declared.entry.How.TheVariants as hows
use Rattle.savi_ends.specs.declared.world.Ends.{Ends}
use Rattle.savi_ends.specs.Faults.{Rose}
use Rattle.savi_ends.specs.Octets.{Takes}
use Rattle.cli_lang.specs.Arrivals.{Line, Arrive}
use Rattle.cli_lang.specs.Arrivals as control
use Rattle.cli_lang.specs.Readers.{IsFaultAt, longest_reach}
use Rattle.hist_store.specs.Rows.{Row}
use Rattle.savi_history.specs.ControlFits.{FitsControl}
use Rattle.savi_history.specs.ControlInputs.{entered_lines, control_end}
use Rattle.savi_history.specs.Fits.{IsWhole}
use Rattle.savi_history.specs.PortOutputs.{TookPieces}
use Rattle.savi_segments.specs.Sent.{replies_in, FitsRepliesIn}
use Rattle.savi_segments.specs.Unbroken.{unbroken}
use Rattle.port_worker.specs.declared.control_ends.ControlEnds.{ControlEnds}
use Rattle.port_worker.specs.Used.{GaveFew, IsUsed}

-- these octets, seen to end or not, are the input of these lines that ends so, each line with its stamp in it
abbrev pub AreLines : Bool → List ℕ → List Line → How → Type 0
AreLines seen octets lines ending = Arrive false seen [] octets (record { arrivals = lines; ending = ending })

-- What the octets of control's source are to its input, by how the input ends; `ended_so` is how control ended
-- for good. At its end or at a line at fault: they are all that the source had left. At a read that failed: the history says
-- so, and they are what the source gave up, of which a last line without a line feed is no line. An input ends in no other
-- way.
abbrev pub IsControlInputOf : Option (List ℕ) → Option (List ℕ) → Option How → List Line → How → Type 0
IsControlInputOf before after ended_so lines hows.End = IsWhole (AreLines true) before lines hows.End
IsControlInputOf before after ended_so lines (hows.Malformed at) = IsWhole (AreLines true) before lines (hows.Malformed at)
IsControlInputOf before after ended_so lines (hows.Overlong at) = IsWhole (AreLines true) before lines (hows.Overlong at)
IsControlInputOf before after ended_so lines hows.Failed = (ended_so ≡ Some hows.Failed) × (gave : List ℕ) × Takes before after gave × AreLines false gave lines hows.Failed
IsControlInputOf before after ended_so lines hows.Quit = ⊥
IsControlInputOf before after ended_so lines hows.Unwritten = ⊥
IsControlInputOf before after ended_so lines hows.Paused = ⊥

-- What segments were to the ends of control. The octets of the source are this input, and what it gave up fits what the
-- segments hold of it; from the place of a line at fault on it gave up no more than the reader of lines reaches. The sink
-- took the replies as this stop says, each one piece, and they fit how the segments say that control ended. No count of
-- faults fell; control ended by a failed read exactly where that of its source rose, by a reply that could not be written
-- exactly where that of its sink did.
pub record IsControlServed {S K C : Type 0} (left : S → Option (List ℕ)) (written : K → Option (List ℕ)) (source_faults : S → ℕ) (sink_faults : K → ℕ) (plan : Plan) (segments : List (List Row)) (input : control.Input) (stop : Option ℕ) (old new : Ends S K C) : Type 0 where
  pub used : IsUsed left written old new
  pub gave : IsControlInputOf (left old.source) (left new.source) (control_end (unbroken segments)) input.arrivals input.ending
  pub fits : FitsControl AreLines (left old.source) (left new.source) (entered_lines (unbroken segments)) (control_end (unbroken segments))
  pub near : (how : How) (at : ℕ) → control_end (unbroken segments) ≡ Some how → IsFaultAt how at → GaveFew (left old.source) (left new.source) (at + longest_reach)
  pub took : TookPieces (written old.sink) (written new.sink) (replies_in plan segments) stop
  pub fits_out : FitsRepliesIn plan (written old.sink) (written new.sink) segments
  pub source : source_faults old.source ≤ source_faults new.source
  pub sink : sink_faults old.sink ≤ sink_faults new.sink
  pub broken : control_end (unbroken segments) ≡ Some hows.Failed → Rose (source_faults old.source) (source_faults new.source)
  pub still : control_end (unbroken segments) ≢ Some hows.Failed → source_faults new.source ≡ source_faults old.source
  pub unwritten : control_end (unbroken segments) ≡ Some hows.Unwritten → Rose (sink_faults old.sink) (sink_faults new.sink)
  pub still_out : control_end (unbroken segments) ≢ Some hows.Unwritten → sink_faults new.sink ≡ sink_faults old.sink

-- The same of ends that are there before and after, and then control has an input; or there are none, and it has none.
abbrev pub ServesControl : {S K C : Type 0} → (S → Option (List ℕ)) → (K → Option (List ℕ)) → (S → ℕ) → (K → ℕ) → Plan → List (List Row) → Option (ControlEnds S K C) → Option (ControlEnds S K C) → Option control.Input → Option ℕ → Type 0
ServesControl left written source_faults sink_faults plan segments None None None stop = Unit {0}
ServesControl left written source_faults sink_faults plan segments None None (Some input) stop = ⊥
ServesControl left written source_faults sink_faults plan segments None (Some new) lines stop = ⊥
ServesControl left written source_faults sink_faults plan segments (Some old) None lines stop = ⊥
ServesControl left written source_faults sink_faults plan segments (Some old) (Some new) None stop = ⊥
ServesControl left written source_faults sink_faults plan segments (Some old) (Some new) (Some input) stop = IsControlServed left written source_faults sink_faults plan segments input stop old.ends new.ends
