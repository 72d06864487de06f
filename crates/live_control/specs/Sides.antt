-- Control by its worker.
use Rattle.std.specs.Prelude.{◌≡◌, ℕ, true, false, List, ◌++◌, Option, Some, None}
use Rattle.atomic_table.specs.Seated.{TableId}
use Rattle.savi_kinds.specs.declared.plan.Plan.{Plan}
use Rattle.savi_kinds.specs.declared.entry.How.TheVariants as hows
use Rattle.hist_store.specs.Rows.{Row}
use Rattle.savi_history.specs.ControlFits.{HasNoQuit}
use Rattle.savi_history.specs.ControlInputs.{control_end, entered_lines}
use Rattle.savi_segments.specs.Unbroken.{unbroken}
use Rattle.intake_ring.specs.Sides.{taker_ring}
use Rattle.control_reader.specs.Heard.{HeardLine, all_said, line_heard_of, lines_taken}
use Rattle.control_reader.specs.Answered.{waiting_line}
use Rattle.control_reader.specs.declared.arrival.LineArrival.{LineArrival}
use Rattle.live_session.specs.Standing.{ControlStands, NoControlStands, Replies}
use Rattle.live_control.specs.declared.side.ControlSide.{ControlSide}
use Rattle.live_control.specs.declared.state.ControlState.{ControlState}
use Rattle.live_control.specs.declared.state.ControlState.TheVariants as states

-- what is in the arrival that is kept
abbrev pub heard_in : Option LineArrival → Option HeardLine
heard_in None = None
heard_in (Some came) = Some (line_heard_of came)

-- the ring of control, where it is there
abbrev pub worker_ring : {K : Type 0} → Option (ControlSide K) → Option TableId
worker_ring None = None
worker_ring (Some side) = Some (taker_ring side.taker)

module _ {K : Type 0} (written : K → Option (List ℕ)) (faults : K → ℕ) (plan : Plan) (segments : List (List Row)) where
  -- Control hasn't ended: what was taken is, in order, the lines that were entered, none of which is `quit`, and behind them
  -- what is kept; and its sink took the replies.
  pub record ControlGoes (taken : List HeardLine) (kept : Option HeardLine) (old new : K) : Type 0 where
    pub open_end : control_end (unbroken segments) ≡ None
    pub none : HasNoQuit (entered_lines (unbroken segments))
    pub all : taken ≡ all_said (entered_lines (unbroken segments)) ++ waiting_line kept
    pub replied : Replies written faults plan segments old new

  -- the same of a side, which passes nothing over then
  pub record SideGoes (first : K) (side : ControlSide K) : Type 0 where
    pub goes : ControlGoes (lines_taken side.taker) (heard_in side.kept) first side.sink
    pub enters : side.passes_over ≡ false

  -- Control by its side, from its sink at the start of the session on: what comes is passed over only where a reply couldn't
  -- be written.
  pub record SideStands (first : K) (side : ControlSide K) : Type 0 where
    pub stands : ControlStands written faults plan segments (lines_taken side.taker) (heard_in side.kept) first side.sink
    pub passes : side.passes_over ≡ true → control_end (unbroken segments) ≡ Some hows.Unwritten

  -- control goes on, or is paused, which its segments don't tell; or it has ended
  abbrev pub StandsAs : ControlState → K → ControlSide K → Type 0
  StandsAs states.Open first side = SideGoes first side
  StandsAs states.Paused first side = SideGoes first side
  StandsAs (states.Ended how) first side = SideStands first side

  -- control, where it is there, or isn't
  abbrev pub WorkerStands : Option K → Option (ControlSide K) → Type 0
  WorkerStands (Some first) (Some side) = SideStands first side
  WorkerStands None None = NoControlStands segments
  WorkerStands (Some first) None = ⊥
  WorkerStands None (Some side) = ⊥
