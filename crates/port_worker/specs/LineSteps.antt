-- What the turn of control does to the history and to its sink, before the queues are drained.
use Rattle.std.specs.Prelude.{◌≡◌, ◌≢◌, ◌≤◌, ℕ, Bool, true, false, if◌then◌else◌, ◌⊎◌, List, [], ◌∷◌, Option, Some, None}
use Rattle.savi_kinds.specs.declared.plan.Plan.{Plan}
use Rattle.savi_kinds.specs.declared.entry.Who.TheVariants.{Control}
use Rattle.savi_kinds.specs.declared.entry.How.{How}
use Rattle.savi_kinds.specs.declared.entry.How.TheVariants as hows
use Rattle.savi_ends.specs.Faults.{Rose}
use Rattle.cli_lang.specs.Arrivals.{Line}
use Rattle.hist_store.specs.Rows.{Row}
use Rattle.checkpoint.specs.Bases.{Base}
use Rattle.savi_history.specs.ControlInputs.{is_quit}
use Rattle.savi_history.specs.Events.{Command, End}
use Rattle.savi_history.specs.PortOutputs.{TookPieces}
use Rattle.savi_history.specs.Replay.{with_event}
use Rattle.savi_history.specs.Shown.{shown}
use Rattle.savi_history.specs.Turns.{Turn, Commands, Ends}
use Rattle.port_worker.specs.declared.control_ends.LineAhead.{LineAhead}
use Rattle.port_worker.specs.declared.control_ends.LineAhead.TheVariants as ahead
use Rattle.port_worker.specs.declared.control_ends.ControlEnds.{ControlEnds}
use Rattle.port_worker.specs.SentFrames.{TookMore}

-- the history behind a line that was entered and answered: `quit` ends control
abbrev pub behind_reply : Plan → Base → Bool → List Row → List Row
behind_reply plan base quit past = if quit then with_event plan base past (End Control hows.Quit) else past

-- a sink took the reply to the newest entry, a line's, whole, without a fault
pub record IsReplied {K : Type 0} (written : K → Option (List ℕ)) (faults : K → ℕ) (plan : Plan) (base : Base) (quit : Bool) (past now : List Row) (old new : K) : Type 0 where
  pub made : now ≡ behind_reply plan base quit past
  pub took : TookPieces (written old) (written new) (shown plan base past ∷ []) None
  pub still : faults new ≡ faults old

-- it took a front of it, and control has ended for that
pub record IsCutOff {K : Type 0} (written : K → Option (List ℕ)) (faults : K → ℕ) (plan : Plan) (base : Base) (past now : List Row) (old new : K) : Type 0 where
  pub made : now ≡ with_event plan base past (End Control hows.Unwritten)
  pub took : TookPieces (written old) (written new) (shown plan base past ∷ []) (Some 0)
  pub rose : Rose (faults old) (faults new)

abbrev pub IsAnswered : {K : Type 0} → (K → Option (List ℕ)) → (K → ℕ) → Plan → Base → Bool → List Row → List Row → K → K → Type 0
IsAnswered written faults plan base quit past now old new = IsReplied written faults plan base quit past now old new ⊎ IsCutOff written faults plan base past now old new

-- the history with the entry of a line
abbrev pub with_command : Plan → Base → Line → List Row → List Row
with_command plan base line past = with_event plan base past (Command line.stamp line.command)

-- A line was entered and answered; or control's input ended, and its end is all that the turn makes.
abbrev pub EntersLine : {K : Type 0} → (K → Option (List ℕ)) → (K → ℕ) → Plan → Base → Turn → Bool → List Row → List Row → K → K → Type 0
EntersLine written faults plan base turn true past now old new =
    (line : Line) × (turn ≡ Commands line) × IsAnswered written faults plan base (is_quit line) (with_command plan base line past) now old new
EntersLine written faults plan base turn false past now old new =
    (how : How) × (turn ≡ Ends Control how) × (now ≡ with_event plan base past (End Control how)) × (new ≡ old) × (how ≢ hows.Unwritten)

-- control before and after a step: only its sink, which took octets behind what it held, and what is known of its input have
-- changed
pub record IsControlStepped {S K C : Type 0} (written : K → Option (List ℕ)) (faults : K → ℕ) (old new : ControlEnds S K C) : Type 0 where
  pub same : new ≡ record old { ends = record old.ends { sink = new.ends.sink }; ahead = new.ahead }
  pub later : faults old.ends.sink ≤ faults new.ends.sink
  pub took : TookMore (written old.ends.sink) (written new.ends.sink)

-- what is known of control's input behind a turn
abbrev pub line_ahead_after : Bool → LineAhead
line_ahead_after true = ahead.Done
line_ahead_after false = ahead.Unread
