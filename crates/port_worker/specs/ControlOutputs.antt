-- The output of control while a replay goes on: which replies its sink took, and what is known so far of where one could not
-- be written.
use Rattle.std.specs.Prelude.{◌≡◌, ◌≢◌, ◌≤◌, ℕ, true, List, length, IsSome, IfSome, Option, Some, None}
use Rattle.savi_kinds.specs.declared.plan.Plan.{Plan}
use Rattle.savi_kinds.specs.declared.entry.Who.TheVariants.{Control}
use Rattle.savi_kinds.specs.declared.entry.How.TheVariants as hows
use Rattle.savi_ends.specs.Faults.{Rose}
use Rattle.hist_store.specs.Rows.{Row}
use Rattle.checkpoint.specs.Bases.{Base}
use Rattle.savi_history.specs.ControlInputs.{control_end}
use Rattle.savi_history.specs.Events.{End}
use Rattle.savi_history.specs.Passes.{control_pass, has_ended}
use Rattle.savi_history.specs.PortOutputs.{TookPieces}
use Rattle.savi_history.specs.Replay.{Stops}
use Rattle.savi_segments.specs.Replay.{Run, segments_of, has_ended_in, entered_in}
use Rattle.savi_segments.specs.Sent.{replies_in}
use Rattle.savi_segments.specs.Unbroken.{unbroken}
use Rattle.savi_core.specs.Machines.{Machine, with_event}
use Rattle.port_worker.specs.declared.control_ends.ControlEnds.{ControlEnds}
use Rattle.port_worker.specs.declared.port_ends.PortEnds.{PortEnds}
use Rattle.port_worker.specs.LineInputs.{IsLineSound, control_turn_of}
use Rattle.port_worker.specs.LineSteps.{IsControlStepped, line_ahead_after}
use Rattle.port_worker.specs.Outputs.{Allows, AreOutputs, ArePortsAllowed}

-- without ends of control its input ends at once
abbrev pub unheard : {S K C : Type 0} → Machine → Option (ControlEnds S K C) → Machine
unheard m None = with_event m (End Control hows.End)
unheard m (Some c) = m

-- the sink took all replies, and no write has failed
pub record RepliesRunOn {K : Type 0} (written : K → Option (List ℕ)) (faults : K → ℕ) (plan : Plan) (run : Run) (old new : K) : Type 0 where
  pub none : control_end (unbroken (segments_of run)) ≢ Some hows.Unwritten
  pub took : TookPieces (written old) (written new) (replies_in plan (segments_of run)) None
  pub still : faults new ≡ faults old

-- a reply could not be written behind so many whole ones, and control has ended for that
pub record RepliesHaveStopped {K : Type 0} (written : K → Option (List ℕ)) (faults : K → ℕ) (plan : Plan) (run : Run) (old new : K) (whole : ℕ) : Type 0 where
  pub ended : has_ended_in plan (control_pass plan) run ≡ true
  pub failed : control_end (unbroken (segments_of run)) ≡ Some hows.Unwritten
  pub took : TookPieces (written old) (written new) (replies_in plan (segments_of run)) (Some whole)
  pub rose : Rose (faults old) (faults new)

-- control's output by what is known of where a reply could not be written
abbrev pub AreReplies : {K : Type 0} → (K → Option (List ℕ)) → (K → ℕ) → Plan → Run → K → K → Option ℕ → Type 0
AreReplies written faults plan run old new None = RepliesRunOn written faults plan run old new
AreReplies written faults plan run old new (Some whole) = RepliesHaveStopped written faults plan run old new whole

-- what the writes may turn out to have failed at, by what is known of all outputs
pub record AreAllowed (plan : Plan) (known stops : Stops) (run : Run) : Type 0 where
  pub ports : ArePortsAllowed plan known stops run
  pub replies : Allows known.control stops.control (length (replies_in plan (segments_of run)))

-- More is known of all outputs behind a step, and the step has made what that allows.
pub record AllFollow (plan : Plan) (known later : Stops) (run now : Run) (made : Stops → Run) : Type 0 where
  pub before : (stops : Stops) → AreAllowed plan later stops now → AreAllowed plan known stops run
  pub made_so : (stops : Stops) → AreAllowed plan later stops now → now ≡ made stops

-- control has a turn that may be entered
abbrev pub IsControlTurn : {S K C : Type 0} → Option (ControlEnds S K C) → Type 0
IsControlTurn None = ⊥
IsControlTurn (Some c) = IsSome (control_turn_of c) × IsLineSound c.reader c.ahead

-- The turn was entered: only control's sink and what is known of its input have changed.
abbrev pub IsControlAdvanced : {S K C : Type 0} → (K → Option (List ℕ)) → (K → ℕ) → Option (ControlEnds S K C) → Option (ControlEnds S K C) → Type 0
IsControlAdvanced written faults (Some old) (Some new) = IsControlStepped written faults old new
IsControlAdvanced written faults (Some old) None = ⊥
IsControlAdvanced written faults None new = ⊥

-- Behind the turn the next line may be read where control hasn't ended.
abbrev pub IsAheadAfter : {S K C : Type 0} → Plan → Base → List Row → Option (ControlEnds S K C) → Type 0
IsAheadAfter plan base now None = Unit {0}
IsAheadAfter plan base now (Some c) = c.ahead ≡ line_ahead_after (has_ended base (control_pass plan) now)

-- Whatever was known of all outputs since their first ends, the turn of control goes on from there.
abbrev pub AllOutputsGoOn : {S K C : Type 0} → (K → Option (List ℕ)) → (K → ℕ) → Plan → Run → Run → K → K → List (PortEnds S K C) → List (PortEnds S K C) → (Stops → Run) → Type 0
AllOutputsGoOn {S} {K} {C} written faults plan run now sink_old sink_new old new made =
    (first : List (PortEnds S K C)) (start : K) (known : Stops) → AreOutputs written faults plan known run first old → faults start ≤ faults sink_old → AreReplies written faults plan run start sink_old known.control
    → (later : Stops) × AreOutputs written faults plan later now first new × AreReplies written faults plan now start sink_new later.control × AllFollow plan known later run now made

abbrev pub ControlGoesOn : {S K C : Type 0} → (K → Option (List ℕ)) → (K → ℕ) → Plan → Run → Run → Option (ControlEnds S K C) → Option (ControlEnds S K C) → List (PortEnds S K C) → List (PortEnds S K C) → Type 0
ControlGoesOn written faults plan run now (Some old) (Some new) ports_old ports_new =
    IfSome (control_turn_of old) (λ turn. AllOutputsGoOn written faults plan run now old.ends.sink new.ends.sink ports_old ports_new (λ stops. entered_in plan stops turn run))
ControlGoesOn written faults plan run now (Some old) None ports_old ports_new = ⊥
ControlGoesOn written faults plan run now None new ports_old ports_new = ⊥
