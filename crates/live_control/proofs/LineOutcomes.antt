-- What became of a line, by its turn and by what was written.
use Rattle.std.proofs.Common.{◌≡◌, ◌≤◌, ℕ, Bool, true, false, not, List, refl, sym, ap, subst, ◌∙◌, Option, Some, None}
use Rattle.savi_kinds.specs.declared.plan.Plan.{Plan}
use Rattle.savi_kinds.specs.declared.entry.How.{How}
use Rattle.savi_kinds.specs.declared.entry.How.TheVariants as hows
use Rattle.cli_lang.specs.Arrivals.{Line}
use Rattle.hist_store.specs.Rows.{Row}
use Rattle.checkpoint.specs.Bases.{Base}
use Rattle.savi_history.specs.ControlInputs.{is_quit}
use Rattle.savi_history.specs.Endings.{is_paused_reason}
use Rattle.savi_history.specs.Legal.{MayEndControl}
use Rattle.control_reader.specs.Heard.{reason_of}
use Rattle.control_reader.specs.declared.arrival.LinesEnd.{LinesEnd}
use Rattle.control_reader.specs.declared.arrival.LinesEnd.TheVariants as ends
use Rattle.live_control.specs.LineTurns.{EndsControl, AddsLine, IsAnswered}
use Rattle.live_control.specs.Replying.{TakesReply}
use Rattle.live_control.specs.States.{IsUnended, has_stopped_answering, state_behind_line}
use Rattle.live_control.specs.declared.state.ControlState.{ControlState}

-- an input that ended isn't paused
pub read_end : (end : LinesEnd) → is_paused_reason (reason_of end) ≡ false
read_end ends.End = refl
read_end (ends.Malformed at) = refl
read_end (ends.Overlong at) = refl
read_end ends.Failed = refl

module _ (quit : Bool) (before after : Option (List ℕ)) (faults_before faults_after : ℕ) (reply : List ℕ) where
  -- the reasons for which control ends behind a line are reasons for which it may end
  pub may_end : (how : How) (plan : Plan) (past : List Row) → TakesReply quit before after faults_before faults_after reply (Some how) → MayEndControl plan past how
  may_end hows.Quit plan past took = tt
  may_end hows.Unwritten plan past took = tt
  may_end hows.End plan past took = absurd took
  may_end (hows.Malformed at) plan past took = absurd took
  may_end (hows.Overlong at) plan past took = absurd took
  may_end hows.Failed plan past took = absurd took
  may_end hows.Paused plan past took = absurd took

  -- and none of them is a pause
  pub reply_end : (how : How) → TakesReply quit before after faults_before faults_after reply (Some how) → is_paused_reason how ≡ false
  reply_end hows.Quit took = refl
  reply_end hows.Unwritten took = refl
  reply_end hows.End took = absurd took
  reply_end (hows.Malformed at) took = absurd took
  reply_end (hows.Overlong at) took = absurd took
  reply_end hows.Failed took = absurd took
  reply_end hows.Paused took = absurd took

module _ {K : Type 0} (written : K → Option (List ℕ)) (faults : K → ℕ) (plan : Plan) (base : Base) (line : Line) (reply : List ℕ) (before mid : List Row) (old new : K) (enters : AddsLine plan base line reply before mid) where
  pub answered_on : TakesReply (is_quit line) (written old) (written new) (faults old) (faults new) reply None → faults old ≤ faults new → IsAnswered written faults plan base line before mid old new None
  answered_on took later = record { reply = reply; told = enters.told; replied = enters.replied; took = took; later = later }

  pub answered_last : (after : List Row) (how : How) → EndsControl plan base how mid after → TakesReply (is_quit line) (written old) (written new) (faults old) (faults new) reply (Some how)
      → faults old ≤ faults new → IsAnswered written faults plan base line before after old new (Some how)
  answered_last after how ends took later = record {
    reply = reply;
    told = λ earlier. ends.told earlier ∙ ap (λ (t : List Line × Option How). (t.0, Some how)) (enters.told earlier);
    replied = ends.replied ∙ enters.replied;
    took = took;
    later = later;
  }

-- how control stands behind a look at the room

pub stopped_behind : (paused : Bool) (state : ControlState) → state ≡ state_behind_line (not paused) → paused ≡ has_stopped_answering state
stopped_behind true state is = sym (ap has_stopped_answering is)
stopped_behind false state is = sym (ap has_stopped_answering is)

pub unended_behind : (room : Bool) (state : ControlState) → state ≡ state_behind_line room → IsUnended state
unended_behind true state is = subst (λ (s : ControlState). IsUnended s) (sym is) tt
unended_behind false state is = subst (λ (s : ControlState). IsUnended s) (sym is) tt
