-- What the entered turn of control does to the history beside control.
use Rattle.std.proofs.Common.{◌≡◌, ◌≢◌, ℕ, ◌<◌, ◌≤◌, List, [], length, refl, ◌∙◌}
use Rattle.savi_kinds.specs.declared.plan.Plan.{Plan}
use Rattle.savi_kinds.specs.declared.entry.Who.TheVariants.{Control}
use Rattle.savi_kinds.specs.declared.entry.Who.TheVariants as passes
use Rattle.savi_kinds.specs.declared.entry.How.TheVariants as hows
use Rattle.cli_lang.specs.Arrivals.{Line}
use Rattle.hist_store.specs.Rows.{Row}
use Rattle.checkpoint.specs.Bases.{Base}
use Rattle.savi_history.specs.Events.{Command}
use Rattle.savi_history.specs.Passes.{control_pass, has_ended, ticker_pass, pass_of}
use Rattle.savi_history.specs.Queues.{queue}
use Rattle.savi_history.specs.Replay.{Stops, with_event, with_reply, entered}
use Rattle.savi_history.specs.Turns.{Turn, Arrives, Commands, Ends, who_of}
use Rattle.savi_history.proofs.PassNumbers.{number_at}
use Rattle.savi_history.proofs.PortInputs.{HoldsSame, same_control, same_line}
use Rattle.savi_history.proofs.Replying.{behind_reply}
use Rattle.savi_history.proofs.Waiting.{drained_empty, empty_end, ended_drained, ended_other}
use Rattle.port_worker.proofs.ControlStepping.{IsControls}

pub controls_pass : (plan : Plan) (t : Turn) → IsControls t → pass_of plan (who_of t) ≡ control_pass plan
controls_pass plan (Arrives port a) is = absurd is
controls_pass plan (Commands line) is = refl
controls_pass plan (Ends (passes.Ingress port) how) is = absurd is
controls_pass plan (Ends Control how) is = refl
controls_pass plan (Ends passes.Ticker how) is = absurd is
controls_pass plan (Ends (passes.Egress port) how) is = absurd is

module _ (plan : Plan) (base : Base) (stops : Stops) (past : List Row) where
  module _ (line : Line) where
    abbrev mid : List Row
    mid = with_event plan base past (Command line.stamp line.command)

    abbrev answered : List Row
    answered = with_reply plan base stops.control line mid

    reply_ends : (pass : ℕ) → control_pass plan ≢ pass → has_ended base pass answered ≡ has_ended base pass past
    reply_ends pass other =
        behind_reply plan base line mid (λ now. has_ended base pass now ≡ has_ended base pass past) refl
        (ended_other plan base mid Control hows.Unwritten pass other) (ended_other plan base mid Control hows.Quit pass other) stops.control

    line_ends : (pass : ℕ) → pass ≤ ticker_pass plan → control_pass plan ≢ pass → has_ended base pass (entered plan base stops (Commands line) past) ≡ has_ended base pass past
    line_ends pass low other = ended_drained plan base stops.ports plan.ports answered pass low ∙ reply_ends pass other

  pub controlled_ends : (t : Turn) (pass : ℕ) → IsControls t → pass ≤ ticker_pass plan → control_pass plan ≢ pass → has_ended base pass (entered plan base stops t past) ≡ has_ended base pass past
  controlled_ends (Arrives port a) pass is low other = absurd is
  controlled_ends (Commands line) pass is low other = line_ends line pass low other
  controlled_ends (Ends (passes.Ingress port) how) pass is low other = absurd is
  controlled_ends (Ends Control how) pass is low other = ended_other plan base past Control how pass other
  controlled_ends (Ends passes.Ticker how) pass is low other = absurd is
  controlled_ends (Ends (passes.Egress port) how) pass is low other = absurd is

  pub controlled_quiet : (t : Turn) (k : ℕ) → IsControls t → k < length plan.ports → queue plan base (number_at plan k) past ≡ [] → queue plan base (number_at plan k) (entered plan base stops t past) ≡ []
  controlled_quiet (Arrives port a) k is inside none = absurd is
  controlled_quiet (Commands line) k is inside none = drained_empty plan base stops.ports plan.ports (answered line) k inside
  controlled_quiet (Ends who how) k is inside none = empty_end plan base past who how (number_at plan k) none

  -- what the history holds of a port's input
  pub controlled_holds : (t : Turn) (n : ℕ) → IsControls t → HoldsSame n past (entered plan base stops t past)
  controlled_holds (Arrives port a) n is = absurd is
  controlled_holds (Commands line) n is = same_line plan base stops past line n
  controlled_holds (Ends (passes.Ingress port) how) n is = absurd is
  controlled_holds (Ends Control how) n is = same_control plan base past how n
  controlled_holds (Ends passes.Ticker how) n is = absurd is
  controlled_holds (Ends (passes.Egress port) how) n is = absurd is
