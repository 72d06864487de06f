-- What the reply to a line may change: control may have ended, or nothing.
use Rattle.std.proofs.Common.{ℕ, Bool, true, false, List, length, Option, if◌then◌else◌}
use Rattle.savi_kinds.specs.declared.plan.Plan.{Plan}
use Rattle.savi_kinds.specs.declared.entry.Who.TheVariants.{Control}
use Rattle.savi_kinds.specs.declared.entry.How.TheVariants as hows
use Rattle.cli_lang.specs.Arrivals.{Line}
use Rattle.hist_store.specs.Rows.{Row}
use Rattle.checkpoint.specs.Bases.{Base}
use Rattle.savi_history.specs.ControlInputs.{is_quit}
use Rattle.savi_history.specs.ControlOutputs.{replies}
use Rattle.savi_history.specs.Events.{End}
use Rattle.savi_history.specs.Replay.{is_stopped, with_event, with_reply}

module _ (plan : Plan) (base : Base) (line : Line) (past : List Row) (Has : List Row → Type 0) (same : Has past) (unwritten : Has (with_event plan base past (End Control hows.Unwritten))) (quit : Has (with_event plan base past (End Control hows.Quit))) where
  reply_at : (failed quits : Bool) → Has (if failed then with_event plan base past (End Control hows.Unwritten) else if quits then with_event plan base past (End Control hows.Quit) else past)
  reply_at true quits = unwritten
  reply_at false true = quit
  reply_at false false = same

  -- what holds in each of these cases
  pub behind_reply : (stop : Option ℕ) → Has (with_reply plan base stop line past)
  behind_reply stop = reply_at (is_stopped stop (length (replies plan base past))) (is_quit line)
