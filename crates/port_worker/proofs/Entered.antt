-- What the entered turn of a port does to ends and queues.
use Rattle.std.proofs.Common.{◌≡◌, ◌≢◌, ℕ, ◌<◌, ◌≤◌, true, false, List, [], length, ◌∙◌}
use Rattle.savi_kinds.specs.declared.port.Port.{Port}
use Rattle.savi_kinds.specs.declared.plan.Plan.{Plan}
use Rattle.savi_kinds.specs.Arrivals.{Arrival}
use Rattle.hist_store.specs.Rows.{Row}
use Rattle.checkpoint.specs.Bases.{Base}
use Rattle.savi_history.specs.Passes.{has_ended, pass_of, ticker_pass}
use Rattle.savi_history.specs.Queues.{queue}
use Rattle.savi_history.specs.Turns.{Turn, Arrives, Commands, Ends, who_of}
use Rattle.savi_history.specs.Replay.{Stops, event_of, with_event, drained, entered}
use Rattle.savi_history.proofs.Waiting.{ended_arrival, ended_drained, ended_now, ended_other, empty_end, drained_empty}
use Rattle.savi_history.proofs.PassNumbers.{number_at}
use Rattle.savi_history.proofs.PortInputs.{IsTurnOf}
use Rattle.port_worker.specs.Steps.{ends_input}

module _ (plan : Plan) (base : Base) (stops : Stops) (past : List Row) where
  ended_arrived : (port : Port) (a : Arrival) (pass : ℕ) → pass ≤ ticker_pass plan → has_ended base pass (drained plan base stops.ports plan.ports (with_event plan base past (event_of port a))) ≡ has_ended base pass past
  ended_arrived port a pass low = ended_drained plan base stops.ports plan.ports (with_event plan base past (event_of port a)) pass low ∙ ended_arrival plan base past port a pass

  pub ended_entered_other : (of : Port) (t : Turn) (pass : ℕ) → IsTurnOf of t → pass ≤ ticker_pass plan → pass_of plan (who_of t) ≢ pass → has_ended base pass (entered plan base stops t past) ≡ has_ended base pass past
  ended_entered_other of (Arrives port a) pass is low other = ended_arrived port a pass low
  ended_entered_other of (Commands line) pass is low other = absurd is
  ended_entered_other of (Ends who how) pass is low other = ended_other plan base past who how pass other

  pub ended_entered_open : (of : Port) (t : Turn) (pass : ℕ) → IsTurnOf of t → pass ≤ ticker_pass plan → ends_input t ≡ false → has_ended base pass (entered plan base stops t past) ≡ has_ended base pass past
  ended_entered_open of (Arrives port a) pass whose low is = ended_arrived port a pass low
  ended_entered_open of (Commands line) pass whose low is = absurd whose
  ended_entered_open of (Ends who how) pass whose low is = cc

  pub ended_entered_done : (of : Port) (t : Turn) → IsTurnOf of t → ends_input t ≡ true → has_ended base (pass_of plan (who_of t)) (entered plan base stops t past) ≡ true
  ended_entered_done of (Arrives port a) whose is = cc
  ended_entered_done of (Commands line) whose is = absurd whose
  ended_entered_done of (Ends who how) whose is = ended_now plan base past who how

  pub quiet_entered : (of : Port) (t : Turn) (k : ℕ) → IsTurnOf of t → k < length plan.ports → queue plan base (number_at plan k) past ≡ [] → queue plan base (number_at plan k) (entered plan base stops t past) ≡ []
  quiet_entered of (Arrives port a) k whose inside none = drained_empty plan base stops.ports plan.ports (with_event plan base past (event_of port a)) k inside
  quiet_entered of (Commands line) k whose inside none = absurd whose
  quiet_entered of (Ends who how) k whose inside none = empty_end plan base past who how (number_at plan k) none
