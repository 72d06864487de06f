-- That a tick may change what is answered where it comes later than the next event with a stamp.
use Rattle.std.specs.Prelude.{◌≢◌, ℕ, List}
use Rattle.savi_kinds.specs.declared.plan.Plan.{Plan}
use Rattle.savi_kinds.specs.ValidPlan.{IsValidPlan}
use Rattle.hist_store.specs.Rows.{Row}
use Rattle.checkpoint.specs.Bases.{empty}
use Rattle.savi_history.specs.Events.{Event}
use Rattle.savi_history.specs.Legal.{IsLegal}
use Rattle.savi_laws.specs.Rebuilt.{rows_by, ComesFirst, with_tick}
use Rattle.savi_laws.specs.Answered.{answered}

-- Two legal histories of a switch from its start, by one valid plan. They differ in nothing but a tick, which comes later
-- than the next event with a stamp, and they don't answer alike.
pub record LateTick : Type 0 where
  pub plan : Plan
  pub past : List Row
  pub stamp : ℕ
  pub events : List Event
  pub valid : IsValidPlan plan
  pub legal : IsLegal plan empty (rows_by plan empty past events)
  pub legal_behind : IsLegal plan empty (with_tick plan empty past stamp events)
  pub late : ¬ ComesFirst empty past stamp events
  pub other : answered (with_tick plan empty past stamp events) ≢ answered (rows_by plan empty past events)
