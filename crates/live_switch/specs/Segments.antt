-- What the serving of one segment leaves, under a lock or in rounds.
use Rattle.std.specs.Prelude.{◌≡◌, ℕ, List, ◌∷◌, Option}
use Rattle.savi_kinds.specs.declared.plan.Plan.{Plan}
use Rattle.hist_store.specs.Rows.{Row}
use Rattle.checkpoint.specs.Bases.{Base}
use Rattle.savi_history.specs.Legal.{IsLegal, IsFinished}
use Rattle.savi_segments.specs.Checkpoints.{after}
use Rattle.savi_segments.specs.Segments.{AreLegal, base_after}
use Rattle.savi_core.specs.Machines.{base_of}
use Rattle.core_keep.specs.declared.keep.KeptCore.{KeptCore}
use Rattle.live_switch.specs.declared.services.Service.{Service}
use Rattle.live_switch.specs.Joined.{StandOn}
use Rattle.live_switch.specs.Works.{IsSameService}

module _ {K C : Type 0} (written : K → Option (List ℕ)) (faults : K → ℕ) (readings : C → Option (List ℕ)) where
  -- A segment of the plan from this base, which is legal and finished, and what serves the ends stands behind it.
  pub record HasServedSegment (plan : Plan) (base : Base) (old : Service K C) (kept : KeptCore) (new : Service K C) : Type 0 where
    pub plan_is : kept.core.value.plan ≡ plan
    pub base_is : base_of kept.core.value ≡ base
    pub legal : IsLegal plan base kept.core.value.past
    pub finished : IsFinished plan base kept.core.value.past
    pub same : IsSameService old new
    pub stands : (before : List (List Row)) → AreLegal plan before → base ≡ base_after plan before
        → StandOn written faults readings plan before (kept.core.value.past ∷ before) old new

  -- the same of the segment that goes on from what one leaves
  abbrev pub HasServedNext : KeptCore → Service K C → KeptCore → Service K C → Type 0
  HasServedNext last old kept new =
      HasServedSegment last.core.value.plan (after last.core.value.plan (base_of last.core.value) last.core.value.past) old kept new
