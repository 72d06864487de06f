-- What a round does, or a part of one.
use Rattle.std.specs.Prelude.{◌≡◌, ℕ, List, ◌∷◌, ◌++◌, Option}
use Rattle.savi_kinds.specs.Ports.{number_of}
use Rattle.savi_kinds.specs.ValidPlan.{IsValidPlan}
use Rattle.parcel_ring.specs.Sides.{taker_rings, was_taken}
use Rattle.hist_store.specs.Rows.{Row}
use Rattle.savi_history.specs.Legal.{IsLegal}
use Rattle.savi_history.specs.Passes.{place_of}
use Rattle.savi_segments.specs.Segments.{AreLegal, base_after}
use Rattle.savi_core.specs.Machines.{base_of}
use Rattle.core_keep.specs.declared.keep.KeptCore.{KeptCore}
use Rattle.live_session.specs.Standing.{InputStands}
use Rattle.live_turns.specs.Rounds.{MadeBy}
use Rattle.live_input.specs.Judged.{kept_of}
use Rattle.live_input.specs.declared.judge.Ingress.{Ingress}
use Rattle.live_switch.specs.declared.services.Service.{Service}
use Rattle.live_switch.specs.Joined.{StandOn}
use Rattle.live_switch.specs.Works.{IsSameService, IsServiceOf}

-- it serves the ports of the switch's plan, which is valid
pub record CanGoRound {K C : Type 0} (kept : KeptCore) (service : Service K C) : Type 0 where
  pub valid : IsValidPlan kept.core.value.plan
  pub serves : IsServiceOf kept.core.value.plan service

-- entries were made, behind those that were there
pub record HasGoneOn (past now : List Row) : Type 0 where
  pub newer : List Row
  pub split : now ≡ newer ++ past

-- what held behind the segments so far, of which the switch has the newest, holds now, where the history is legal now
abbrev pub HoldsOn : KeptCore → KeptCore → (List (List Row) → Type 0) → (List (List Row) → Type 0) → Type 0
HoldsOn kept now Before Now =
    (before : List (List Row)) → AreLegal kept.core.value.plan before → base_of kept.core.value ≡ base_after kept.core.value.plan before
    → IsLegal kept.core.value.plan (base_of kept.core.value) now.core.value.past → Before (kept.core.value.past ∷ before) → Now (now.core.value.past ∷ before)

-- One worker has gone on by entries of its pass alone, from the same plan and base, and stands behind them as before.
pub record GoesOnBy (pass : ℕ) (kept now : KeptCore) (Before Now : List (List Row) → Type 0) : Type 0 where
  pub plan_is : now.core.value.plan ≡ kept.core.value.plan
  pub checkpoint_is : now.core.value.checkpoint ≡ kept.core.value.checkpoint
  pub made : MadeBy pass kept.core.value.past now.core.value.past
  pub stands : HoldsOn kept now Before Now

-- the judge of a port
pub record InputGoesOn (kept : KeptCore) (old : Ingress) (now : KeptCore) (new : Ingress) : Type 0 where
  pub port : new.port ≡ old.port
  pub rings : taker_rings new.taker ≡ taker_rings old.taker
  pub goes : GoesOnBy (place_of kept.core.value.plan (number_of old.port)) kept now
      (λ segments. InputStands (number_of old.port) segments (was_taken old.taker) (kept_of old.kept))
      (λ segments. InputStands (number_of old.port) segments (was_taken new.taker) (kept_of new.kept))

-- The segment has gone on, from the same plan and base, and what serves the ends stands behind it as it did before.
pub record ServesOn {K C : Type 0} (written : K → Option (List ℕ)) (faults : K → ℕ) (readings : C → Option (List ℕ))
    (kept : KeptCore) (old : Service K C) (now : KeptCore) (new : Service K C) : Type 0 where
  pub plan_is : now.core.value.plan ≡ kept.core.value.plan
  pub checkpoint_is : now.core.value.checkpoint ≡ kept.core.value.checkpoint
  pub grown : HasGoneOn kept.core.value.past now.core.value.past
  pub same : IsSameService old new
  pub stands : (before : List (List Row)) → AreLegal kept.core.value.plan before → base_of kept.core.value ≡ base_after kept.core.value.plan before
      → IsLegal kept.core.value.plan (base_of kept.core.value) now.core.value.past
      → StandOn written faults readings kept.core.value.plan (kept.core.value.past ∷ before) (now.core.value.past ∷ before) old new
