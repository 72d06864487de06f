-- Control's worker, with control or without.
use Rattle.std.proofs.Common.{◌≡◌, ℕ, List, [], ◌∷◌, sym, subst, Option, Some, None}
use Rattle.savi_kinds.specs.declared.plan.Plan.{Plan}
use Rattle.hist_store.specs.Rows.{Row}
use Rattle.live_session.specs.Standing.{NoControlStands}
use Rattle.live_control.specs.Sides.{SideStands, WorkerStands}
use Rattle.live_control.specs.declared.side.ControlSide.{ControlSide}

module _ {K : Type 0} (written : K → Option (List ℕ)) (faults : K → ℕ) (plan : Plan) (before now : List (List Row)) where
  pub by_side : (first : Option K) (old : Option (ControlSide K)) (side new : ControlSide K) → old ≡ Some side
      → ((f : K) → SideStands written faults plan before f side → SideStands written faults plan now f new) → WorkerStands written faults plan before first old → WorkerStands written faults plan now first (Some new)
  by_side (Some f) old side new is step stands = step f (subst (λ (o : Option (ControlSide K)). WorkerStands written faults plan before (Some f) o) is stands)
  by_side None old side new is step stands = absurd (subst (λ (o : Option (ControlSide K)). WorkerStands written faults plan before None o) is stands)

  pub by_none : (first : Option K) (old : Option (ControlSide K)) → old ≡ None → (NoControlStands before → NoControlStands now) → WorkerStands written faults plan before first old → WorkerStands written faults plan now first None
  by_none (Some f) old is step stands = absurd (subst (λ (o : Option (ControlSide K)). WorkerStands written faults plan before (Some f) o) is stands)
  by_none None old is step stands = step (subst (λ (o : Option (ControlSide K)). WorkerStands written faults plan before None o) is stands)

-- the next segment begins, and holds nothing yet
pub first_none : (before : List (List Row)) (past : List Row) → past ≡ [] → NoControlStands before → NoControlStands (past ∷ before)
first_none before past none stands =
    subst (λ (rows : List Row). NoControlStands (rows ∷ before)) (sym none) (record { none = stands.none; ended = stands.ended })
