-- A pass that goes on in the newest of legal segments hasn't ended for good in what they tell.
use Rattle.std.proofs.Common.{◌≡◌, ℕ, true, false, List, ◌∷◌, refl, Option, Some, None}
use Rattle.std.specs.Prelude.{IsSome}
use Rattle.savi_kinds.specs.declared.plan.Plan.{Plan}
use Rattle.hist_store.specs.Rows.{Row}
use Rattle.savi_history.specs.ControlInputs.{control_end}
use Rattle.savi_history.specs.Legal.{IsLegal}
use Rattle.savi_history.specs.Passes.{control_pass, egress_pass, has_ended, has_port, place_of}
use Rattle.savi_history.specs.PortInputs.{input_end}
use Rattle.savi_history.specs.PortOutputs.{output_end}
use Rattle.savi_segments.specs.Segments.{AreLegal, base_after, joined}
use Rattle.savi_segments.specs.Unbroken.{unbroken}
use Rattle.savi_segments.proofs.Failures.{Tells, apart_now, tells_rows, tells_segments}

none_of : {A : Type 0} (o : Option A) → (IsSome o → ⊥) → o ≡ None
none_of None never = refl
none_of (Some x) never = absurd (never refl)

module _ (plan : Plan) (past : List Row) (before : List (List Row)) (legal : IsLegal plan (base_after plan before) past) (all : AreLegal plan before) where
  tells : Tells plan (base_after plan before) past (unbroken (past ∷ before))
  tells = tells_rows plan (base_after plan before) past (joined before) legal (tells_segments plan before all)

  pub input_open : (port : ℕ) → has_port plan port ≡ true → has_ended (base_after plan before) (place_of plan port) past ≡ false → input_end port (unbroken (past ∷ before)) ≡ None
  input_open port known running =
      none_of (input_end port (unbroken (past ∷ before)))
      (λ is. apart_now plan (base_after plan before) past (place_of plan) port port legal running (tells.inputs port known is) refl)

  pub output_open : (port : ℕ) → has_port plan port ≡ true → has_ended (base_after plan before) (egress_pass plan port) past ≡ false → output_end port (unbroken (past ∷ before)) ≡ None
  output_open port known running =
      none_of (output_end port (unbroken (past ∷ before)))
      (λ is. apart_now plan (base_after plan before) past (egress_pass plan) port port legal running (tells.outputs port known is) refl)

  pub control_open : has_ended (base_after plan before) (control_pass plan) past ≡ false → control_end (unbroken (past ∷ before)) ≡ None
  control_open running =
      none_of (control_end (unbroken (past ∷ before)))
      (λ is. apart_now plan (base_after plan before) past (λ (n : ℕ). n) (control_pass plan) (control_pass plan) legal running (tells.control is) refl)
