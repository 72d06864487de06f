-- Which passes go on, one pass after the other.
use Rattle.std.proofs.Common.{◌≡◌, ℕ, ◌+◌, ◌<◌, Bool, true, not, List, [], ◌∷◌, ◌++◌, length, slice_index_or, refl, sym, ap, ◌∙◌, length-append, arith, inl, inr}
use Rattle.std.proofs.Math.Nat.{eq-or-lt_of_le}
use Rattle.savi_kinds.specs.declared.plan.Plan.{Plan}
use Rattle.savi_kinds.specs.declared.plan.PortPlan.{PortPlan}
use Rattle.savi_kinds.specs.Ports.{number_of}
use Rattle.savi_kinds.specs.ValidPlan.{IsValidPlan}
use Rattle.hist_store.specs.Rows.{Row}
use Rattle.checkpoint.specs.Bases.{Base}
use Rattle.savi_history.specs.Passes.{has_ended, has_port, pass_count, place_of}
use Rattle.savi_history.proofs.PassNumbers.{known_at, number_at, place_at}
use Rattle.live_switch.specs.Open.{AreOpen}
use Rattle.live_switch.proofs.Dealing.{at_end, at_front, number_here}

module _ (plan : Plan) (base : Base) (past : List Row) where
  -- of the first passes, so many
  pub record AreOpenBelow (count : ℕ) (going : List Bool) : Type 0 where
    pub size : length going ≡ count
    pub each : (pass : ℕ) (d : Bool) → pass < count → slice_index_or going pass d ≡ not (has_ended base pass past)

  pub open_none : AreOpenBelow 0 []
  open_none = record { size = refl; each = λ pass d below. absurd (omega (arith, below)) }

  pub open_more : (count : ℕ) (going : List Bool) (ended : Bool) → ended ≡ has_ended base count past → AreOpenBelow count going → AreOpenBelow (count + 1) (going ++ not ended ∷ [])
  open_more count going ended is were = record {
    size = omega (arith, were.size, length-append going (not ended ∷ []));
    each = λ pass d below.
        elim (eq-or-lt_of_le {n = pass} {m = count} (omega (arith, below))) [
          | inl at ↦ at_end going (not ended) pass d (at ∙ sym were.size) ∙ ap not is ∙ ap (λ (n : ℕ). not (has_ended base n past)) (sym at)
          | inr inside ↦ at_front going (not ended) pass d (omega (arith, inside, were.size)) ∙ were.each pass d inside
        ];
  }

  pub all_open : (going : List Bool) (count : ℕ) → count ≡ pass_count plan → AreOpenBelow count going → AreOpen plan base past going
  all_open going count is were = record { size = were.size ∙ is; each = λ pass d below. were.each pass d (omega (arith, below, is)) }

-- the port at a place of a plan has its passes by that place
module _ (plan : Plan) (place : ℕ) (port : PortPlan) (within : place < length plan.ports) (is : (p : PortPlan) → port ≡ slice_index_or plan.ports place p) where
  number_is : number_of port.number ≡ number_at plan place
  number_is = number_here plan.ports place (number_of port.number) within (λ p. ap (λ (x : PortPlan). number_of x.number) (is p))

  pub known_here : has_port plan (number_of port.number) ≡ true
  known_here = ap (λ (n : ℕ). has_port plan n) number_is ∙ known_at plan place within

  pub placed_here : IsValidPlan plan → place_of plan (number_of port.number) ≡ place
  placed_here valid = ap (λ (n : ℕ). place_of plan n) number_is ∙ place_at plan place valid.ports within
