-- Lanes that are opened again, one after another.
use Rattle.std.proofs.Common.{◌≡◌, ℕ, zero, suc, ◌+◌, ◌<◌, ◌≤◌, Option, None, List, [], ◌∷◌, length, get_or, set, refl, ap, ◌∙◌, arith, add-one}
use Rattle.std.specs.Prelude.{slice_index_or}
use Rattle.std.specs.Option.{is_some}
use Rattle.savi_kinds.specs.declared.entry.How.{How}
use Rattle.savi_core.specs.Lanes.{Lane, with_reopened}
use Rattle.savi_core.specs.Turns.{reopened}

-- those from a place on have still to be opened
abbrev pub reopened_from : {A : Type 0} → ℕ → List (Option How) → ℕ → List (Lane A) → List (Lane A)
reopened_from first ends zero lanes = reopened first ends lanes
reopened_from first ends (suc n) [] = []
reopened_from first ends (suc n) (lane ∷ lanes) = lane ∷ reopened_from (first + 1) ends n lanes

module _ {A : Type 0} (ends : List (Option How)) where
  -- the lane of this pass, opened
  abbrev pub opened : ℕ → Lane A → Lane A
  opened pass lane = with_reopened (is_some (slice_index_or ends pass None)) lane

  reopened_next : (first : ℕ) (lanes : List (Lane A)) (i : ℕ) (d : Lane A) → i < length lanes → reopened_from first ends (suc i) (set lanes i (opened (first + i) (get_or lanes i d))) ≡ reopened_from first ends i lanes
  reopened_next first [] i d within = absurd (omega (arith, within))
  reopened_next first (x ∷ lanes) zero d within =
      let same : first + 0 ≡ first = omega arith in
      ap (λ (pass : ℕ). opened pass x ∷ reopened (first + 1) ends lanes) same
  reopened_next first (x ∷ lanes) (suc i) d within =
      let same : first + suc i ≡ first + 1 + i = omega arith in
      ap (λ (pass : ℕ). x ∷ reopened_from (first + 1) ends (suc i) (set lanes i (opened pass (get_or lanes i d)))) same
      ∙ ap (λ (ls : List (Lane A)). x ∷ ls) (reopened_next (first + 1) lanes i d (omega (arith, within)))

  pub reopened_more : (first : ℕ) (lanes : List (Lane A)) (i : ℕ) (d v : Lane A) → i < length lanes → v ≡ opened (first + i) (get_or lanes i d) → reopened_from first ends (i + 1) (set lanes i v) ≡ reopened_from first ends i lanes
  reopened_more first lanes i d v within is =
      rw (add-one i) (ap (λ (y : Lane A). reopened_from first ends (suc i) (set lanes i y)) is ∙ reopened_next first lanes i d within)

  pub reopened_all : (first : ℕ) (lanes : List (Lane A)) (i : ℕ) → length lanes ≤ i → reopened_from first ends i lanes ≡ lanes
  reopened_all first [] zero past = refl
  reopened_all first [] (suc i) past = refl
  reopened_all first (x ∷ lanes) zero past = absurd (omega (arith, past))
  reopened_all first (x ∷ lanes) (suc i) past = ap (λ (ls : List (Lane A)). x ∷ ls) (reopened_all (first + 1) lanes i (omega (arith, past)))
