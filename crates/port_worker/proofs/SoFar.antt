-- One port after another is read ahead.
use Rattle.std.proofs.Common.{◌≡◌, ◌≢◌, ℕ, ◌+◌, ◌<◌, ◌≤◌, List, length, get_or, set, refl, ◌∙◌, arith, ◌⊎◌, inl, inr}
use Rattle.std.proofs.lemmas.Bool.{cases_eq}
use Rattle.std.proofs.lemmas.List.{length-set, get_or-set_same, get_or-set_other, get_or_default}

-- the elements below a place are related, and the others are as they were
pub record PairsSoFar {X : Type 0} (R : X → X → Type 0) (place : ℕ) (old new : List X) : Type 0 where
  pub size : length new ≡ length old
  pub done : (k : ℕ) (d : X) → k < place → R (get_or old k d) (get_or new k d)
  pub still : (k : ℕ) (d : X) → place ≤ k → get_or new k d ≡ get_or old k d

pub pairs_none : {X : Type 0} (R : X → X → Type 0) (old : List X) → PairsSoFar R 0 old old
pairs_none R old = record { size = refl; done = λ k d below. absurd (omega arith); still = λ k d above. refl }

done_at : {X : Type 0} (R : X → X → Type 0) (place : ℕ) (old new : List X) (x : X) → PairsSoFar R place old new → place < length new → R (get_or old place x) x
    → (k : ℕ) (d : X) → k < place + 1 → (k ≡ place) ⊎ (k ≢ place) → R (get_or old k d) (get_or (set new place x) k d)
done_at R place old new x so_far inside related k d below (inl same) =
    let size = so_far.size in
    rw (same, get_or-set_same new place x d inside, get_or_default old place d x (omega arith)) related
done_at R place old new x so_far inside related k d below (inr other) = rw (get_or-set_other new place k x d other) (so_far.done k d (omega arith))

pub pairs_more : {X : Type 0} (R : X → X → Type 0) (place : ℕ) (old new : List X) (x : X) → PairsSoFar R place old new → place < length new → R (get_or old place x) x → PairsSoFar R (place + 1) old (set new place x)
pairs_more R place old new x so_far inside related = record {
  size = length-set new place x ∙ so_far.size;
  done = λ k d below. done_at R place old new x so_far inside related k d below (cases_eq k place);
  still = λ k d above. get_or-set_other new place k x d (omega arith) ∙ so_far.still k d (omega arith);
}

-- the element at the place is as it was at first
pub element_first : {X : Type 0} (R : X → X → Type 0) (place : ℕ) (old new : List X) (d e : X) → PairsSoFar R place old new → place < length new → get_or new place d ≡ get_or old place e
element_first R place old new d e so_far inside =
    let size = so_far.size in
    so_far.still place d (omega arith) ∙ get_or_default old place d e (omega arith)
