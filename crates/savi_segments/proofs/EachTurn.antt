-- What holds of each turn of inputs holds of each one where they are one list.
use Rattle.std.proofs.Common.{ℕ, suc, nat_lt, Bool, true, false, if◌then◌else◌, List, [], ◌∷◌, get_or}
use Rattle.savi_history.specs.Merges.{enter, merge, merged}
use Rattle.savi_history.specs.Turns.{Turn, turn_at}

module _ (P : Turn → Type 0) where
  abbrev pub Each : List Turn → Type 0
  Each [] = Unit {0}
  Each (x ∷ xs) = P x × Each xs

  module _ (x : Turn) (rest : List Turn → List Turn) (first : P x) (behind : (ys : List Turn) → Each ys → Each (rest ys)) where
    enter_at : (b : Bool) (y : Turn) (ys : List Turn) → Each (y ∷ ys) → Each (enter turn_at x rest ys) → Each (if b then y ∷ enter turn_at x rest ys else x ∷ rest (y ∷ ys))
    enter_at true y ys each step = (each.0, step)
    enter_at false y ys each step = (first, behind (y ∷ ys) each)

    each_entered : (ys : List Turn) → Each ys → Each (enter turn_at x rest ys)
    each_entered [] each = (first, behind [] tt)
    each_entered (y ∷ ys) each = enter_at (nat_lt (turn_at y) (turn_at x)) y ys each (each_entered ys each.1)

  pub each_merge : (xs ys : List Turn) → Each xs → Each ys → Each (merge turn_at xs ys)
  each_merge [] ys one other = other
  each_merge (x ∷ xs) ys one other = each_entered x (merge turn_at xs) one.0 (λ zs each. each_merge xs zs one.1 each) ys other

  pub each_merged : (inputs : List (List Turn)) → ((k : ℕ) → Each (get_or inputs k [])) → Each (merged turn_at inputs)
  each_merged [] each = tt
  each_merged (input ∷ inputs) each = each_merge input (merged turn_at inputs) (each 0) (each_merged inputs (λ k. each (suc k)))
