-- What a worker adds to the history in a round of a thread that has the core alone.
use Rattle.std.specs.Prelude.{◌≡◌, ℕ, List, [], ◌∷◌, ◌++◌}
use Rattle.hist_store.specs.Rows.{Row}

-- each row of these is of this pass
abbrev pub AreOwn : ℕ → List Row → Type 0
AreOwn pass [] = Unit {0}
AreOwn pass (row ∷ newer) = (row.entry.by ≡ pass) × AreOwn pass newer

-- The history has gone on, by rows of this pass alone.
pub record MadeBy (pass : ℕ) (found now : List Row) : Type 0 where
  pub newer : List Row
  pub split : now ≡ newer ++ found
  pub own : AreOwn pass newer
