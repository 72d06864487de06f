-- What a pass has seen of the history, and what the history may be later.
use Rattle.std.specs.Prelude.{◌≡◌, ℕ, ◌==◌, false, List, [], ◌∷◌, ◌++◌}
use Rattle.hist_store.specs.Rows.{Row}
use Rattle.table_lock.specs.declared.pass.Pass.{Pass}
use Rattle.table_lock.specs.Passes.{pass_seen}
use Rattle.core_keep.specs.Pasts.{decoded}

-- the history as the pass saw it last, the newest row first
abbrev pub past_seen : Pass → List Row
past_seen pass = decoded (pass_seen pass)

-- no row of these is of this pass
abbrev pub AreOthers : ℕ → List Row → Type 0
AreOthers pass [] = Unit {0}
AreOthers pass (row ∷ newer) = ((row.entry.by == pass) ≡ false) × AreOthers pass newer

-- the history has gone on, by rows of other passes alone
pub record IsLater (pass : ℕ) (before now : List Row) : Type 0 where
  pub newer : List Row
  pub split : now ≡ newer ++ before
  pub others : AreOthers pass newer
