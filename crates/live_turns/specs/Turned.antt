-- What a pass knows of a turn that it took.
use Rattle.std.specs.Prelude.{List}
use Rattle.savi_kinds.specs.declared.plan.Plan.{Plan}
use Rattle.savi_kinds.specs.declared.entry.Who.{Who}
use Rattle.table_lock.specs.declared.lock.TableLock.{TableLock}
use Rattle.table_lock.specs.declared.pass.Pass.{Pass}
use Rattle.hist_store.specs.Rows.{Row}
use Rattle.checkpoint.specs.Bases.{Base}
use Rattle.savi_history.specs.Legal.{IsLegal}
use Rattle.savi_history.specs.Passes.{pass_of}
use Rattle.core_keep.specs.declared.keep.KeptCore.{KeptCore}
use Rattle.core_keep.specs.Seen.{IsLater, past_seen}
use Rattle.live_turns.specs.Seats.{lock_base, lock_plan}

-- The turn found a legal history, which had gone on by entries of other passes since the pass saw it last; and what the pass
-- has seen behind the turn is what the turn made of it.
pub record Turned (lock : TableLock KeptCore) (who : Who) (before after : Pass)
    (Did : Plan → Base → List Row → List Row → Type 0) : Type 0 where
  pub found : List Row
  pub later : IsLater (pass_of (lock_plan lock) who) (past_seen before) found
  pub legal : IsLegal (lock_plan lock) (lock_base lock) found
  pub did : Did (lock_plan lock) (lock_base lock) found (past_seen after)
