-- The passes of workers that aren't running yet.
use Rattle.std.specs.Prelude.{◌≡◌, ℕ, ◌+◌, ◌<◌, List, [], length, slice_index_or, None}
use Rattle.table_lock.specs.Passes.{IsPassOf, pass_number, pass_sleeps_at}
use Rattle.table_lock.specs.declared.lock.TableLock.{TableLock}
use Rattle.table_lock.specs.declared.pass.Pass.{Pass}
use Rattle.core_keep.specs.declared.keep.KeptCore.{KeptCore}
use Rattle.core_keep.specs.Seen.{past_seen}
use Rattle.live_turns.specs.Seats.{kept_fixed, lock_plan}

-- the pass of the lock with this number, which has seen nothing of the segment, and has no place to sleep at
pub record IsFresh (lock : TableLock KeptCore) (number : ℕ) (pass : Pass) : Type 0 where
  pub of : IsPassOf kept_fixed lock pass
  pub number_is : pass_number pass ≡ number
  pub nothing : past_seen pass ≡ []
  pub placeless : pass_sleeps_at pass ≡ None

-- These are the passes of so many ports, the first of the plan, and those of control and of the ticker: first those of the
-- ports' inputs, then of control and the ticker, then of the ports' outputs.
pub record AreFor (lock : TableLock KeptCore) (count : ℕ) (passes : List Pass) : Type 0 where
  pub size : length passes ≡ count + 2 + count
  pub inputs : (k : ℕ) (d : Pass) → k < count → IsFresh lock k (slice_index_or passes k d)
  pub others : (k : ℕ) (d : Pass) → k < 2 + count → IsFresh lock (length (lock_plan lock).ports + k) (slice_index_or passes (count + k) d)
