-- Which passes go on in a segment.
use Rattle.std.specs.Prelude.{◌≡◌, ℕ, ◌<◌, Bool, not, List, [], length, slice_index_or}
use Rattle.savi_kinds.specs.declared.plan.Plan.{Plan}
use Rattle.hist_store.specs.Rows.{Row}
use Rattle.checkpoint.specs.Bases.{Base}
use Rattle.savi_history.specs.Passes.{has_ended, pass_count}
use Rattle.table_lock.specs.declared.lock.TableLock.{TableLock}
use Rattle.core_keep.specs.declared.keep.KeptCore.{KeptCore}
use Rattle.live_turns.specs.Seats.{lock_base, lock_plan}

-- of each pass of the plan, by its number, whether it has not ended behind these rows
pub record AreOpen (plan : Plan) (base : Base) (past : List Row) (going : List Bool) : Type 0 where
  pub size : length going ≡ pass_count plan
  pub each : (pass : ℕ) (d : Bool) → pass < pass_count plan → slice_index_or going pass d ≡ not (has_ended base pass past)

-- the same at the start of the segment under a lock
abbrev pub AreOpenIn : TableLock KeptCore → List Bool → Type 0
AreOpenIn lock going = AreOpen (lock_plan lock) (lock_base lock) [] going
