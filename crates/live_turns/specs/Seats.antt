-- A pass of a session's lock, whose it is, and whether it has ended.
use Rattle.std.specs.Prelude.{◌≡◌, ℕ, Bool, true, false, List, [], Option, Some, None}
use Rattle.savi_kinds.specs.declared.plan.Plan.{Plan}
use Rattle.savi_kinds.specs.declared.entry.Who.{Who}
use Rattle.savi_kinds.specs.declared.entry.Who.TheVariants.{Ingress, Control, Ticker, Egress}
use Rattle.savi_kinds.specs.Ports.{number_of}
use Rattle.table_lock.specs.declared.lock.TableLock.{TableLock}
use Rattle.table_lock.specs.declared.pass.Pass.{Pass}
use Rattle.table_lock.specs.Passes.{IsPassOf, lock_first, pass_number, pass_sleeps_at}
use Rattle.checkpoint.specs.Bases.{Base}
use Rattle.savi_history.specs.Passes.{has_ended, has_pass, pass_of}
use Rattle.savi_core.specs.Machines.{base_of}
use Rattle.core_keep.specs.declared.keep.KeptCore.{KeptCore}
use Rattle.core_keep.specs.BaseCodes.{fixed_code}
use Rattle.core_keep.specs.Seen.{past_seen}

-- what no entry changes of the switch under the lock
abbrev pub kept_fixed : KeptCore → List ℕ
kept_fixed kept = fixed_code kept.core.value.plan kept.core.value.checkpoint

-- the plan of the switch under the lock
abbrev pub lock_plan : TableLock KeptCore → Plan
lock_plan lock = (lock_first lock).core.value.plan

-- what its history goes on from
abbrev pub lock_base : TableLock KeptCore → Base
lock_base lock = base_of (lock_first lock).core.value

-- where a worker sleeps at the lock: that of an egress at the place of its port's number, and the others nowhere
abbrev pub sleeps_at : Who → Option ℕ
sleeps_at (Ingress port) = None
sleeps_at Control = None
sleeps_at Ticker = None
sleeps_at (Egress port) = Some (number_of port)

-- This pass of the lock is that of `who`, which the plan has, and sleeps where that sleeps; in what the pass has seen it has
-- ended, or not.
pub record IsAt (lock : TableLock KeptCore) (who : Who) (ended : Bool) (pass : Pass) : Type 0 where
  pub of : IsPassOf kept_fixed lock pass
  pub known : has_pass (lock_plan lock) who ≡ true
  pub number_is : pass_number pass ≡ pass_of (lock_plan lock) who
  pub sleeps : pass_sleeps_at pass ≡ sleeps_at who
  pub state : has_ended (lock_base lock) (pass_of (lock_plan lock) who) (past_seen pass) ≡ ended

abbrev pub IsRunning : TableLock KeptCore → Who → Pass → Type 0
IsRunning lock who pass = IsAt lock who false pass

abbrev pub IsEndedPass : TableLock KeptCore → Who → Pass → Type 0
IsEndedPass lock who pass = IsAt lock who true pass

-- the pass of `who` at the start of a segment: it has seen nothing of it, and has no place to sleep at yet
pub record IsDealtTo (lock : TableLock KeptCore) (who : Who) (pass : Pass) : Type 0 where
  pub of : IsPassOf kept_fixed lock pass
  pub known : has_pass (lock_plan lock) who ≡ true
  pub number_is : pass_number pass ≡ pass_of (lock_plan lock) who
  pub nothing : past_seen pass ≡ []
  pub placeless : pass_sleeps_at pass ≡ None

-- the same, and it has not ended in what the segment goes on from
pub record IsNewPass (lock : TableLock KeptCore) (who : Who) (pass : Pass) : Type 0 where
  pub dealt : IsDealtTo lock who pass
  pub open_in : has_ended (lock_base lock) (pass_of (lock_plan lock) who) [] ≡ false
