-- A segment as its lock is closed: what its workers left stands behind the history of the switch that comes back.
use Rattle.std.proofs.Common.{◌≡◌, ℕ, List, length, Option, ap, subst}
use Rattle.std.specs.List.{All}
use Rattle.savi_kinds.specs.declared.plan.Plan.{Plan}
use Rattle.checkpoint.specs.Bases.{Base}
use Rattle.checkpoint.specs.Columns as columns
use Rattle.savi_history.specs.Legal.{IsLegal}
use Rattle.savi_history.specs.Passes.{pass_count}
use Rattle.savi_core.specs.Machines.{Machine, base_of}
use Rattle.table_lock.specs.Entries.{StartsWith, mine}
use Rattle.table_lock.specs.Passes.{AreAll, AreNumbered, lock_first, lock_seats, pass_number, pass_own, pass_seen}
use Rattle.table_lock.specs.declared.lock.TableLock.{TableLock}
use Rattle.table_lock.specs.declared.pass.Pass.{Pass}
use Rattle.core_keep.specs.declared.keep.KeptCore.{KeptCore}
use Rattle.core_keep.specs.Pasts.{coded}
use Rattle.core_keep.specs.BaseCodes.{fixed_code}
use Rattle.core_keep.proofs.BasesApart.{one_fixed}
use Rattle.live_turns.specs.Seats.{kept_fixed, lock_base, lock_plan}
use Rattle.live_switch.specs.declared.services.Service.{Service}
use Rattle.live_switch.specs.Joined.{GoesOn, StandsAfter}
use Rattle.live_switch.specs.Segments.{HasServedSegment}
use Rattle.live_switch.specs.Works.{IsOver, IsSameService}
use Rattle.live_switch.proofs.Joining.{all_go_on, all_finished}

-- passes that have ended are of the lock, and these are all that it has
pub all_of : (lock : TableLock KeptCore) (passes : List Pass) → length passes ≡ lock_seats lock → All (IsOver lock) passes → AreAll kept_fixed lock passes
all_of lock passes size over = (size, λ k d within. (over k d within).of)

-- what the lock's closing says of the history of this switch, and of its plan
pub record IsClosed (lock : TableLock KeptCore) (passes : List Pass) (core : Machine) : Type 0 where
  pub entries : All (λ p. mine (pass_number p) (coded core.past) ≡ pass_own p) passes
  pub begins : All (λ p. StartsWith (coded core.past) (pass_seen p)) passes
  pub numbers : AreNumbered (lock_seats lock) passes
  pub fixed : fixed_code core.plan core.checkpoint ≡ fixed_code (lock_plan lock) (lock_first lock).core.value.checkpoint

module _ {K C : Type 0} (written : K → Option (List ℕ)) (faults : K → ℕ) (readings : C → Option (List ℕ)) (lock : TableLock KeptCore)
    (seats : lock_seats lock ≡ pass_count (lock_plan lock)) (passes : List Pass) (kept : KeptCore) (closed : IsClosed lock passes kept.core.value) where
  fixed_stays : (kept.core.value.plan ≡ lock_plan lock) × (kept.core.value.checkpoint ≡ (lock_first lock).core.value.checkpoint)
  fixed_stays = one_fixed kept.core.value.plan (lock_plan lock) kept.core.value.checkpoint (lock_first lock).core.value.checkpoint closed.fixed

  base_stays : base_of kept.core.value ≡ lock_base lock
  base_stays = ap columns.kept_base fixed_stays.1

  pub segment_of : (old new : Service K C) → IsLegal kept.core.value.plan (base_of kept.core.value) kept.core.value.past → All (IsOver lock) passes → IsSameService old new
      → StandsAfter written faults readings lock passes old new → HasServedSegment written faults readings (lock_plan lock) (lock_base lock) old kept new
  segment_of old new is_legal over same holds =
      let goes_on : All (GoesOn kept.core.value.past) passes = all_go_on kept.core.value.past passes closed.entries closed.begins in
      let legal : IsLegal (lock_plan lock) (lock_base lock) kept.core.value.past = subst (λ (t : Plan × Base). IsLegal t.0 t.1 kept.core.value.past) (λ i. (fixed_stays.0 i, base_stays i)) is_legal in
      let numbers : AreNumbered (pass_count (lock_plan lock)) passes = subst (λ (n : ℕ). AreNumbered n passes) seats closed.numbers in
      record {
        plan_is = fixed_stays.0;
        base_is = base_stays;
        legal = legal;
        finished = all_finished lock kept.core.value.past passes numbers over goes_on;
        same = same;
        stands = λ before legals base. holds before kept.core.value.past legals base legal goes_on;
      }
