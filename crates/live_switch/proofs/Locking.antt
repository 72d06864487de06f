-- A lock that was made round a switch in whose history nothing is yet.
use Rattle.std.proofs.Common.{◌≡◌, ℕ, ◌+◌, Bool, List, [], length, sym, ap, subst, ◌∙◌, vec_len, arith}
use Rattle.savi_kinds.specs.declared.plan.Plan.{Plan}
use Rattle.savi_kinds.specs.ValidPlan.{IsValidPlan}
use Rattle.hist_store.specs.Rows.{Row}
use Rattle.checkpoint.specs.Bases.{Base}
use Rattle.savi_history.specs.Passes.{pass_count}
use Rattle.savi_core.specs.Machines.{Machine, base_of}
use Rattle.table_lock.specs.Passes.{AreAll, AreDealt, lock_first, lock_seats}
use Rattle.table_lock.specs.declared.lock.TableLock.{TableLock}
use Rattle.table_lock.specs.declared.pass.Pass.{Pass}
use Rattle.core_keep.specs.declared.keep.KeptCore.{KeptCore}
use Rattle.live_turns.specs.Seats.{kept_fixed, lock_base, lock_plan}
use Rattle.live_switch.specs.declared.services.Service.{Service}
use Rattle.live_switch.specs.declared.workers.Shift.{Shift}
use Rattle.live_switch.specs.Dealt.{AreFor}
use Rattle.live_switch.specs.Open.{AreOpen, AreOpenIn}
use Rattle.live_switch.specs.Works.{IsReadyShift, IsServiceOf, ServesFirstPorts}
use Rattle.live_switch.proofs.Dealing.{all_dealt}

module _ (lock : TableLock KeptCore) (core : Machine) (first : (lock_first lock).core.value ≡ core) where
  pub plan_at : lock_plan lock ≡ core.plan
  plan_at = ap (λ (m : Machine). m.plan) first

  pub base_at : lock_base lock ≡ base_of core
  base_at = ap (λ (m : Machine). base_of m) first

  pub going_at : (going : List Bool) → core.past ≡ [] → AreOpen core.plan (base_of core) core.past going → AreOpenIn lock going
  going_at going none is = subst (λ (t : Plan × Base × List Row). AreOpen t.0 t.1 t.2 going) (λ i. (sym plan_at i, sym base_at i, none i)) is

  module _ (seats : lock_seats lock ≡ pass_count core.plan) where
    pub seats_at : lock_seats lock ≡ pass_count (lock_plan lock)
    seats_at = seats ∙ ap pass_count (sym plan_at)

    pub passes_at : (passes : List Pass) → AreAll kept_fixed lock passes → AreDealt passes → AreFor lock (length core.plan.ports) passes
    passes_at passes all dealt = subst (λ (p : Plan). AreFor lock (length p.ports) passes) plan_at (all_dealt lock passes all dealt seats_at)

    pub ready_at : {K C : Type 0} (service : Service K C) (shift : Shift K C) → shift.service ≡ service → IsValidPlan core.plan → IsServiceOf core.plan service
        → AreAll kept_fixed lock shift.passes.items → AreDealt shift.passes.items → IsReadyShift lock shift
    ready_at {K} {C} service shift is valid serves all dealt =
        let of : IsServiceOf core.plan shift.service = subst (λ (s : Service K C). IsServiceOf core.plan s) (sym is) serves in
        record {
          valid = subst IsValidPlan (sym plan_at) valid;
          few = omega (arith, of.size, ap (λ (p : Plan). length p.ports) plan_at);
          ports = subst (λ (p : Plan). ServesFirstPorts p shift.service) (sym plan_at) of.ports;
          passes = subst (λ (n : ℕ). AreFor lock n shift.passes.items) (sym of.size) (passes_at shift.passes.items all dealt);
        }

    pub whole_at : {K C : Type 0} (service : Service K C) → IsServiceOf core.plan service → vec_len service.ports + vec_len service.ports + 2 ≡ lock_seats lock
    whole_at service serves = omega (arith, serves.size, seats)
