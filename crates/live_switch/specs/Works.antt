-- What workers are given to do in a segment under its lock, and what they give back.
use Rattle.std.specs.Prelude.{◌≡◌, ℕ, ◌<◌, ◌≤◌, true, List, length, slice_index_or, Option, vec_len, vec_capacity}
use Rattle.std.specs.List.{All}
use Rattle.savi_kinds.specs.ValidPlan.{IsValidPlan}
use Rattle.savi_kinds.specs.declared.plan.Plan.{Plan}
use Rattle.savi_kinds.specs.declared.plan.PortPlan.{PortPlan}
use Rattle.savi_history.specs.Passes.{has_ended}
use Rattle.parcel_ring.specs.Sides.{taker_rings}
use Rattle.table_lock.specs.Passes.{IsPassOf, pass_number}
use Rattle.table_lock.specs.declared.lock.TableLock.{TableLock}
use Rattle.table_lock.specs.declared.pass.Pass.{Pass}
use Rattle.core_keep.specs.declared.keep.KeptCore.{KeptCore}
use Rattle.core_keep.specs.Seen.{past_seen}
use Rattle.live_turns.specs.Seats.{kept_fixed, lock_base, lock_plan}
use Rattle.live_control.specs.Sides.{worker_ring}
use Rattle.live_switch.specs.declared.services.PortService.{PortService}
use Rattle.live_switch.specs.declared.services.Service.{Service}
use Rattle.live_switch.specs.declared.workers.Shift.{Shift}
use Rattle.live_switch.specs.Dealt.{AreFor}
use Rattle.live_switch.specs.Joined.{StandsAfter}

-- a pass of the lock that has ended in what it has seen, or in what the segment goes on from
pub record IsOver (lock : TableLock KeptCore) (pass : Pass) : Type 0 where
  pub of : IsPassOf kept_fixed lock pass
  pub ended : has_ended (lock_base lock) (pass_number pass) (past_seen pass) ≡ true

-- what serves this port of the plan
pub record IsPortService {K : Type 0} (p : PortPlan) (service : PortService K) : Type 0 where
  pub judge : service.judge.port ≡ p.number
  pub writer : service.writer.port ≡ p.number
  pub format : service.writer.format ≡ p.format

-- what serves the first ports of the plan
abbrev pub ServesFirstPorts : {K C : Type 0} → Plan → Service K C → Type 0
ServesFirstPorts {K} plan service =
    (place : ℕ) (p : PortPlan) (d : PortService K) → place < vec_len service.ports
    → IsPortService (slice_index_or plan.ports place p) (slice_index_or service.ports.items place d)

-- what serves all of them
pub record IsServiceOf {K C : Type 0} (plan : Plan) (service : Service K C) : Type 0 where
  pub size : vec_len service.ports ≡ length plan.ports
  pub ports : ServesFirstPorts plan service

-- it serves the same port as before, by the same rings
pub record ServesSamePort {K : Type 0} (old new : PortService K) : Type 0 where
  pub judge : new.judge.port ≡ old.judge.port
  pub rings : taker_rings new.judge.taker ≡ taker_rings old.judge.taker
  pub writer : (new.writer.port ≡ old.writer.port) × (new.writer.format ≡ old.writer.format)

-- it serves the same ports and control as before, by the same rings, and has room for as many
pub record IsSameService {K C : Type 0} (old new : Service K C) : Type 0 where
  pub len : vec_len new.ports ≡ vec_len old.ports
  pub room : vec_capacity new.ports ≡ vec_capacity old.ports
  pub ports : (place : ℕ) (d : PortService K) → place < vec_len old.ports → ServesSamePort (slice_index_or old.ports.items place d) (slice_index_or new.ports.items place d)
  pub ring : worker_ring new.control.ends ≡ worker_ring old.control.ends

-- the workers of the first ports of the plan, of control and of the ticker have what they need
pub record IsReadyShift {K C : Type 0} (lock : TableLock KeptCore) (shift : Shift K C) : Type 0 where
  pub valid : IsValidPlan (lock_plan lock)
  pub few : vec_len shift.service.ports ≤ length (lock_plan lock).ports
  pub ports : ServesFirstPorts (lock_plan lock) shift.service
  pub passes : AreFor lock (vec_len shift.service.ports) shift.passes.items

module _ {K C : Type 0} (written : K → Option (List ℕ)) (faults : K → ℕ) (readings : C → Option (List ℕ)) where
  -- Their passes have ended, and what serves the ends stands behind the segment.
  pub record IsDone (lock : TableLock KeptCore) (old new : Shift K C) : Type 0 where
    pub same : IsSameService old.service new.service
    pub passes_len : vec_len new.passes ≡ vec_len old.passes
    pub passes_room : vec_capacity new.passes ≡ vec_capacity old.passes
    pub ended : All (IsOver lock) new.passes.items
    pub stands : StandsAfter written faults readings lock new.passes.items old.service new.service
