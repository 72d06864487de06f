-- How far what serves the ends of a session is, by its segments so far, the newest first.
use Rattle.std.specs.Prelude.{◌≡◌, ℕ, ◌<◌, List, ◌∷◌, length, map, slice_index_or, Option, Some, None}
use Rattle.std.specs.List.{All}
use Rattle.savi_kinds.specs.Ports.{number_of}
use Rattle.savi_kinds.specs.declared.plan.Plan.{Plan}
use Rattle.savi_kinds.specs.declared.plan.PortPlan.{PortPlan}
use Rattle.parcel_ring.specs.Sides.{was_taken}
use Rattle.hist_store.specs.Rows.{Row}
use Rattle.savi_history.specs.Legal.{IsLegal}
use Rattle.savi_segments.specs.Segments.{AreLegal, base_after}
use Rattle.table_lock.specs.declared.lock.TableLock.{TableLock}
use Rattle.table_lock.specs.declared.pass.Pass.{Pass}
use Rattle.table_lock.specs.Passes.{pass_number}
use Rattle.core_keep.specs.declared.keep.KeptCore.{KeptCore}
use Rattle.core_keep.specs.Seen.{past_seen, IsLater}
use Rattle.live_session.specs.Standing.{InputStands, OutputStands, TickerStands}
use Rattle.live_turns.specs.Seats.{lock_base, lock_plan}
use Rattle.live_input.specs.Judged.{kept_of}
use Rattle.live_control.specs.Sides.{WorkerStands}
use Rattle.live_control.specs.declared.side.ControlSide.{ControlSide}
use Rattle.live_switch.specs.declared.services.PortService.{PortService}
use Rattle.live_switch.specs.declared.services.Service.{Service}

-- What served the ends at the start of a session, as far as what is done now is told by it: the sinks of the ports, in their
-- order, control's sink, where there is control, and the ticker's clock.
pub record Firsts (K C : Type 0) : Type 0 where
  pub sinks : List K
  pub sink : Option K
  pub clock : C

-- the sink of control's replies, where there is control
abbrev pub sink_of : {K : Type 0} → Option (ControlSide K) → Option K
sink_of (Some side) = Some side.sink
sink_of None = None

-- what serves the ends, as the start of a session
abbrev pub firsts_of : {K C : Type 0} → Service K C → Firsts K C
firsts_of service = record {
  sinks = map (λ port. port.writer.sink) service.ports.items;
  sink = sink_of service.control.ends;
  clock = service.ticker.clock;
}

-- what serves a port of the plan, whose sink was this one at the start
pub record PortStands {K : Type 0} (written : K → Option (List ℕ)) (faults : K → ℕ) (plan : Plan) (segments : List (List Row)) (p : PortPlan) (first : K) (now : PortService K) : Type 0 where
  pub input : InputStands (number_of p.number) segments (was_taken now.judge.taker) (kept_of now.judge.kept)
  pub output : OutputStands written faults p.format plan (number_of p.number) segments now.writer.begun first now.writer.sink

module _ {K C : Type 0} (written : K → Option (List ℕ)) (faults : K → ℕ) (readings : C → Option (List ℕ)) (plan : Plan) where
  -- the first ports of the plan, control and the ticker
  pub record AllStand (segments : List (List Row)) (first : Firsts K C) (now : Service K C) : Type 0 where
    pub size : length now.ports.items ≡ length first.sinks
    pub ports : (place : ℕ) (p : PortPlan) (k : K) (d : PortService K) → place < length first.sinks → PortStands written faults plan segments (slice_index_or plan.ports place p) (slice_index_or first.sinks place k) (slice_index_or now.ports.items place d)
    pub control : WorkerStands written faults plan segments first.sink now.control.ends
    pub ticker : TickerStands readings plan segments first.clock now.ticker.clock

  -- Where all stood so behind the first segments, they stand so behind the segments now.
  abbrev pub StandOn : List (List Row) → List (List Row) → Service K C → Service K C → Type 0
  StandOn before now old new = (first : Firsts K C) → AllStand before first old → AllStand now first new

  -- they stand so as they did, whatever the segments are
  abbrev pub StandStill : Service K C → Service K C → Type 0
  StandStill old new = (segments : List (List Row)) → StandOn segments segments old new

-- the history has gone on from what the pass has seen by entries of other passes
abbrev pub GoesOn : List Row → Pass → Type 0
GoesOn past pass = IsLater (pass_number pass) (past_seen pass) past

-- What workers under a lock make of what serves the ends: it stands behind the segment, by each legal history that has
-- gone on from what their passes have seen by entries of others.
abbrev pub StandsAfter : {K C : Type 0} → (K → Option (List ℕ)) → (K → ℕ) → (C → Option (List ℕ)) → TableLock KeptCore → List Pass
    → Service K C → Service K C → Type 0
StandsAfter written faults readings lock passes old new =
    (before : List (List Row)) (past : List Row) → AreLegal (lock_plan lock) before → lock_base lock ≡ base_after (lock_plan lock) before
    → IsLegal (lock_plan lock) (lock_base lock) past → All (GoesOn past) passes
    → StandOn written faults readings (lock_plan lock) before (past ∷ before) old new
