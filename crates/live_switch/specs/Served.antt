-- What each worker leaves of a segment under its lock: its pass, which has ended, and its part of what serves the ends,
-- which stands behind what the pass has seen. A pass that ended in an earlier segment has seen nothing of this one.
use Rattle.std.specs.Prelude.{◌≡◌, ℕ, List, ◌∷◌, Option}
use Rattle.savi_kinds.specs.Ports.{number_of}
use Rattle.savi_kinds.specs.declared.entry.Who.{Who}
use Rattle.savi_kinds.specs.declared.entry.Who.TheVariants as passes
use Rattle.parcel_ring.specs.Sides.{taker_rings, was_taken}
use Rattle.hist_store.specs.Rows.{Row}
use Rattle.savi_history.specs.Passes.{pass_of}
use Rattle.savi_segments.specs.Segments.{AreLegal, base_after}
use Rattle.table_lock.specs.Passes.{pass_number}
use Rattle.table_lock.specs.declared.lock.TableLock.{TableLock}
use Rattle.table_lock.specs.declared.pass.Pass.{Pass}
use Rattle.core_keep.specs.declared.keep.KeptCore.{KeptCore}
use Rattle.core_keep.specs.Seen.{past_seen}
use Rattle.live_session.specs.Standing.{InputStands, OutputStands, TickerStands}
use Rattle.live_turns.specs.Seats.{lock_base, lock_plan}
use Rattle.live_input.specs.Judged.{kept_of}
use Rattle.live_input.specs.declared.judge.Ingress.{Ingress}
use Rattle.live_output.specs.declared.output.Output.{Output}
use Rattle.live_control.specs.Sides.{WorkerStands, worker_ring}
use Rattle.live_control.specs.declared.worker.ControlWorker.{ControlWorker}
use Rattle.live_ticker.specs.declared.ticker.TickerWorker.{TickerWorker}
use Rattle.live_switch.specs.Works.{IsOver}

-- the pass of `who`, which has ended
pub record IsOverOf (lock : TableLock KeptCore) (who : Who) (pass : Pass) : Type 0 where
  pub over : IsOver lock pass
  pub number_is : pass_number pass ≡ pass_of (lock_plan lock) who

-- what holds behind the segments before one holds behind that one too, as the pass has seen it
abbrev pub StandsBehind : TableLock KeptCore → Pass → (List (List Row) → Type 0) → (List (List Row) → Type 0) → Type 0
StandsBehind lock pass Before Now =
    (before : List (List Row)) → AreLegal (lock_plan lock) before → lock_base lock ≡ base_after (lock_plan lock) before → Before before → Now (past_seen pass ∷ before)

-- the judge of a port
pub record IsInputServed (lock : TableLock KeptCore) (old : Ingress) (dealt : Pass) (new : Ingress) (pass : Pass) : Type 0 where
  pub port : new.port ≡ old.port
  pub rings : taker_rings new.taker ≡ taker_rings old.taker
  pub ended : IsOverOf lock (passes.Ingress old.port) pass
  pub stands : StandsBehind lock pass
      (λ segments. InputStands (number_of old.port) segments (was_taken old.taker) (kept_of old.kept))
      (λ segments. InputStands (number_of old.port) segments (was_taken new.taker) (kept_of new.kept))

-- the output of a port
pub record IsOutputServed {K : Type 0} (written : K → Option (List ℕ)) (faults : K → ℕ) (lock : TableLock KeptCore)
    (old : Output K) (dealt : Pass) (new : Output K) (pass : Pass) : Type 0 where
  pub port : new.port ≡ old.port
  pub format : new.format ≡ old.format
  pub ended : IsOverOf lock (passes.Egress old.port) pass
  pub stands : (first : K) → StandsBehind lock pass
      (λ segments. OutputStands written faults old.format (lock_plan lock) (number_of old.port) segments old.begun first old.sink)
      (λ segments. OutputStands written faults old.format (lock_plan lock) (number_of old.port) segments new.begun first new.sink)

-- control, from its sink at the start of the session on, where there is control
pub record IsLineServed {K : Type 0} (written : K → Option (List ℕ)) (faults : K → ℕ) (lock : TableLock KeptCore)
    (old : ControlWorker K) (dealt : Pass) (new : ControlWorker K) (pass : Pass) : Type 0 where
  pub ring : worker_ring new.ends ≡ worker_ring old.ends
  pub ended : IsOverOf lock passes.Control pass
  pub stands : (first : Option K) → StandsBehind lock pass
      (λ segments. WorkerStands written faults (lock_plan lock) segments first old.ends)
      (λ segments. WorkerStands written faults (lock_plan lock) segments first new.ends)

-- the ticker
pub record IsTickerServed {C : Type 0} (readings : C → Option (List ℕ)) (lock : TableLock KeptCore)
    (old : TickerWorker C) (dealt : Pass) (new : TickerWorker C) (pass : Pass) : Type 0 where
  pub ended : IsOverOf lock passes.Ticker pass
  pub stands : (first : C) → StandsBehind lock pass
      (λ segments. TickerStands readings (lock_plan lock) segments first old.clock)
      (λ segments. TickerStands readings (lock_plan lock) segments first new.clock)
