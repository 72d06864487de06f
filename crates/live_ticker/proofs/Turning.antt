-- A turn of the ticker, by what stood when its pass saw the segment last.
use Rattle.std.proofs.Common.{◌≡◌, ℕ, false, List, ◌∷◌, subst, ◌∙◌, Option}
use Rattle.savi_kinds.specs.declared.entry.Who.TheVariants.{Ticker}
use Rattle.savi_ends.specs.Readings.{AddsReading}
use Rattle.hist_store.specs.Rows.{Row}
use Rattle.checkpoint.specs.Bases.{Base}
use Rattle.savi_history.specs.Passes.{has_ended, ticker_pass}
use Rattle.savi_segments.specs.Segments.{base_after}
use Rattle.table_lock.specs.declared.lock.TableLock.{TableLock}
use Rattle.table_lock.specs.declared.pass.Pass.{Pass}
use Rattle.core_keep.specs.declared.keep.KeptCore.{KeptCore}
use Rattle.core_keep.specs.Seen.{past_seen}
use Rattle.live_session.specs.Standing.{TickerStands}
use Rattle.live_session.proofs.StandsOn.{ticker_later}
use Rattle.live_turns.specs.Seats.{IsRunning, lock_base, lock_plan}
use Rattle.live_turns.specs.Turned.{Turned}
use Rattle.live_turns.specs.TurnKinds.{DidTick}
use Rattle.live_turns.specs.declared.kinds.TickTurn.{TickTurn}
use Rattle.live_turns.proofs.OverSegments.{did_so, found_legal}
use Rattle.live_turns.proofs.Seating.{ended_stays}
use Rattle.live_ticker.proofs.Reading.{ticks_by}

module _ {C : Type 0} (readings : C → Option (List ℕ)) (lock : TableLock KeptCore) (before after : Pass) (stamp : ℕ) (came : TickTurn) (running : IsRunning lock Ticker before)
    (turned : Turned lock Ticker before after (DidTick stamp came)) (segments : List (List Row)) (goes_on : lock_base lock ≡ base_after (lock_plan lock) segments) where
  still_runs : has_ended (base_after (lock_plan lock) segments) (ticker_pass (lock_plan lock)) turned.found ≡ false
  still_runs =
      subst (λ (base : Base). has_ended base (ticker_pass (lock_plan lock)) turned.found ≡ false) goes_on
      (ended_stays (lock_base lock) (ticker_pass (lock_plan lock)) (past_seen before) turned.found turned.later ∙ running.state)

  pub turn_stands : (first old new : C) → AddsReading (readings old) (readings new) stamp → TickerStands readings (lock_plan lock) (past_seen before ∷ segments) first old
      → TickerStands readings (lock_plan lock) (past_seen after ∷ segments) first new
  turn_stands first old new reading stands =
      let legal = found_legal lock Ticker before after (DidTick stamp came) segments goes_on turned in
      ticks_by (lock_plan lock) segments readings first old new stamp reading turned.found legal still_runs
      (ticker_later (lock_plan lock) segments (past_seen before) turned.found legal readings first old turned.later stands)
      came (past_seen after) (did_so lock Ticker before after (DidTick stamp came) segments goes_on turned)
