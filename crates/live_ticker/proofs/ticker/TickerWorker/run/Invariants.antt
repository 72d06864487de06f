use Rattle.std.proofs.Common.{◌≡◌, List, ◌∷◌}
use Rattle.savi_kinds.specs.declared.entry.Who.TheVariants.{Ticker}
use Rattle.hist_store.specs.Rows.{Row}
use Rattle.savi_segments.specs.Segments.{AreLegal, base_after}
use Rattle.core_keep.specs.Seen.{past_seen}
use Rattle.live_session.specs.Standing.{TickerStands}
use Rattle.live_turns.specs.Seats.{IsRunning, lock_base, lock_plan}
use Rattle.live_ticker.proofs.ticker.TickerWorker.run.Given as goal

abbrev pub invariant-loop : goal.invariant-loop
invariant-loop g l = record {
  running : IsRunning l.lock Ticker l.turns.pass;
  stands : (before : List (List Row)) (first : g.row.C.Denot) → AreLegal (lock_plan l.lock) before → lock_base l.lock ≡ base_after (lock_plan l.lock) before
      → TickerStands g.C.Clock.readings (lock_plan l.lock) before first l.initial.clock
      → TickerStands g.C.Clock.readings (lock_plan l.lock) (past_seen l.turns.pass ∷ before) first l.clock;
}
