use Rattle.std.proofs.Common.{List, ◌∷◌, refl, sym, subst}
use Rattle.savi_kinds.specs.declared.entry.Who.TheVariants.{Ticker}
use Rattle.table_lock.specs.declared.pass.Pass.{Pass}
use Rattle.hist_store.specs.Rows.{Row}
use Rattle.core_keep.specs.Seen.{past_seen}
use Rattle.live_session.specs.Standing.{TickerStands}
use Rattle.live_session.proofs.StandsOn.{ticker_next}
use Rattle.live_turns.specs.Seats.{IsNewPass, lock_plan}
use Rattle.live_turns.proofs.Seating.{new_runs}
use Rattle.live_turns.specs.declared.kinds.TickTurn.TheVariants as ticks
use Rattle.live_ticker.proofs.Reading.{at_as, turned_as}
use Rattle.live_ticker.proofs.Turning.{turn_stands}
use Rattle.live_ticker.proofs.ticker.TickerWorker.run.Goals as goal

pub loop-init : goal.loop-init
loop-init g c =
    let lock = c.args.lock.now in
    let new : IsNewPass lock Ticker c.new-turns.result.pass = subst (IsNewPass lock Ticker) (sym c.new-turns.ensures) c.requires in
    record {
      running = new_runs lock Ticker c.new-turns.result.pass refl new;
      stands = λ before first legal goes_on stood.
          subst (λ (rows : List Row). TickerStands g.C.Clock.readings (lock_plan lock) (rows ∷ before) first c.args.self.clock) (sym new.dealt.nothing)
          (ticker_next (lock_plan lock) before g.C.Clock.readings first c.args.self.clock stood);
    }

pub loop-preserved-in-Made : goal.loop-preserved-in-Made
loop-preserved-in-Made g c =
    let lock = c.args.lock.now in
    let next = c.tick_turn-next.result.0.pass in
    let came = c.tick_turn-next.result.1 in
    let turn = turned_as lock c.loop.turns.pass next c.wait-stamp.result came ticks.Made c.in-Made.is c.tick_turn-next.ensures.turned in
    record {
      running = at_as lock next came ticks.Made c.in-Made.is c.tick_turn-next.ensures.state;
      stands = λ before first legal goes_on stood.
          turn_stands g.C.Clock.readings lock c.loop.turns.pass next c.wait-stamp.result ticks.Made c.loop.invariant.running turn before goes_on first c.loop.clock c.wait-stamp.new.self c.wait-stamp.ensures
          (c.loop.invariant.stands before first legal goes_on stood);
    }

pub loop-preserved-in-Idle : goal.loop-preserved-in-Idle
loop-preserved-in-Idle g c =
    let lock = c.args.lock.now in
    let next = c.tick_turn-next.result.0.pass in
    let came = c.tick_turn-next.result.1 in
    let turn = turned_as lock c.loop.turns.pass next c.wait-stamp.result came ticks.Idle c.in-Idle.is c.tick_turn-next.ensures.turned in
    record {
      running = at_as lock next came ticks.Idle c.in-Idle.is c.tick_turn-next.ensures.state;
      stands = λ before first legal goes_on stood.
          turn_stands g.C.Clock.readings lock c.loop.turns.pass next c.wait-stamp.result ticks.Idle c.loop.invariant.running turn before goes_on first c.loop.clock c.wait-stamp.new.self c.wait-stamp.ensures
          (c.loop.invariant.stands before first legal goes_on stood);
    }

pub loop-preserved : goal.loop-preserved
loop-preserved g c =
    let lock = c.args.lock.now in
    let next = c.tick_turn-next.result.0.pass in
    let came = c.tick_turn-next.result.1 in
    let turn = turned_as lock c.loop.turns.pass next c.wait-stamp.result came ticks.Full c.in-Full.is c.tick_turn-next.ensures.turned in
    record {
      running = at_as lock next came ticks.Full c.in-Full.is c.tick_turn-next.ensures.state;
      stands = λ before first legal goes_on stood.
          turn_stands g.C.Clock.readings lock c.loop.turns.pass next c.wait-stamp.result ticks.Full c.loop.invariant.running turn before goes_on first c.loop.clock c.wait-stamp.new.self c.wait-stamp.ensures
          (c.loop.invariant.stands before first legal goes_on stood);
    }

pub returns-in-Ended-clause-stands : goal.returns-in-Ended-clause-stands
returns-in-Ended-clause-stands g c = λ before first legal goes_on stood.
    let lock = c.args.lock.now in
    let next = c.tick_turn-next.result.0.pass in
    let came = c.tick_turn-next.result.1 in
    let turn = turned_as lock c.loop.turns.pass next c.wait-stamp.result came ticks.Ended c.in-Ended.is c.tick_turn-next.ensures.turned in
    let stands = turn_stands g.C.Clock.readings lock c.loop.turns.pass next c.wait-stamp.result ticks.Ended c.loop.invariant.running turn before goes_on first c.loop.clock c.wait-stamp.new.self c.wait-stamp.ensures
    (c.loop.invariant.stands before first legal goes_on stood) in
    subst (λ (pass : Pass). TickerStands g.C.Clock.readings (lock_plan lock) (past_seen pass ∷ before) first c.ended.result.0.clock) (sym c.ended.ensures.pass)
    (subst (λ (clock : g.row.C.Denot). TickerStands g.C.Clock.readings (lock_plan lock) (past_seen next ∷ before) first clock) (sym c.ended.ensures.clock) stands)
