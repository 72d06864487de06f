-- What one more reading of the ticker's clock comes to, by what its turn did, in a segment that goes on from others.
use Rattle.std.proofs.Common.{◌≡◌, ℕ, false, List, [], ◌∷◌, reverse, refl, sym, subst, None, Option, inl, inr}
use Rattle.std.proofs.lemmas.List.{reverse-append}
use Rattle.savi_kinds.specs.declared.plan.Plan.{Plan}
use Rattle.savi_kinds.specs.declared.entry.Who.TheVariants.{Ticker}
use Rattle.savi_kinds.specs.declared.entry.How.{How}
use Rattle.savi_ends.specs.Readings.{AddsReading}
use Rattle.stream_io.specs.Calls.{AddsReadings}
use Rattle.stream_io.proofs.ClockReadings.{adds_more}
use Rattle.hist_store.specs.Rows.{Row}
use Rattle.checkpoint.specs.Bases.{Base}
use Rattle.savi_history.specs.Events.{Tick, End, row_of}
use Rattle.savi_history.specs.Legal.{IsLegal}
use Rattle.savi_history.specs.Passes.{has_ended, ticker_pass}
use Rattle.savi_history.specs.Replay.{closing, with_event}
use Rattle.savi_segments.specs.Segments.{base_after}
use Rattle.table_lock.specs.declared.lock.TableLock.{TableLock}
use Rattle.table_lock.specs.declared.pass.Pass.{Pass}
use Rattle.core_keep.specs.declared.keep.KeptCore.{KeptCore}
use Rattle.live_session.specs.Standing.{TickerStands}
use Rattle.live_session.specs.Ticking.{IsPassedOver, Ticked, ticker_end}
use Rattle.live_session.proofs.TickerOpen.{ticker_open}
use Rattle.live_session.proofs.TicksStay.{ticked_more}
use Rattle.live_turns.specs.Seats.{IsAt}
use Rattle.live_turns.specs.Turned.{Turned}
use Rattle.live_turns.specs.TurnKinds.{DidTick, ends_ticker}
use Rattle.live_turns.specs.declared.kinds.TickTurn.{TickTurn}
use Rattle.live_turns.specs.declared.kinds.TickTurn.TheVariants as ticks

-- a turn by what came of it
pub turned_as : (lock : TableLock KeptCore) (before after : Pass) (stamp : ℕ) (came known : TickTurn) → came ≡ known → Turned lock Ticker before after (DidTick stamp came) → Turned lock Ticker before after (DidTick stamp known)
turned_as lock before after stamp came known is turned = subst (λ (k : TickTurn). Turned lock Ticker before after (DidTick stamp k)) is turned

pub at_as : (lock : TableLock KeptCore) (after : Pass) (came known : TickTurn) → came ≡ known → IsAt lock Ticker (ends_ticker came) after → IsAt lock Ticker (ends_ticker known) after
at_as lock after came known is state = subst (λ (k : TickTurn). IsAt lock Ticker (ends_ticker k) after) is state

reads_more : (old mid now : Option (List ℕ)) (latest : List ℕ) (reading : ℕ) → AddsReadings old mid (reverse latest) → AddsReading mid now reading → AddsReadings old now (reverse (reading ∷ latest))
reads_more old mid now latest reading adds one =
    subst (λ (l : List ℕ). AddsReadings old now l) (sym (reverse-append (reading ∷ []) latest)) (adds_more old mid now (reverse latest) reading adds one)

module _ (plan : Plan) (before : List (List Row)) where
  abbrev base : Base
  base = base_after plan before

  -- a tick of this reading was made
  made : (found : List Row) (reading : ℕ) (latest : List ℕ) → Ticked plan (found ∷ before) latest → Ticked plan (with_event plan base found (Tick reading) ∷ before) (reading ∷ latest)
  made found reading latest ticked = ([], [], with_event plan base found (Tick reading), before, refl, tt, inl (found, refl, ticked))

  -- it was passed over, before the ticker ended
  passed : (found : List Row) (reading : ℕ) (latest : List ℕ) → IsPassedOver plan base found reading → ticker_end found ≡ None → Ticked plan (found ∷ before) latest → Ticked plan (found ∷ before) (reading ∷ latest)
  passed found reading latest none goes_on ticked = ([], [], found, before, refl, tt, inr (none, goes_on, ticked))

  -- behind the ticker's end, or its pause, the ticks are as before
  behind_end : (found : List Row) (how : How) (latest : List ℕ) → Ticked plan (found ∷ before) latest → Ticked plan (with_event plan base found (End Ticker how) ∷ before) latest
  behind_end found how latest ticked = ticked_more plan (row_of plan base found (End Ticker how) ∷ []) found before (refl, tt) latest ticked

  module _ {C : Type 0} (readings : C → Option (List ℕ)) (first old new : C) (stamp : ℕ) (reading : AddsReading (readings old) (readings new) stamp)
      (found : List Row) (legal : IsLegal plan base found) (runs : has_ended base (ticker_pass plan) found ≡ false) (stands : TickerStands readings plan (found ∷ before) first old) where
    -- with one more reading
    with_reading : (now : List Row) → Ticked plan (now ∷ before) (stamp ∷ stands.latest) → TickerStands readings plan (now ∷ before) first new
    with_reading now ticked = record {
      latest = stamp ∷ stands.latest;
      reads = reads_more (readings first) (readings old) (readings new) stands.latest stamp stands.reads reading;
      ticked = ticked;
    }

    -- by what its turn did
    pub ticks_by : (came : TickTurn) (now : List Row) → DidTick stamp came plan base found now → TickerStands readings plan (now ∷ before) first new
    ticks_by ticks.Made now did =
        subst (λ (rows : List Row). TickerStands readings plan (rows ∷ before) first new) (sym did.2)
        (with_reading (with_event plan base found (Tick stamp)) (made found stamp stands.latest stands.ticked))
    ticks_by ticks.Idle now did =
        subst (λ (rows : List Row). TickerStands readings plan (rows ∷ before) first new) (sym did.2)
        (with_reading found (passed found stamp stands.latest did.0 (ticker_open plan base found legal runs) stands.ticked))
    ticks_by ticks.Full now did =
        subst (λ (rows : List Row). TickerStands readings plan (rows ∷ before) first new) (sym did.2)
        (with_reading found (passed found stamp stands.latest (inl did.0) (ticker_open plan base found legal runs) stands.ticked))
    ticks_by ticks.Ended now did =
        subst (λ (rows : List Row). TickerStands readings plan (rows ∷ before) first new) (sym did.2)
        (with_reading (with_event plan base found (End Ticker (closing found)))
        (behind_end found (closing found) (stamp ∷ stands.latest)
        (passed found stamp stands.latest did.0 (ticker_open plan base found legal runs) stands.ticked)))
