-- What the readings of the ticker's clock are to the segments of a history.
use Rattle.std.specs.Prelude.{◌≡◌, ◌⊎◌, ℕ, Bool, true, false, List, [], ◌∷◌, ◌++◌, Option, Some, None}
use Rattle.savi_kinds.specs.declared.plan.Plan.{Plan}
use Rattle.savi_kinds.specs.declared.entry.Act.{Act}
use Rattle.savi_kinds.specs.declared.entry.Act.TheVariants as acts
use Rattle.savi_kinds.specs.declared.entry.Who.{Who}
use Rattle.savi_kinds.specs.declared.entry.Who.TheVariants.{Ingress, Control, Ticker, Egress}
use Rattle.savi_kinds.specs.declared.entry.How.{How}
use Rattle.hist_store.specs.Rows.{Row}
use Rattle.checkpoint.specs.Bases.{Base}
use Rattle.savi_history.specs.Limits.{has_room}
use Rattle.savi_history.specs.Moments.{moment_at}
use Rattle.savi_history.specs.Offers.{due_by}
use Rattle.savi_history.specs.Ticks.{HasChangedBy}
use Rattle.savi_history.specs.Events.{Tick, row_of}
use Rattle.savi_segments.specs.Segments.{base_after, joined}

-- how the ticker has ended behind the end of a pass, by how it had ended before
abbrev pub ticker_ended_by : Who → How → Option How → Option How
ticker_ended_by (Ingress port) how before = before
ticker_ended_by Control how before = before
ticker_ended_by Ticker how before = Some how
ticker_ended_by (Egress port) how before = before

abbrev pub ticker_ended_behind : Act → Option How → Option How
ticker_ended_behind (acts.Frame port stamp at len) before = before
ticker_ended_behind (acts.Long port stamp len) before = before
ticker_ended_behind (acts.Tick stamp) before = before
ticker_ended_behind (acts.Command stamp at len) before = before
ticker_ended_behind (acts.Drain port count) before = before
ticker_ended_behind (acts.End who how) before = ticker_ended_by who how before

-- how the ticker has ended
abbrev pub ticker_end : List Row → Option How
ticker_end [] = None
ticker_end (r ∷ past) = ticker_ended_behind r.entry.act (ticker_end past)

abbrev pub is_tick : Act → Bool
is_tick (acts.Frame port stamp at len) = false
is_tick (acts.Long port stamp len) = false
is_tick (acts.Tick stamp) = true
is_tick (acts.Command stamp at len) = false
is_tick (acts.Drain port count) = false
is_tick (acts.End who how) = false

abbrev pub HasNoTick : List Row → Type 0
HasNoTick [] = Unit {0}
HasNoTick (r ∷ past) = (is_tick r.entry.act ≡ false) × HasNoTick past

-- by the moment of a tick with this stamp no address has another state, and no probe is due
pub record HasNothingDue (plan : Plan) (base : Base) (past : List Row) (stamp : ℕ) : Type 0 where
  pub unchanged : ¬ HasChangedBy plan base past (moment_at base past stamp)
  pub none : due_by plan base past (moment_at base past stamp) ≡ []

-- a tick with this stamp isn't made: there is no room for it, or nothing is due
abbrev pub IsPassedOver : Plan → Base → List Row → ℕ → Type 0
IsPassedOver plan base past stamp = (has_room plan past ≡ false) ⊎ HasNothingDue plan base past stamp

-- The ticks of segments, the newest first, are these readings, the newest first, but for those that were passed over. Behind
-- the last tick the segment may have gone on, and others begun; and where a reading was passed over, that was so of what a
-- segment was then, from its own base on and before the ticker ended in it.
abbrev pub Ticked : Plan → List (List Row) → List ℕ → Type 0
Ticked plan segments [] = HasNoTick (joined segments)
Ticked plan segments (reading ∷ earlier) =
    (later : List (List Row)) × (newer : List Row) × (upto : List Row) × (before : List (List Row))
    × (segments ≡ later ++ (newer ++ upto) ∷ before) × HasNoTick (joined later ++ newer)
    × (((older : List Row) × (upto ≡ row_of plan (base_after plan before) older (Tick reading) ∷ older) × Ticked plan (older ∷ before) earlier)
    ⊎ (IsPassedOver plan (base_after plan before) upto reading × (ticker_end upto ≡ None) × Ticked plan (upto ∷ before) earlier))
