-- What segments tell of the input of a port, as the newest goes on.
use Rattle.std.proofs.Common.{◌≡◌, ℕ, ◌==◌, not, Bool, true, false, if◌then◌else◌, List, [], ◌∷◌, ◌++◌, refl, ap, subst, ◌∙◌, append-nil, Option, Some}
use Rattle.std.proofs.lemmas.Bool.{eq-eqb}
use Rattle.savi_kinds.specs.declared.port.Port.{Port}
use Rattle.savi_kinds.specs.declared.plan.Plan.{Plan}
use Rattle.savi_kinds.specs.declared.entry.Who.{Who}
use Rattle.savi_kinds.specs.declared.entry.Who.TheVariants.{Ingress, Control, Ticker, Egress}
use Rattle.savi_kinds.specs.declared.entry.How.{How}
use Rattle.savi_kinds.specs.declared.entry.How.TheVariants as hows
use Rattle.savi_kinds.specs.Ports.{number_of}
use Rattle.savi_kinds.specs.Arrivals.{Arrival}
use Rattle.savi_kinds.specs.Arrivals as arrivals
use Rattle.hist_store.specs.Rows.{Row}
use Rattle.checkpoint.specs.Bases.{Base}
use Rattle.savi_history.specs.Endings.{is_paused_reason}
use Rattle.savi_history.specs.Events.{Event, Frame, Long, Command, Tick, Drain, End, row_of}
use Rattle.savi_history.specs.Legal.{IsLegal}
use Rattle.savi_history.specs.Passes.{place_of}
use Rattle.savi_history.specs.PortInputs.{arrived, input_end}
use Rattle.savi_history.specs.Replay.{with_event}
use Rattle.savi_segments.specs.Unbroken.{unbroken}
use Rattle.core_keep.specs.Seen.{IsLater}
use Rattle.parcel_ring.specs.Handed.{IsReadEnd}
use Rattle.live_session.proofs.Stays.{IsOther, differ, stays}
use Rattle.live_input.specs.Entered.{told_of}

abbrev told_by : ℕ → List Row → List Arrival × Option How
told_by port rows = (arrived port rows, input_end port rows)

-- a read that ends pauses nothing
pub read_end : (how : How) → IsReadEnd how → is_paused_reason how ≡ false
read_end hows.End ends = refl
read_end (hows.Malformed at) ends = refl
read_end hows.Failed ends = refl
read_end hows.Quit ends = absurd ends
read_end (hows.Overlong at) ends = absurd ends
read_end hows.Unwritten ends = absurd ends
read_end hows.Paused ends = absurd ends

module _ (plan : Plan) (base : Base) (port : ℕ) (earlier : List (List Row)) where
  abbrev told : List Row → List Arrival × Option How
  told past = told_of port (past ∷ earlier)

  -- a row of another pass tells nothing of the port's input

  other_arrival : (past : List Row) (p : Port) (a : Arrival) → (place_of plan (number_of p) == place_of plan port) ≡ false
      → arrived port (unbroken (past ∷ earlier)) ++ (if number_of p == port then a ∷ [] else []) ≡ arrived port (unbroken (past ∷ earlier))
  other_arrival past p a other =
      ap (λ (b : Bool). arrived port (unbroken (past ∷ earlier)) ++ (if b then a ∷ [] else [])) (differ (place_of plan) (number_of p) port other)
      ∙ append-nil (arrived port (unbroken (past ∷ earlier)))

  other_end : (past rows : List Row) (who : Who) (how : How) → IsOther (place_of plan port) (row_of plan base past (End who how)) → told_by port (row_of plan base past (End who how) ∷ rows) ≡ told_by port rows
  other_end past rows (Ingress p) how other = λ i. (
    append-nil (arrived port rows) i,
    ap (λ (b : Bool). if b then Some how else input_end port rows) (differ (place_of plan) (number_of p) port other) i,
  )
  other_end past rows Control how other = λ i. (append-nil (arrived port rows) i, input_end port rows)
  other_end past rows Ticker how other = λ i. (append-nil (arrived port rows) i, input_end port rows)
  other_end past rows (Egress p) how other = λ i. (append-nil (arrived port rows) i, input_end port rows)

  end_step : (past rows : List Row) (who : Who) (how : How) (b : Bool) → IsOther (place_of plan port) (row_of plan base past (End who how))
      → told_by port (if not b then row_of plan base past (End who how) ∷ rows else rows) ≡ told_by port rows
  end_step past rows who how true other = refl
  end_step past rows who how false other = other_end past rows who how other

  told_step : (past : List Row) (event : Event) → IsOther (place_of plan port) (row_of plan base past event) → told (row_of plan base past event ∷ past) ≡ told past
  told_step past (Frame p stamp octets) other = λ i. (other_arrival past p (arrivals.Frame stamp octets) other i, input_end port (unbroken (past ∷ earlier)))
  told_step past (Long p stamp len) other = λ i. (other_arrival past p (arrivals.Long stamp len) other i, input_end port (unbroken (past ∷ earlier)))
  told_step past (Command stamp line) other = λ i. (append-nil (arrived port (unbroken (past ∷ earlier))) i, input_end port (unbroken (past ∷ earlier)))
  told_step past (Tick stamp) other = λ i. (append-nil (arrived port (unbroken (past ∷ earlier))) i, input_end port (unbroken (past ∷ earlier)))
  told_step past (Drain p count) other = λ i. (append-nil (arrived port (unbroken (past ∷ earlier))) i, input_end port (unbroken (past ∷ earlier)))
  told_step past (End who how) other = end_step past (unbroken (past ∷ earlier)) who how (is_paused_reason how) other

  -- what is told stays so, while others go on
  pub told_stays : (before now : List Row) → IsLegal plan base now → IsLater (place_of plan port) before now → told now ≡ told before
  told_stays before now legal later =
      ap told later.split ∙ stays plan base (place_of plan port) told told_step later.newer before (subst (IsLegal plan base) later.split legal) later.others

-- what a row of the port's own pass tells

module _ (plan : Plan) (base : Base) (past : List Row) (port : Port) (earlier : List (List Row)) where
  abbrev here : ℕ
  here = number_of port

  abbrev rows : List Row
  rows = unbroken (past ∷ earlier)

  pub frame_told : (stamp : ℕ) (octets : List ℕ) → told_of here (with_event plan base past (Frame port stamp octets) ∷ earlier) ≡ (arrived here rows ++ arrivals.Frame stamp octets ∷ [], input_end here rows)
  frame_told stamp octets = λ i. (
    ap (λ (b : Bool). arrived here rows ++ (if b then arrivals.Frame stamp octets ∷ [] else [])) (eq-eqb here here refl) i,
    input_end here rows,
  )

  pub long_told : (stamp len : ℕ) → told_of here (with_event plan base past (Long port stamp len) ∷ earlier) ≡ (arrived here rows ++ arrivals.Long stamp len ∷ [], input_end here rows)
  long_told stamp len = λ i. (
    ap (λ (b : Bool). arrived here rows ++ (if b then arrivals.Long stamp len ∷ [] else [])) (eq-eqb here here refl) i,
    input_end here rows,
  )

  pub pause_told : told_of here (with_event plan base past (End (Ingress port) hows.Paused) ∷ earlier) ≡ told_of here (past ∷ earlier)
  pause_told = refl

  end_at : (how : How) (b : Bool) → b ≡ false → told_by here (if not b then row_of plan base past (End (Ingress port) how) ∷ rows else rows) ≡ (arrived here rows, Some how)
  end_at how true paused = cc
  end_at how false paused = λ i. (
    append-nil (arrived here rows) i,
    ap (λ (b : Bool). if b then Some how else input_end here rows) (eq-eqb here here refl) i,
  )

  pub end_told : (how : How) → is_paused_reason how ≡ false → told_of here (with_event plan base past (End (Ingress port) how) ∷ earlier) ≡ (arrived here rows, Some how)
  end_told how unpaused = end_at how (is_paused_reason how) unpaused
