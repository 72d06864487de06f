-- How the ticker has ended in legal segments: it says so by its own ends alone, and but for pauses it ends for one reason.
use Rattle.std.proofs.Common.{◌≡◌, ◌≢◌, ℕ, ◌+◌, ◌<◌, ◌==◌, Bool, true, false, if◌then◌else◌, List, [], ◌∷◌, ◌++◌, refl, sym, ap, subst, ◌∙◌, arith, not, Option, Some, None}
use Rattle.std.proofs.lemmas.Bool.{eq-eqb, false≢true, ne_eqb}
use Rattle.savi_kinds.specs.declared.plan.Plan.{Plan}
use Rattle.savi_kinds.specs.declared.entry.Act.{Act}
use Rattle.savi_kinds.specs.declared.entry.Act.TheVariants as acts
use Rattle.savi_kinds.specs.declared.entry.Who.{Who}
use Rattle.savi_kinds.specs.declared.entry.Who.TheVariants as passes
use Rattle.savi_kinds.specs.declared.entry.How.{How}
use Rattle.savi_kinds.specs.declared.entry.How.TheVariants as hows
use Rattle.savi_kinds.specs.Ports.{number_of}
use Rattle.hist_store.specs.Rows.{Row}
use Rattle.checkpoint.specs.Bases.{Base}
use Rattle.savi_history.specs.Endings.{is_paused_reason}
use Rattle.savi_history.specs.Events.{Event, Frame, Long, Command, Tick, Drain, End, row_of}
use Rattle.savi_history.specs.Legal.{IsLegal, MayCome, MayEnd, MayEndTicker}
use Rattle.savi_history.specs.Passes.{control_pass, egress_pass, has_pass, is_end, pass_count, pass_of, place_of, ticker_pass}
use Rattle.savi_history.proofs.PortPlaces.{place_within}
use Rattle.savi_segments.specs.Segments.{AreLegal, base_after, joined}
use Rattle.savi_segments.specs.Unbroken.{unbroken, without_pauses}
use Rattle.savi_segments.proofs.HowEnded.{Says}
use Rattle.live_session.specs.Ticking.{ticker_end, ticker_ended_behind}

ticker_goes_on : (act : Act) (before : Option How) → is_end act ≡ false → ticker_ended_behind act before ≡ before
ticker_goes_on (acts.Frame port stamp at len) before is = refl
ticker_goes_on (acts.Long port stamp len) before is = refl
ticker_goes_on (acts.Tick stamp) before is = refl
ticker_goes_on (acts.Command stamp at len) before is = refl
ticker_goes_on (acts.Drain port count) before is = refl
ticker_goes_on (acts.End who how) before is = absurd (false≢true (sym is))

module _ (plan : Plan) where
  apart : (pass : ℕ) (how : How) (before : Option How) → pass ≢ ticker_pass plan → before ≡ (if pass == ticker_pass plan then Some how else before)
  apart pass how before other = sym (ap (λ (t : Bool). if t then Some how else before) (ne_eqb pass (ticker_pass plan) other))

  ticker_ends : (base : Base) (past rows : List Row) (who : Who) (how : How) → has_pass plan who ≡ true
      → ticker_end (row_of plan base past (End who how) ∷ rows) ≡ (if pass_of plan who == ticker_pass plan then Some how else ticker_end rows)
  ticker_ends base past rows (passes.Ingress p) how there =
      let within = place_within plan (number_of p) there in apart (place_of plan (number_of p)) how (ticker_end rows) (λ e. absurd (omega (arith, within, e)))
  ticker_ends base past rows passes.Control how there = apart (control_pass plan) how (ticker_end rows) (λ e. absurd (omega (arith, e)))
  ticker_ends base past rows passes.Ticker how there = sym (ap (λ (t : Bool). if t then Some how else ticker_end rows) (eq-eqb (ticker_pass plan) (ticker_pass plan) refl))
  ticker_ends base past rows (passes.Egress p) how there = apart (egress_pass plan (number_of p)) how (ticker_end rows) (λ e. absurd (omega (arith, e)))

  pub ticker_says : Says plan (ticker_pass plan) ticker_end
  ticker_says = record {
    nothing = refl;
    goes_on = λ r rows is. ticker_goes_on r.entry.act (ticker_end rows) is;
    ends = ticker_ends;
  }

  pub ticker_below : ticker_pass plan < pass_count plan
  ticker_below = omega arith

-- it hasn't ended, or so as an input does that holds no more
abbrev EndsSo : Option How → Type 0
EndsSo ended = (how : How) → ended ≡ Some how → how ≡ hows.End

ends_now : (how : How) → how ≡ hows.End → EndsSo (Some how)
ends_now how is other same = let e : how ≡ other = cc in sym e ∙ is

pause_or_end : (rows : List Row) (r : Row) (b : Bool) → EndsSo (ticker_end rows) → (b ≡ true → EndsSo (ticker_end (r ∷ rows))) → EndsSo (ticker_end (if b then r ∷ rows else rows))
pause_or_end rows r true before now = now refl
pause_or_end rows r false before now = before

module _ (plan : Plan) (base : Base) where
  may_end : (past : List Row) (how : How) → not (is_paused_reason how) ≡ true → MayEndTicker plan base past how → how ≡ hows.End
  may_end past hows.End good may = refl
  may_end past hows.Quit good may = absurd may
  may_end past (hows.Malformed at) good may = absurd may
  may_end past (hows.Overlong at) good may = absurd may
  may_end past hows.Failed good may = absurd may
  may_end past hows.Unwritten good may = absurd may
  may_end past hows.Paused good may = absurd (false≢true good)

  ends_by : (past rows : List Row) (who : Who) (how : How) → MayEnd plan base past who how → not (is_paused_reason how) ≡ true → EndsSo (ticker_end rows) → EndsSo (ticker_end (row_of plan base past (End who how) ∷ rows))
  ends_by past rows (passes.Ingress p) how may good before = before
  ends_by past rows passes.Control how may good before = before
  ends_by past rows passes.Ticker how may good before = ends_now how (may_end past how good may)
  ends_by past rows (passes.Egress p) how may good before = before

  event_so : (past first : List Row) (event : Event) → MayCome plan base past event → EndsSo (ticker_end (without_pauses (past ++ first))) → EndsSo (ticker_end (without_pauses (row_of plan base past event ∷ (past ++ first))))
  event_so past first (Frame port stamp octets) may before = before
  event_so past first (Long port stamp len) may before = before
  event_so past first (Command stamp line) may before = before
  event_so past first (Tick stamp) may before = before
  event_so past first (Drain port count) may before = before
  event_so past first (End who how) may before =
      let rows = without_pauses (past ++ first) in
      pause_or_end rows (row_of plan base past (End who how)) (not (is_paused_reason how)) before (λ good. ends_by past rows who how may.1 good before)

  rows_so : (past first : List Row) → IsLegal plan base past → EndsSo (ticker_end (without_pauses first)) → EndsSo (ticker_end (without_pauses (past ++ first)))
  rows_so [] first legal before = before
  rows_so (r ∷ past) first legal before =
      subst (λ (x : Row). EndsSo (ticker_end (without_pauses (x ∷ (past ++ first))))) (sym legal.0.2)
      (event_so past first legal.0.0 legal.0.1 (rows_so past first legal.1 before))

none_yet : (how : How) → None ≡ Some how → ⊥
none_yet how e = cc

pub ticker_ends_so : (plan : Plan) (segments : List (List Row)) → AreLegal plan segments → (how : How) → ticker_end (unbroken segments) ≡ Some how → how ≡ hows.End
ticker_ends_so plan [] legal how is = absurd (none_yet how is)
ticker_ends_so plan (segment ∷ before) legal how is =
    rows_so plan (base_after plan before) segment (joined before) legal.0 (ticker_ends_so plan before legal.2) how is
