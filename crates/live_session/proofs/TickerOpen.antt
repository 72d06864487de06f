-- While the ticker goes on in a segment, none of its ends stands there, nor a pause.
use Rattle.std.proofs.Common.{◌≡◌, ◌==◌, Bool, false, if◌then◌else◌, List, [], ◌∷◌, refl, sym, ap, subst, ◌∙◌, Some, None}
use Rattle.std.proofs.lemmas.Bool.{or_parts}
use Rattle.savi_kinds.specs.declared.plan.Plan.{Plan}
use Rattle.hist_store.specs.Rows.{Row}
use Rattle.checkpoint.specs.Bases.{Base}
use Rattle.savi_history.specs.Events.{Event, Frame, Long, Command, Tick, Drain, End, row_of}
use Rattle.savi_history.specs.Legal.{IsLegal, MayCome}
use Rattle.savi_history.specs.Passes.{has_ended, pass_of, ticker_pass}
use Rattle.live_session.specs.Ticking.{ticker_end}
use Rattle.live_session.proofs.TickerEnds.{ticker_says}

module _ (plan : Plan) (base : Base) where
  open_event : (past : List Row) (event : Event) → MayCome plan base past event → has_ended base (ticker_pass plan) (row_of plan base past event ∷ past) ≡ false → ticker_end past ≡ None → ticker_end (row_of plan base past event ∷ past) ≡ None
  open_event past (Frame port stamp octets) may runs none = none
  open_event past (Long port stamp len) may runs none = none
  open_event past (Command stamp line) may runs none = none
  open_event past (Tick stamp) may runs none = none
  open_event past (Drain port count) may runs none = none
  open_event past (End who how) may runs none =
      let parts = or_parts (pass_of plan who == ticker_pass plan) (has_ended base (ticker_pass plan) past) runs in
      (ticker_says plan).ends base past past who how may.0.known
      ∙ ap (λ (here : Bool). if here then Some how else ticker_end past) parts.0 ∙ none

  pub ticker_open : (past : List Row) → IsLegal plan base past → has_ended base (ticker_pass plan) past ≡ false → ticker_end past ≡ None
  ticker_open [] legal runs = refl
  ticker_open (r ∷ past) legal runs =
      let row = row_of plan base past legal.0.0 in
      let runs_on : has_ended base (ticker_pass plan) (row ∷ past) ≡ false = subst (λ (x : Row). has_ended base (ticker_pass plan) (x ∷ past) ≡ false) legal.0.2 runs in
      subst (λ (x : Row). ticker_end (x ∷ past) ≡ None) (sym legal.0.2)
      (open_event past legal.0.0 legal.0.1 runs_on (ticker_open past legal.1 (or_parts _ (has_ended base (ticker_pass plan) past) runs).1))
