-- What a segment adds to what segments tell of inputs, control, outputs and the ticker. What was sent, what of it is sure,
-- and the replies are told so by their definitions.
use Rattle.std.proofs.Common.{◌≡◌, ℕ, List, [], ◌∷◌, ◌++◌, refl, ap, ◌∙◌, Option}
use Rattle.savi_kinds.specs.declared.entry.Act.{Act}
use Rattle.savi_kinds.specs.declared.entry.Act.TheVariants as acts
use Rattle.savi_kinds.specs.declared.entry.Who.{Who}
use Rattle.savi_kinds.specs.declared.entry.Who.TheVariants as passes
use Rattle.savi_kinds.specs.declared.entry.How.{How}
use Rattle.savi_kinds.specs.Arrivals.{Arrival}
use Rattle.cli_lang.specs.Arrivals.{Line}
use Rattle.hist_store.specs.Rows.{Row}
use Rattle.savi_history.specs.ControlInputs.{control_end, entered_lines}
use Rattle.savi_history.specs.PortInputs.{arrived, input_end}
use Rattle.savi_history.specs.PortOutputs.{output_end}
use Rattle.savi_segments.specs.Segments.{joined}
use Rattle.savi_segments.specs.Unbroken.{unbroken, without_pauses}
use Rattle.savi_segments.proofs.Adjoined.{arrived_both, arrived_unpaused, both_kept, control_both, input_both, output_both, said_over}
use Rattle.savi_segments.proofs.EnteringLines.{lines_append, lines_unpaused}
use Rattle.live_session.specs.Ticking.{ticker_end, ticker_ended_behind, ticker_ended_by}

ticker_over : (who : Who) (how : How) (e before : Option How) → ticker_ended_by who how (said_over e before) ≡ said_over (ticker_ended_by who how e) before
ticker_over (passes.Ingress p) how e before = refl
ticker_over passes.Control how e before = refl
ticker_over passes.Ticker how e before = refl
ticker_over (passes.Egress p) how e before = refl

ticker_behind : (act : Act) (e before : Option How) → ticker_ended_behind act (said_over e before) ≡ said_over (ticker_ended_behind act e) before
ticker_behind (acts.Frame port stamp at len) e before = refl
ticker_behind (acts.Long port stamp len) e before = refl
ticker_behind (acts.Tick stamp) e before = refl
ticker_behind (acts.Command stamp at len) e before = refl
ticker_behind (acts.Drain port count) e before = refl
ticker_behind (acts.End who how) e before = ticker_over who how e before

pub ticker_both : (xs rows : List Row) → ticker_end (xs ++ rows) ≡ said_over (ticker_end xs) (ticker_end rows)
ticker_both [] rows = refl
ticker_both (r ∷ xs) rows = ap (ticker_ended_behind r.entry.act) (ticker_both xs rows) ∙ ticker_behind r.entry.act (ticker_end xs) (ticker_end rows)

module _ (segment : List Row) (before : List (List Row)) where
  pub unbroken_adds : unbroken (segment ∷ before) ≡ without_pauses segment ++ unbroken before
  unbroken_adds = both_kept segment (joined before)

  pub arrived_adds : (port : ℕ) → arrived port (unbroken (segment ∷ before)) ≡ arrived port (unbroken before) ++ arrived port segment
  arrived_adds port =
      ap (λ (rows : List Row). arrived port rows) unbroken_adds
      ∙ arrived_both port (without_pauses segment) (unbroken before)
      ∙ ap (λ (l : List Arrival). arrived port (unbroken before) ++ l) (arrived_unpaused port segment)

  pub lines_add : entered_lines (unbroken (segment ∷ before)) ≡ entered_lines (unbroken before) ++ entered_lines segment
  lines_add =
      ap (λ (rows : List Row). entered_lines rows) unbroken_adds
      ∙ lines_append (without_pauses segment) (unbroken before)
      ∙ ap (λ (l : List Line). entered_lines (unbroken before) ++ l) (lines_unpaused segment)

  pub input_adds : (port : ℕ) → input_end port (unbroken (segment ∷ before)) ≡ said_over (input_end port (without_pauses segment)) (input_end port (unbroken before))
  input_adds port = ap (λ (rows : List Row). input_end port rows) unbroken_adds ∙ input_both port (without_pauses segment) (unbroken before)

  pub output_adds : (port : ℕ) → output_end port (unbroken (segment ∷ before)) ≡ said_over (output_end port (without_pauses segment)) (output_end port (unbroken before))
  output_adds port = ap (λ (rows : List Row). output_end port rows) unbroken_adds ∙ output_both port (without_pauses segment) (unbroken before)

  pub control_adds : control_end (unbroken (segment ∷ before)) ≡ said_over (control_end (without_pauses segment)) (control_end (unbroken before))
  control_adds = ap (λ (rows : List Row). control_end rows) unbroken_adds ∙ control_both (without_pauses segment) (unbroken before)

  pub ticker_adds : ticker_end (unbroken (segment ∷ before)) ≡ said_over (ticker_end (without_pauses segment)) (ticker_end (unbroken before))
  ticker_adds = ap (λ (rows : List Row). ticker_end rows) unbroken_adds ∙ ticker_both (without_pauses segment) (unbroken before)
