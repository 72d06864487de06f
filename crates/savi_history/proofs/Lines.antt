-- Each row of a legal history is all in its line of the journal.
use Rattle.std.proofs.Common.{List, [], ◌∷◌, reverse, refl, sym, subst, All}
use Rattle.std.proofs.lemmas.List.{reverse-append}
use Rattle.std.proofs.lemmas.List.Elements.{All-nil, All-cons, All-head, All-tail, All-append}
use Rattle.savi_kinds.specs.declared.plan.Plan.{Plan}
use Rattle.savi_kinds.specs.declared.entry.Who.{Who}
use Rattle.savi_kinds.specs.declared.entry.Who.TheVariants.{Ingress, Control, Ticker, Egress}
use Rattle.savi_kinds.specs.declared.entry.How.{How}
use Rattle.savi_kinds.specs.declared.entry.How.TheVariants as hows
use Rattle.hist_store.specs.Rows.{Row}
use Rattle.hist_store.specs.EndTexts.{IsReasonOf}
use Rattle.hist_store.specs.LineTexts.{FitsLine}
use Rattle.checkpoint.specs.Bases.{Base}
use Rattle.savi_history.specs.Events.{Event, Frame, Long, Command, Tick, Drain, End, row_of}
use Rattle.savi_history.specs.Legal.{MayEnd, MayCome, Stands, IsLegal}

reason_of : (plan : Plan) (base : Base) (past : List Row) (who : Who) (how : How) → MayEnd plan base past who how → IsReasonOf who how
reason_of plan base past (Ingress p) hows.End may = tt
reason_of plan base past (Ingress p) hows.Quit may = absurd may
reason_of plan base past (Ingress p) (hows.Malformed at) may = tt
reason_of plan base past (Ingress p) (hows.Overlong at) may = absurd may
reason_of plan base past (Ingress p) hows.Failed may = tt
reason_of plan base past (Ingress p) hows.Unwritten may = absurd may
reason_of plan base past (Ingress p) hows.Paused may = tt
reason_of plan base past Control how may = tt
reason_of plan base past Ticker hows.End may = tt
reason_of plan base past Ticker hows.Quit may = absurd may
reason_of plan base past Ticker (hows.Malformed at) may = absurd may
reason_of plan base past Ticker (hows.Overlong at) may = absurd may
reason_of plan base past Ticker hows.Failed may = absurd may
reason_of plan base past Ticker hows.Unwritten may = absurd may
reason_of plan base past Ticker hows.Paused may = tt
reason_of plan base past (Egress p) hows.End may = tt
reason_of plan base past (Egress p) hows.Quit may = absurd may
reason_of plan base past (Egress p) (hows.Malformed at) may = absurd may
reason_of plan base past (Egress p) (hows.Overlong at) may = absurd may
reason_of plan base past (Egress p) hows.Failed may = tt
reason_of plan base past (Egress p) hows.Unwritten may = absurd may
reason_of plan base past (Egress p) hows.Paused may = tt

row_fits : (plan : Plan) (base : Base) (past : List Row) (event : Event) → MayCome plan base past event → FitsLine (row_of plan base past event)
row_fits plan base past (Frame port stamp octets) may = (refl, refl, may.1)
row_fits plan base past (Long port stamp len) may = (refl, (refl, refl), refl)
row_fits plan base past (Command stamp line) may = (refl, (refl, refl), refl, may.1)
row_fits plan base past (Tick stamp) may = (refl, (refl, refl), refl)
row_fits plan base past (Drain port count) may = (refl, (refl, refl), (refl, refl), refl)
row_fits plan base past (End who how) may = (refl, (refl, refl), (refl, refl), refl, reason_of plan base past who how may.1)

-- the newest row first
fits_newest : (plan : Plan) (base : Base) (past : List Row) → IsLegal plan base past → All FitsLine past
fits_newest plan base [] legal = All-nil FitsLine
fits_newest plan base (r ∷ past) legal =
    let stands : Stands plan base past r = legal.0 in
    All-cons FitsLine r past (subst FitsLine (sym stands.2) (row_fits plan base past stands.0 stands.1)) (fits_newest plan base past legal.1)

-- all of a list are all of its reverse
all_reversed : (P : Row → Type 0) (past : List Row) → All P past → All P (reverse past)
all_reversed P [] all = all
all_reversed P (r ∷ past) all =
    subst (λ (rows : List Row). All P rows) (sym (reverse-append (r ∷ []) past))
    (All-append P (reverse past) (r ∷ []) (all_reversed P past (All-tail P r past all)) (All-cons P r [] (All-head P r past all) (All-nil P)))

-- the oldest row first, as the journal has them
pub fits_oldest : (plan : Plan) (base : Base) (past : List Row) → IsLegal plan base past → All FitsLine (reverse past)
fits_oldest plan base past legal = all_reversed FitsLine past (fits_newest plan base past legal)
