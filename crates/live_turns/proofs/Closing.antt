-- The passes may end so as a history closes: an input is paused where there is no room for another one, and the ticker and
-- the outputs where an input is.
use Rattle.std.proofs.Common.{◌≡◌, ℕ, Bool, true, false, not, if◌then◌else◌, List, refl, sym, subst, ◌∙◌}
use Rattle.savi_kinds.specs.declared.plan.Plan.{Plan}
use Rattle.savi_kinds.specs.declared.entry.Who.{Who}
use Rattle.savi_kinds.specs.declared.entry.Who.TheVariants.{Ingress, Control, Ticker, Egress}
use Rattle.savi_kinds.specs.declared.entry.How.{How}
use Rattle.savi_kinds.specs.declared.entry.How.TheVariants as hows
use Rattle.hist_store.specs.Rows.{Row}
use Rattle.checkpoint.specs.Bases.{Base}
use Rattle.savi_history.specs.Endings.{has_pause}
use Rattle.savi_history.specs.Legal.{InputsEnded, HasNothingToSend, MayEnd, MayEndEgress, MayEndTicker}
use Rattle.savi_history.specs.Limits.{has_room}
use Rattle.savi_history.specs.Replay.{closing}
use Rattle.live_turns.specs.TurnKinds.{IsInputPass}

module _ (plan : Plan) (base : Base) (past : List Row) where
  ticker_by : (paused : Bool) → has_pause past ≡ paused → InputsEnded plan base past → MayEndTicker plan base past (if paused then hows.Paused else hows.End)
  ticker_by true is ended = (ended, is)
  ticker_by false is ended = (ended, is)

  pub ticker_may : (how : How) → how ≡ closing past → InputsEnded plan base past → MayEndTicker plan base past how
  ticker_may how is ended = subst (MayEndTicker plan base past) (sym is) (ticker_by (has_pause past) refl ended)

  egress_by : (q : ℕ) (paused : Bool) → has_pause past ≡ paused → HasNothingToSend plan base past q → MayEndEgress plan base past q (if paused then hows.Paused else hows.End)
  egress_by q true is quiet = (quiet, is)
  egress_by q false is quiet = (quiet, is)

  pub egress_may : (q : ℕ) (how : How) → how ≡ closing past → HasNothingToSend plan base past q → MayEndEgress plan base past q how
  egress_may q how is quiet = subst (MayEndEgress plan base past q) (sym is) (egress_by q (has_pause past) refl quiet)

  pub input_may : (who : Who) → IsInputPass who → has_room plan past ≡ false → MayEnd plan base past who hows.Paused
  input_may (Ingress port) is full = full
  input_may Control is full = full
  input_may Ticker never full = absurd never
  input_may (Egress port) never full = absurd never

-- what the core answers, of whether there is room
pub no_room : (room full : Bool) → full ≡ not room → full ≡ true → room ≡ false
no_room true full says is = let never : true ≡ false = sym is ∙ says in cc
no_room false full says is = refl

pub some_room : (room full : Bool) → full ≡ not room → full ≡ false → room ≡ true
some_room true full says is = refl
some_room false full says is = let never : false ≡ true = sym is ∙ says in cc
