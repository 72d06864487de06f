-- A history in which a pass is paused has an entry with a stamp or an end that is no pause: its first one.
use Rattle.std.proofs.Common.{◌≡◌, ◌≢◌, ◌≤◌, nat_lt, nat_le, true, false, List, [], ◌∷◌, refl, sym, ap, ◌∙◌, subst, arith}
use Rattle.std.proofs.lemmas.Bool.{false≢true, lt-ltb, le-leb, and_from, or_left, or_right, not_from_false}
use Rattle.savi_kinds.specs.declared.plan.Plan.{Plan}
use Rattle.savi_kinds.specs.declared.entry.Who.{Who}
use Rattle.savi_kinds.specs.declared.entry.Who.TheVariants as passes
use Rattle.savi_kinds.specs.declared.entry.How.{How}
use Rattle.savi_kinds.specs.declared.entry.How.TheVariants as hows
use Rattle.savi_kinds.specs.ValidPlan.{IsValidPlan}
use Rattle.hist_store.specs.Rows.{Row}
use Rattle.checkpoint.specs.Bases.{Base}
use Rattle.savi_history.specs.Limits.{has_room}
use Rattle.savi_history.specs.Endings.{is_paused_reason, has_paused_end}
use Rattle.savi_history.specs.Legal.{IsLegal, Stands, MayCome, MayEnd}
use Rattle.savi_history.specs.Events.{Event, Frame, Long, Command, Tick, Drain, End, row_of}
use Rattle.savi_laws.specs.Progress.{is_step, has_step}

module _ (plan : Plan) (valid : IsValidPlan plan) (base : Base) where
  -- at first there is room
  room : has_room plan [] ≡ true
  room =
      let entries : 4131 ≤ plan.entries = valid.entries.0 in
      let bytes : 1518 ≤ plan.bytes = valid.bytes.0 in
      and_from (nat_lt 4130 plan.entries) (nat_le 1518 plan.bytes) (lt-ltb 4130 plan.entries (omega (arith, entries))) (le-leb 1518 plan.bytes bytes)

  -- so no input is paused yet, nor the ticker or an egress behind one
  not_at_first : (who : Who) → MayEnd plan base [] who hows.Paused → ⊥
  not_at_first (passes.Ingress p) may = false≢true (sym may ∙ room)
  not_at_first passes.Control may = false≢true (sym may ∙ room)
  not_at_first passes.Ticker may = false≢true may.1
  not_at_first (passes.Egress p) may = false≢true may.1

  first_end : (who : Who) (how : How) → MayEnd plan base [] who how → is_paused_reason how ≡ false
  first_end who hows.End may = refl
  first_end who hows.Quit may = refl
  first_end who (hows.Malformed at) may = refl
  first_end who (hows.Overlong at) may = refl
  first_end who hows.Failed may = refl
  first_end who hows.Unwritten may = refl
  first_end who hows.Paused may = absurd (not_at_first who may)

  -- nothing waits yet that a drain could take
  first_step : (event : Event) → MayCome plan base [] event → is_step (row_of plan base [] event).entry.act ≡ true
  first_step (Frame port stamp octets) may = refl
  first_step (Long port stamp len) may = refl
  first_step (Command stamp line) may = refl
  first_step (Tick stamp) may = refl
  first_step (Drain port count) may =
      let some : 1 ≤ count = may.1 in
      let none : count ≤ 0 = may.2 in
      absurd (omega (arith, some, none))
  first_step (End who how) may = not_from_false (is_paused_reason how) (first_end who how may.1)

  steps : (past : List Row) → IsLegal plan base past → past ≢ [] → has_step past ≡ true
  steps [] legal some = absurd (some refl)
  steps (r ∷ []) legal some =
      let stands : Stands plan base [] r = legal.0 in
      subst (λ (x : Row). has_step (x ∷ []) ≡ true) (sym stands.2) (or_left (is_step (row_of plan base [] stands.0).entry.act) false (first_step stands.0 stands.1))
  steps (r ∷ s ∷ past) legal some = or_right (is_step r.entry.act) (has_step (s ∷ past)) (steps (s ∷ past) legal.1 (λ none. cc))

  pub pauses_behind_step : (past : List Row) → IsLegal plan base past → has_paused_end past ≡ true → has_step past ≡ true
  pauses_behind_step past legal paused = steps past legal (λ none. false≢true (sym (ap has_paused_end none) ∙ paused))
