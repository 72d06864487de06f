-- An input that is malformed in a legal history, or in legal segments, is that of a port of the plan, or control's.
use Rattle.std.proofs.Common.{◌≡◌, ◌≢◌, ℕ, ◌+◌, ◌<◌, ◌==◌, ◌||◌, not, Bool, true, false, List, [], ◌∷◌, ◌++◌, get_or, length, refl, sym, ◌∙◌, subst, if◌then◌else◌, ◌⊎◌, inl, inr, Option, Some, IsSome}
use Rattle.std.proofs.lemmas.Bool.{false≢true, ne_eqb, cond-false, cond-true}
use Rattle.savi_kinds.specs.declared.port.Port.{Port}
use Rattle.savi_kinds.specs.declared.plan.Plan.{Plan}
use Rattle.savi_kinds.specs.declared.entry.Who.{Who}
use Rattle.savi_kinds.specs.declared.entry.Who.TheVariants as passes
use Rattle.savi_kinds.specs.declared.entry.How.{How}
use Rattle.savi_kinds.specs.declared.entry.How.TheVariants as hows
use Rattle.savi_kinds.specs.Ports.{number_of}
use Rattle.savi_kinds.specs.ValidPlan.{numbers_of}
use Rattle.hist_store.specs.Rows.{Row}
use Rattle.checkpoint.specs.Bases.{Base}
use Rattle.savi_history.specs.Passes.{place_of, control_pass, has_port}
use Rattle.savi_history.specs.Events.{Event, Frame, Long, Command, Tick, Drain, End, row_of}
use Rattle.savi_history.specs.Legal.{IsLegal, IsOpen, MayCome, MayEnd, MayEndEgress, MayEndTicker}
use Rattle.savi_history.specs.PortInputs.{input_end}
use Rattle.savi_history.specs.ControlInputs.{control_end}
use Rattle.savi_history.specs.Endings.{has_malformed, is_malformed_reason, is_paused_reason}
use Rattle.savi_history.proofs.PassNumbers.{known_at, number_at}
use Rattle.savi_history.proofs.PortPlaces.{placed, place_within}
use Rattle.savi_segments.specs.Segments.{AreLegal, base_after, joined}
use Rattle.savi_segments.specs.Unbroken.{unbroken, without_pauses}
use Rattle.savi_segments.proofs.Failures.{Tells as TellsForGood, apart_now as apart_for_good, tells_rows, tells_segments}
use Rattle.switch_run.proofs.LegalFailures.{Tells, apart_now, itself, tells_legal}

-- the input of the port at a place of the plan was malformed, or a line of control was, or was too long
abbrev pub IsMalformedAt : Plan → List Row → Type 0
IsMalformedAt plan past =
    ((k : ℕ) × (how : How) × (k < length plan.ports) × (is_malformed_reason how ≡ true) × (input_end (get_or (numbers_of plan.ports) k 0) past ≡ Some how))
    ⊎ ((how : How) × (is_malformed_reason how ≡ true) × (control_end past ≡ Some how))

-- neither the ticker nor an output is malformed
ticker_sound : (plan : Plan) (base : Base) (past : List Row) (how : How) → MayEndTicker plan base past how → is_malformed_reason how ≡ true → ⊥
ticker_sound plan base past hows.End may is = cc
ticker_sound plan base past hows.Quit may is = may
ticker_sound plan base past (hows.Malformed at) may is = may
ticker_sound plan base past (hows.Overlong at) may is = may
ticker_sound plan base past hows.Failed may is = may
ticker_sound plan base past hows.Unwritten may is = may
ticker_sound plan base past hows.Paused may is = cc

egress_sound : (plan : Plan) (base : Base) (past : List Row) (q : ℕ) (how : How) → MayEndEgress plan base past q how → is_malformed_reason how ≡ true → ⊥
egress_sound plan base past q hows.End may is = cc
egress_sound plan base past q hows.Quit may is = may
egress_sound plan base past q (hows.Malformed at) may is = may
egress_sound plan base past q (hows.Overlong at) may is = may
egress_sound plan base past q hows.Failed may is = cc
egress_sound plan base past q hows.Unwritten may is = may
egress_sound plan base past q hows.Paused may is = cc

-- rows say nothing yet of how this pass ended, where it is an input
abbrev IsSilent : Plan → List Row → Who → Type 0
IsSilent plan rows (passes.Ingress p) = (k : ℕ) → k < length plan.ports → IsSome (input_end (number_at plan k) rows) → number_of p ≢ number_at plan k
IsSilent plan rows passes.Control = IsSome (control_end rows) → ⊥
IsSilent plan rows passes.Ticker = Unit {0}
IsSilent plan rows (passes.Egress p) = Unit {0}

-- the row of an end in front of rows, which may be those of earlier segments too
module _ (plan : Plan) (base : Base) (past rows : List Row) where
  malformed_at : (p : Port) (how : How) → has_port plan (number_of p) ≡ true → is_malformed_reason how ≡ true → IsMalformedAt plan (row_of plan base past (End (passes.Ingress p) how) ∷ rows)
  malformed_at p how known reason =
      let at = placed plan (number_of p) known in
      inl (
        place_of plan (number_of p),
        how,
        place_within plan (number_of p) known,
        reason,
        subst (λ (n : ℕ). (if number_of p == n then Some how else input_end n rows) ≡ Some how) (sym at.number_is)
            (cond-true _ (Some how) (input_end (number_of p) rows) (itself (number_of p))),
      )

  -- an end of another pass changes nothing of this
  malformed_kept : (who : Who) (how : How) → IsSilent plan rows who → IsMalformedAt plan rows → IsMalformedAt plan (row_of plan base past (End who how) ∷ rows)
  malformed_kept (passes.Ingress p) how silent (inl (k, was, inside, reason, is)) =
      let n = number_at plan k in
      let other = silent k inside (subst (λ (o : Option How). IsSome o) (sym is) refl) in
      inl (k, was, inside, reason, cond-false _ (Some how) (input_end n rows) (ne_eqb (number_of p) n other) ∙ is)
  malformed_kept (passes.Ingress p) how silent (inr is) = inr is
  malformed_kept passes.Control how silent (inl found) = inl found
  malformed_kept passes.Control how silent (inr (was, reason, is)) = absurd (silent (subst (λ (o : Option How). IsSome o) (sym is) refl))
  malformed_kept passes.Ticker how silent (inl found) = inl found
  malformed_kept passes.Ticker how silent (inr is) = inr is
  malformed_kept (passes.Egress p) how silent (inl found) = inl found
  malformed_kept (passes.Egress p) how silent (inr is) = inr is

  malformed_or : (who : Who) (how : How) (b : Bool) → (b ≡ true → IsMalformedAt plan (row_of plan base past (End who how) ∷ rows)) → (has_malformed rows ≡ true → IsMalformedAt plan (row_of plan base past (End who how) ∷ rows))
      → (b || has_malformed rows) ≡ true → IsMalformedAt plan (row_of plan base past (End who how) ∷ rows)
  malformed_or who how true here before is = here refl
  malformed_or who how false here before is = before is

  malformed_here : (who : Who) (how : How) → IsOpen plan base past who → MayEnd plan base past who how → is_malformed_reason how ≡ true → IsMalformedAt plan (row_of plan base past (End who how) ∷ rows)
  malformed_here (passes.Ingress p) how open_pass may reason = malformed_at p how open_pass.known reason
  malformed_here passes.Control how open_pass may reason = inr (how, reason, refl)
  malformed_here passes.Ticker how open_pass may reason = absurd (ticker_sound plan base past how may reason)
  malformed_here (passes.Egress p) how open_pass may reason = absurd (egress_sound plan base past (number_of p) how may reason)

  malformed_end : (who : Who) (how : How) → MayCome plan base past (End who how) → IsSilent plan rows who → (has_malformed rows ≡ true → IsMalformedAt plan rows)
      → has_malformed (row_of plan base past (End who how) ∷ rows) ≡ true → IsMalformedAt plan (row_of plan base past (End who how) ∷ rows)
  malformed_end who how may silent before is =
      malformed_or who how (is_malformed_reason how) (malformed_here who how may.0 may.1) (λ was. malformed_kept who how silent (before was)) is

  -- an event that is no end changes nothing of this
  malformed_same : (now : List Row) → ((n : ℕ) → input_end n now ≡ input_end n rows) → control_end now ≡ control_end rows → IsMalformedAt plan rows → IsMalformedAt plan now
  malformed_same now inputs control (inl (k, how, inside, reason, is)) = inl (k, how, inside, reason, inputs _ ∙ is)
  malformed_same now inputs control (inr (how, reason, is)) = inr (how, reason, control ∙ is)

module _ (plan : Plan) (base : Base) where
  -- a pass that ends now had said nothing
  silent_of : (past : List Row) (who : Who) → IsOpen plan base past who → Tells plan base past → IsSilent plan past who
  silent_of past (passes.Ingress p) open_pass tells = λ k inside some. apart_now plan base past (place_of plan) (number_of p) (number_at plan k) open_pass.running (tells.inputs (number_at plan k) some)
  silent_of past passes.Control open_pass tells = λ some. false≢true (sym open_pass.running ∙ tells.control some)
  silent_of past passes.Ticker open_pass tells = tt
  silent_of past (passes.Egress p) open_pass tells = tt

  malformed_event : (past : List Row) (event : Event) → MayCome plan base past event → Tells plan base past → (has_malformed past ≡ true → IsMalformedAt plan past)
      → has_malformed (row_of plan base past event ∷ past) ≡ true → IsMalformedAt plan (row_of plan base past event ∷ past)
  malformed_event past (Frame p stamp octets) may tells before is = malformed_same plan base past past (row_of plan base past (Frame p stamp octets) ∷ past) (λ n. refl) refl (before is)
  malformed_event past (Long p stamp len) may tells before is = malformed_same plan base past past (row_of plan base past (Long p stamp len) ∷ past) (λ n. refl) refl (before is)
  malformed_event past (Command stamp line) may tells before is = malformed_same plan base past past (row_of plan base past (Command stamp line) ∷ past) (λ n. refl) refl (before is)
  malformed_event past (Tick stamp) may tells before is = malformed_same plan base past past (row_of plan base past (Tick stamp) ∷ past) (λ n. refl) refl (before is)
  malformed_event past (Drain p count) may tells before is = malformed_same plan base past past (row_of plan base past (Drain p count) ∷ past) (λ n. refl) refl (before is)
  malformed_event past (End who how) may tells before is = malformed_end plan base past past who how may (silent_of past who may.0 tells) before is

  pub legal_malformed : (past : List Row) → IsLegal plan base past → has_malformed past ≡ true → IsMalformedAt plan past
  legal_malformed [] legal is = cc
  legal_malformed (r ∷ past) legal is =
      let event = legal.0.0 in
      let row_is : r ≡ row_of plan base past event = legal.0.2 in
      subst (λ (x : Row). IsMalformedAt plan (x ∷ past)) (sym row_is)
      (malformed_event past event legal.0.1 (tells_legal plan base past legal.1) (legal_malformed past legal.1) (subst (λ (x : Row). has_malformed (x ∷ past) ≡ true) row_is is))

  -- the same of a segment and those before it, without pauses

  abbrev behind : List Row → List Row → List Row
  behind past before = without_pauses (past ++ before)

  silent_behind : (past rows : List Row) (who : Who) → IsLegal plan base past → IsOpen plan base past who → TellsForGood plan base past rows → IsSilent plan rows who
  silent_behind past rows (passes.Ingress p) legal open_pass tells = λ k inside some.
      apart_for_good plan base past (place_of plan) (number_of p) (number_at plan k) legal open_pass.running (tells.inputs (number_at plan k) (known_at plan k inside) some)
  silent_behind past rows passes.Control legal open_pass tells = λ some. apart_for_good plan base past (λ (n : ℕ). control_pass plan) 0 0 legal open_pass.running (tells.control some) refl
  silent_behind past rows passes.Ticker legal open_pass tells = tt
  silent_behind past rows (passes.Egress p) legal open_pass tells = tt

  -- by whether the end is a pause
  end_behind : (past rows : List Row) (who : Who) (how : How) → MayCome plan base past (End who how) → IsSilent plan rows who → (has_malformed rows ≡ true → IsMalformedAt plan rows)
      → (b : Bool) → has_malformed (if not b then row_of plan base past (End who how) ∷ rows else rows) ≡ true → IsMalformedAt plan (if not b then row_of plan base past (End who how) ∷ rows else rows)
  end_behind past rows who how may silent before true is = before is
  end_behind past rows who how may silent before false is = malformed_end plan base past rows who how may silent before is

  event_behind : (past before : List Row) (event : Event) → MayCome plan base past event → IsLegal plan base past → TellsForGood plan base past (behind past before)
      → (has_malformed (behind past before) ≡ true → IsMalformedAt plan (behind past before))
      → has_malformed (behind (row_of plan base past event ∷ past) before) ≡ true → IsMalformedAt plan (behind (row_of plan base past event ∷ past) before)
  event_behind past before (Frame p stamp octets) may legal tells so_far is = malformed_same plan base past (behind past before) (row_of plan base past (Frame p stamp octets) ∷ behind past before) (λ n. refl) refl (so_far is)
  event_behind past before (Long p stamp len) may legal tells so_far is = malformed_same plan base past (behind past before) (row_of plan base past (Long p stamp len) ∷ behind past before) (λ n. refl) refl (so_far is)
  event_behind past before (Command stamp line) may legal tells so_far is = malformed_same plan base past (behind past before) (row_of plan base past (Command stamp line) ∷ behind past before) (λ n. refl) refl (so_far is)
  event_behind past before (Tick stamp) may legal tells so_far is = malformed_same plan base past (behind past before) (row_of plan base past (Tick stamp) ∷ behind past before) (λ n. refl) refl (so_far is)
  event_behind past before (Drain p count) may legal tells so_far is = malformed_same plan base past (behind past before) (row_of plan base past (Drain p count) ∷ behind past before) (λ n. refl) refl (so_far is)
  event_behind past before (End who how) may legal tells so_far is =
      end_behind past (behind past before) who how may (silent_behind past (behind past before) who legal may.0 tells) so_far (is_paused_reason how) is

  rows_malformed : (past before : List Row) → IsLegal plan base past → TellsForGood plan base [] (without_pauses before) → (has_malformed (without_pauses before) ≡ true → IsMalformedAt plan (without_pauses before))
      → has_malformed (behind past before) ≡ true → IsMalformedAt plan (behind past before)
  rows_malformed [] before legal tells so_far is = so_far is
  rows_malformed (r ∷ past) before legal tells so_far is =
      let event = legal.0.0 in
      let row_is : r ≡ row_of plan base past event = legal.0.2 in
      subst (λ (x : Row). IsMalformedAt plan (behind (x ∷ past) before)) (sym row_is)
      (event_behind past before event legal.0.1 legal.1 (tells_rows plan base past before legal.1 tells) (rows_malformed past before legal.1 tells so_far)
      (subst (λ (x : Row). has_malformed (behind (x ∷ past) before) ≡ true) row_is is))

-- an input that is malformed in legal segments is that of a port of the plan, or control's
pub segments_malformed : (plan : Plan) (segments : List (List Row)) → AreLegal plan segments → has_malformed (unbroken segments) ≡ true → IsMalformedAt plan (unbroken segments)
segments_malformed plan [] legal is = cc
segments_malformed plan (segment ∷ before) legal is =
    rows_malformed plan (base_after plan before) segment (joined before) legal.0 (tells_segments plan before legal.2) (segments_malformed plan before legal.2) is
