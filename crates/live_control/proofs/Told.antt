-- What segments tell of control, as the newest goes on.
use Rattle.std.proofs.Common.{◌≡◌, ℕ, not, Bool, true, false, if◌then◌else◌, List, [], ◌∷◌, ◌++◌, refl, sym, ap, subst, ◌∙◌, append-nil, Option, Some}
use Rattle.savi_kinds.specs.declared.plan.Plan.{Plan}
use Rattle.savi_kinds.specs.declared.entry.Who.{Who}
use Rattle.savi_kinds.specs.declared.entry.Who.TheVariants.{Ingress, Control, Ticker, Egress}
use Rattle.savi_kinds.specs.declared.entry.How.{How}
use Rattle.cli_lang.specs.Arrivals.{Line}
use Rattle.hist_store.specs.Rows.{Row}
use Rattle.checkpoint.specs.Bases.{Base}
use Rattle.savi_history.specs.ControlInputs.{control_end, entered_lines}
use Rattle.savi_history.specs.ControlOutputs.{replies}
use Rattle.savi_history.specs.Endings.{is_paused_reason}
use Rattle.savi_history.specs.Events.{Event, Frame, Long, Command, Tick, Drain, End, row_of}
use Rattle.savi_history.specs.Legal.{IsLegal}
use Rattle.savi_history.specs.Passes.{control_pass}
use Rattle.savi_history.specs.Shown.{shown}
use Rattle.savi_segments.specs.Unbroken.{unbroken}
use Rattle.core_keep.specs.Seen.{IsLater}
use Rattle.live_session.proofs.Stays.{IsOther, own, replies_stay, stays}
use Rattle.live_turns.specs.TurnKinds.{DidEnd, DidLine, DidLook, DidPause}
use Rattle.live_control.specs.LineTurns.{EndsControl, AddsLine, TellsSameLines, line_told, told_of_control}

abbrev told_by : List Row → List Line × Option How
told_by rows = (entered_lines rows, control_end rows)

module _ (plan : Plan) (base : Base) (earlier : List (List Row)) where
  abbrev told : List Row → List Line × Option How
  told past = told_of_control (past ∷ earlier)

  -- a row of another pass tells nothing of control

  other_end : (past rows : List Row) (who : Who) (how : How) → IsOther (control_pass plan) (row_of plan base past (End who how)) → told_by (row_of plan base past (End who how) ∷ rows) ≡ told_by rows
  other_end past rows (Ingress p) how other = λ i. (append-nil (entered_lines rows) i, control_end rows)
  other_end past rows Control how other = absurd (own (control_pass plan) other)
  other_end past rows Ticker how other = λ i. (append-nil (entered_lines rows) i, control_end rows)
  other_end past rows (Egress p) how other = λ i. (append-nil (entered_lines rows) i, control_end rows)

  end_step : (past rows : List Row) (who : Who) (how : How) (b : Bool) → IsOther (control_pass plan) (row_of plan base past (End who how))
      → told_by (if not b then row_of plan base past (End who how) ∷ rows else rows) ≡ told_by rows
  end_step past rows who how true other = refl
  end_step past rows who how false other = other_end past rows who how other

  told_step : (past : List Row) (event : Event) → IsOther (control_pass plan) (row_of plan base past event) → told (row_of plan base past event ∷ past) ≡ told past
  told_step past (Frame p stamp octets) other = λ i. (append-nil (entered_lines (unbroken (past ∷ earlier))) i, control_end (unbroken (past ∷ earlier)))
  told_step past (Long p stamp len) other = λ i. (append-nil (entered_lines (unbroken (past ∷ earlier))) i, control_end (unbroken (past ∷ earlier)))
  told_step past (Command stamp line) other = absurd (own (control_pass plan) other)
  told_step past (Tick stamp) other = λ i. (append-nil (entered_lines (unbroken (past ∷ earlier))) i, control_end (unbroken (past ∷ earlier)))
  told_step past (Drain p count) other = λ i. (append-nil (entered_lines (unbroken (past ∷ earlier))) i, control_end (unbroken (past ∷ earlier)))
  told_step past (End who how) other = end_step past (unbroken (past ∷ earlier)) who how (is_paused_reason how) other

  told_stays : (before now : List Row) → IsLegal plan base now → IsLater (control_pass plan) before now → told now ≡ told before
  told_stays before now legal later =
      ap told later.split ∙ stays plan base (control_pass plan) told told_step later.newer before (subst (IsLegal plan base) later.split legal) later.others

-- what a move of control tells

module _ (plan : Plan) (base : Base) (found after : List Row) where
  pub enters_here : (stamp : ℕ) (line reply : List ℕ) → DidLine stamp line true reply plan base found after → AddsLine plan base (line_told stamp line) reply found after
  enters_here stamp line reply did = record {
    told = λ earlier. ap (λ (past : List Row). told_of_control (past ∷ earlier)) did.0.1;
    replied = ap (replies plan base) did.0.1
        ∙ ap (λ (text : List ℕ). replies plan base found ++ text ∷ []) (sym (did.1 ∙ ap (shown plan base) did.0.1));
  }

  pub paused_here : DidPause Control plan base found after → TellsSameLines plan base found after
  paused_here did = record {
    told = λ earlier. ap (λ (past : List Row). told_of_control (past ∷ earlier)) did.1;
    replied = ap (replies plan base) did.1 ∙ append-nil (replies plan base found);
  }

  pub looks_here : (paused : Bool) → DidLook Control paused plan base found after → TellsSameLines plan base found after
  looks_here true did = paused_here did
  looks_here false did = record {
    told = λ earlier. ap (λ (past : List Row). told_of_control (past ∷ earlier)) did.1;
    replied = ap (replies plan base) did.1;
  }

  end_at : (rows : List Row) (how : How) (b : Bool) → b ≡ false → told_by (if not b then row_of plan base found (End Control how) ∷ rows else rows) ≡ (entered_lines rows, Some how)
  end_at rows how true paused = cc
  end_at rows how false paused = λ i. (append-nil (entered_lines rows) i, Some how)

  pub ends_here : (how : How) → is_paused_reason how ≡ false → DidEnd Control how plan base found after → EndsControl plan base how found after
  ends_here how unpaused did = record {
    told = λ earlier. ap (λ (past : List Row). told_of_control (past ∷ earlier)) did ∙ end_at (unbroken (found ∷ earlier)) how (is_paused_reason how) unpaused;
    replied = ap (replies plan base) did ∙ append-nil (replies plan base found);
  }

-- what the pass had seen before its turn

module _ (plan : Plan) (base : Base) (before found after : List Row) (legal : IsLegal plan base found) (later : IsLater (control_pass plan) before found) where
  same_since : TellsSameLines plan base before found
  same_since = record {
    told = λ earlier. told_stays plan base earlier before found legal later;
    replied = sym (replies_stay plan base before found legal later);
  }

  pub same_through : TellsSameLines plan base found after → TellsSameLines plan base before after
  same_through same = record { told = λ earlier. same.told earlier ∙ same_since.told earlier; replied = same.replied ∙ same_since.replied }

  pub enters_through : (line : Line) (reply : List ℕ) → AddsLine plan base line reply found after → AddsLine plan base line reply before after
  enters_through line reply enters = record {
    told = λ earlier. enters.told earlier ∙ ap (λ (t : List Line × Option How). (t.0 ++ line ∷ [], t.1)) (same_since.told earlier);
    replied = enters.replied ∙ ap (λ (texts : List (List ℕ)). texts ++ reply ∷ []) same_since.replied;
  }

  pub ends_through : (how : How) → EndsControl plan base how found after → EndsControl plan base how before after
  ends_through how ends = record {
    told = λ earlier. ends.told earlier ∙ ap (λ (t : List Line × Option How). (t.0, Some how)) (same_since.told earlier);
    replied = ends.replied ∙ same_since.replied;
  }
