-- What is told of how passes ended is what the rows say without pauses.
use Rattle.std.proofs.Common.{◌≡◌, ◌&&◌, ◌||◌, not, if◌then◌else◌, ℕ, List, [], ◌∷◌, ◌++◌, Bool, true, false, refl, ap, ◌∙◌, append-nil}
use Rattle.std.specs.List.{list_any}
use Rattle.std.proofs.Math.Bool.{or-false, or_comm}
use Rattle.std.proofs.lemmas.Bool.{cond-false, cond-true}
use Rattle.std.proofs.lemmas.List.Folds.{list_any-append}
use Rattle.savi_kinds.specs.declared.entry.Act.{Act}
use Rattle.savi_kinds.specs.declared.entry.Act.TheVariants as acts
use Rattle.savi_kinds.specs.declared.entry.Who.{Who}
use Rattle.savi_kinds.specs.declared.entry.How.{How}
use Rattle.hist_store.specs.Rows.{Row}
use Rattle.savi_history.specs.Endings.{end_told, ends_told, has_failed, has_failed_write, has_malformed, is_failed_end, is_failed_reason, is_failed_write, is_failed_write_of, is_input, is_malformed_end, is_malformed_reason, is_paused_end, is_paused_reason}
use Rattle.savi_segments.specs.Unbroken.{without_pauses}
use Rattle.switch_run.specs.Session.{status_of, told_status}

-- a pause isn't told
pause_untold : (act : Act) → is_paused_end act ≡ true → end_told act ≡ []
pause_untold (acts.Frame port stamp at len) paused = refl
pause_untold (acts.Long port stamp len) paused = refl
pause_untold (acts.Tick stamp) paused = refl
pause_untold (acts.Command stamp at len) paused = refl
pause_untold (acts.Drain port count) paused = refl
pause_untold (acts.End who how) paused = cond-true (is_paused_reason how) [] ((who, how) ∷ []) paused

-- any other end is
end_said : (who : Who) (how : How) → is_paused_reason how ≡ false → end_told (acts.End who how) ≡ (who, how) ∷ []
end_said who how open_end = cond-false (is_paused_reason how) [] ((who, how) ∷ []) open_end

-- whether some end is told of which this holds, by what it says of each act that is no pause
module _ (told : (Who × How) → Bool) (of_act : Act → Bool) (same : (act : Act) → is_paused_end act ≡ false → list_any told (end_told act) ≡ of_act act) where
  abbrev among : List Row → Bool
  among rows = list_any (λ r. of_act r.entry.act) rows

  any_by : (rest : List Row) (row : Row) (before : Bool) → before ≡ among rest → (b : Bool) → is_paused_end row.entry.act ≡ b
      → (before || list_any told (end_told row.entry.act)) ≡ among (if not b then row ∷ rest else rest)
  any_by rest row before so_far true paused = ap (λ (ends : List (Who × How)). before || list_any told ends) (pause_untold row.entry.act paused) ∙ or-false before ∙ so_far
  any_by rest row before so_far false open_end =
      ap (λ (b : Bool). before || b) (same row.entry.act open_end) ∙ or_comm before (of_act row.entry.act) ∙ ap (λ (b : Bool). of_act row.entry.act || b) so_far

  any_told : (rows : List Row) → list_any told (ends_told rows) ≡ among (without_pauses rows)
  any_told [] = refl
  any_told (r ∷ past) =
      list_any-append told (ends_told past) (end_told r.entry.act)
      ∙ any_by (without_pauses past) r (list_any told (ends_told past)) (any_told past) (is_paused_end r.entry.act) refl

failed_of : (act : Act) → is_paused_end act ≡ false → list_any (λ (told : Who × How). is_input told.0 && is_failed_reason told.1) (end_told act) ≡ is_failed_end act
failed_of (acts.Frame port stamp at len) is = refl
failed_of (acts.Long port stamp len) is = refl
failed_of (acts.Tick stamp) is = refl
failed_of (acts.Command stamp at len) is = refl
failed_of (acts.Drain port count) is = refl
failed_of (acts.End who how) is = ap (list_any (λ (told : Who × How). is_input told.0 && is_failed_reason told.1)) (end_said who how is) ∙ or-false (is_input who && is_failed_reason how)

failed_write_of : (act : Act) → is_paused_end act ≡ false → list_any (λ (told : Who × How). is_failed_write_of told.0 told.1) (end_told act) ≡ is_failed_write act
failed_write_of (acts.Frame port stamp at len) is = refl
failed_write_of (acts.Long port stamp len) is = refl
failed_write_of (acts.Tick stamp) is = refl
failed_write_of (acts.Command stamp at len) is = refl
failed_write_of (acts.Drain port count) is = refl
failed_write_of (acts.End who how) is = ap (list_any (λ (told : Who × How). is_failed_write_of told.0 told.1)) (end_said who how is) ∙ or-false (is_failed_write_of who how)

malformed_of : (act : Act) → is_paused_end act ≡ false → list_any (λ (told : Who × How). is_malformed_reason told.1) (end_told act) ≡ is_malformed_end act
malformed_of (acts.Frame port stamp at len) is = refl
malformed_of (acts.Long port stamp len) is = refl
malformed_of (acts.Tick stamp) is = refl
malformed_of (acts.Command stamp at len) is = refl
malformed_of (acts.Drain port count) is = refl
malformed_of (acts.End who how) is = ap (list_any (λ (told : Who × How). is_malformed_reason told.1)) (end_said who how is) ∙ or-false (is_malformed_reason how)

-- the status by the ends that are told, of which the first that applies counts

abbrev first_told : Bool → Bool → Bool → ℕ
first_told f w m = if f then 5 else if w then 6 else if m then 4 else 0

module _ (written : Bool) (ends : List (Who × How)) (rows : List Row) (are : ends ≡ ends_told rows) where
  failed_is : list_any (λ (told : Who × How). is_input told.0 && is_failed_reason told.1) ends ≡ has_failed (without_pauses rows)
  failed_is = ap (list_any (λ (told : Who × How). is_input told.0 && is_failed_reason told.1)) are ∙ any_told (λ told. is_input told.0 && is_failed_reason told.1) is_failed_end failed_of rows

  failed_write_is : list_any (λ (told : Who × How). is_failed_write_of told.0 told.1) ends ≡ has_failed_write (without_pauses rows)
  failed_write_is = ap (list_any (λ (told : Who × How). is_failed_write_of told.0 told.1)) are ∙ any_told (λ told. is_failed_write_of told.0 told.1) is_failed_write failed_write_of rows

  malformed_is : list_any (λ (told : Who × How). is_malformed_reason told.1) ends ≡ has_malformed (without_pauses rows)
  malformed_is = ap (list_any (λ (told : Who × How). is_malformed_reason told.1)) are ∙ any_told (λ told. is_malformed_reason told.1) is_malformed_end malformed_of rows

  pub status_as_told : told_status written ends ≡ status_of written (without_pauses rows)
  status_as_told =
      ap (λ (f : Bool). first_told f (list_any (λ (told : Who × How). is_failed_write_of told.0 told.1) ends || not written) (list_any (λ (told : Who × How). is_malformed_reason told.1) ends)) failed_is
      ∙ ap (λ (w : Bool). first_told (has_failed (without_pauses rows)) (w || not written) (list_any (λ (told : Who × How). is_malformed_reason told.1) ends)) failed_write_is
      ∙ ap (λ (m : Bool). first_told (has_failed (without_pauses rows)) (has_failed_write (without_pauses rows) || not written) m) malformed_is

-- the ends that are told of the rows without pauses

ends_by : (rest : List Row) (row : Row) (before : List (Who × How)) → before ≡ ends_told rest → (b : Bool) → is_paused_end row.entry.act ≡ b
    → before ++ end_told row.entry.act ≡ ends_told (if not b then row ∷ rest else rest)
ends_by rest row before so_far true paused = ap (λ (ends : List (Who × How)). before ++ ends) (pause_untold row.entry.act paused) ∙ append-nil before ∙ so_far
ends_by rest row before so_far false open_end = ap (λ (ends : List (Who × How)). ends ++ end_told row.entry.act) so_far

-- are those of all rows
pub ends_as_told : (rows : List Row) → ends_told rows ≡ ends_told (without_pauses rows)
ends_as_told [] = refl
ends_as_told (r ∷ past) = ends_by (without_pauses past) r (ends_told past) (ends_as_told past) (is_paused_end r.entry.act) refl
