-- What is taken out: the first pair, if it is due.
use Rattle.std.proofs.Common.{◌≡◌, ℕ, ◌/◌, ◌≤◌, ◌<◌, List, Option, None, Some, refl, ap, ◌∙◌, subst, arith, inl, inr}
use Rattle.std.proofs.lemmas.Bool.{cases_lt, le-leb}
use Rattle.timer_wheel.specs.declared.armed.Armed.{Armed}
use Rattle.timer_wheel.specs.Arms.{due_in, first_armed, due_within}
use Rattle.timer_wheel.specs.Rows.{arms_in, armed_at}
use Rattle.timer_wheel.specs.Rings.{slice_of, rank_of}
use Rattle.timer_wheel.specs.Searches.{IsSoonestOf, LeastOf}
use Rattle.timer_wheel.proofs.Pointwise.{all_pairs, IsNoLater, first_is, first_late}
use Rattle.timer_wheel.proofs.Slots.{IsOneEach, Has, has_row, due_at, arms_in-rising}
use Rattle.timer_wheel.proofs.Seeking.{Fit}

-- what holds of each row holds of each pair
each_row : (P : ℕ → ℕ → Type 0) (slots : List (Option Armed)) → ((key : ℕ) (x : Armed) → armed_at slots key ≡ Some x → P x.address.0 x.due) → (a d : ℕ) → due_in (arms_in slots) a ≡ Some d → P a d
each_row P slots each a d found =
    let has : Has slots a d = has_row slots a d found in
    subst (λ n. P a n) has.due (subst (λ n. P n has.armed.due) has.address (each has.key has.armed has.there))

-- nothing is due by t where each row is due later
none_by : (t : ℕ) (slots : List (Option Armed)) → ((key : ℕ) (x : Armed) → armed_at slots key ≡ Some x → t < x.due) → due_within t (first_armed (arms_in slots)) ≡ None
none_by t slots later = first_late t (arms_in slots) (all_pairs (λ a d. t < d) (arms_in slots) (arms_in-rising slots) (each_row (λ a d. t < d) slots later))

-- no row is due in a slice up to that of t
pub nothing_due : (t : ℕ) (slots : List (Option Armed)) → LeastOf slots (λ armed. slice_of armed ≤ t / 64) None → due_within t (first_armed (arms_in slots)) ≡ None
nothing_due t slots none =
    none_by t slots
    (λ key x there.
    elim (cases_lt t x.due) [
      | inl later ↦ later
      | inr due ↦ absurd (none key x there (omega (arith, due)))
    ])

-- the least of these rows is due later
pub least_late : (t : ℕ) (slots : List (Option Armed)) (least : Armed) → Fit slots → IsSoonestOf slots (λ armed. slice_of armed ≤ t / 64) least → t < least.due → due_within t (first_armed (arms_in slots)) ≡ None
least_late t slots least fit is late =
    none_by t slots
    (λ key x there.
    elim (cases_lt t x.due) [
      | inl later ↦ later
      | inr due ↦
          let le : rank_of least ≤ rank_of x = is.lowest key x there (omega (arith, due)) in
          let no_later : least.due ≤ x.due = omega (arith, le, fit key x there) in
          absurd (omega (arith, no_later, late, due))
    ])

-- the least of these rows is the first, and it is due
pub least_due : (t : ℕ) (slots : List (Option Armed)) (least : Armed) → IsOneEach slots → Fit slots → IsSoonestOf slots (λ armed. slice_of armed ≤ t / 64) least → least.due ≤ t → due_within t (first_armed (arms_in slots)) ≡ Some (least.due, least.address)
least_due t slots least each fit is due =
    ap (due_within t)
    (first_is least.address.0 least.due (arms_in slots) (arms_in-rising slots) (due_at slots is.row.key least each is.row.there)
    (all_pairs (λ a d. IsNoLater least.due least.address.0 d a) (arms_in slots) (arms_in-rising slots) (each_row (λ a d. IsNoLater least.due least.address.0 d a) slots first)))
    ∙ rw (le-leb least.due t due) refl
  where
    first : (key : ℕ) (x : Armed) → armed_at slots key ≡ Some x → IsNoLater least.due least.address.0 x.due x.address.0
    first key x there =
        elim (cases_lt least.due x.due) [
          | inl sooner ↦ inl sooner
          | inr not_sooner ↦
              let le : rank_of least ≤ rank_of x = is.lowest key x there (omega (arith, not_sooner, due)) in
              let no_later : least.due ≤ x.due = omega (arith, le, fit key x there) in
              let same : least.due ≡ x.due = omega (arith, no_later, not_sooner) in
              inr (same, omega (arith, le, same))
        ]
