-- The pairs in the slots of a slab.
use Rattle.std.proofs.Common.{◌≡◌, ◌≢◌, ◌⊎◌, ℕ, zero, suc, List, [], ◌∷◌, Option, None, Some, refl, sym, ap, ◌∙◌, subst, arith, inl, inr}
use Rattle.std.proofs.lemmas.Bool.{cases_eq}
use Rattle.timer_wheel.specs.declared.armed.Armed.{Armed}
use Rattle.savi_kinds.specs.Orders.{IsRising}
use Rattle.timer_wheel.specs.Arms.{armed_address, due_in, with_due}
use Rattle.timer_wheel.specs.Rows.{arms_in, armed_at}
use Rattle.timer_wheel.proofs.Rising.{IsRising-with_due}
use Rattle.timer_wheel.proofs.Pointwise.{none-some, some-same, due_in-with_same, due_in-with_other, one_list}

-- no two rows have one address
abbrev pub IsOneEach : List (Option Armed) → Type 0
IsOneEach slots = (j k : ℕ) (x y : Armed) → armed_at slots j ≡ Some x → armed_at slots k ≡ Some y → x.address.0 ≡ y.address.0 → j ≡ k

-- a row with this address and moment
pub record Has (slots : List (Option Armed)) (a d : ℕ) : Type 0 where
  pub key : ℕ
  pub armed : Armed
  pub there : armed_at slots key ≡ Some armed
  pub address : armed.address.0 ≡ a
  pub due : armed.due ≡ d

pub arms_in-rising : (slots : List (Option Armed)) → IsRising armed_address (arms_in slots)
arms_in-rising [] i j d before within = absurd (omega (arith, within))
arms_in-rising (None ∷ slots) i j d before within = arms_in-rising slots i j d before within
arms_in-rising (Some armed ∷ slots) i j d before within = IsRising-with_due armed.address.0 (Some armed.due) (arms_in slots) (arms_in-rising slots) i j d before within

later_row : (x : Option Armed) (slots : List (Option Armed)) (a d : ℕ) → Has slots a d → Has (x ∷ slots) a d
later_row x slots a d has = record { key = suc has.key; armed = has.armed; there = has.there; address = has.address; due = has.due }

-- what is due for an address is in a row
pub has_row : (slots : List (Option Armed)) (a d : ℕ) → due_in (arms_in slots) a ≡ Some d → Has slots a d
has_row [] a d found = absurd (none-some (due_in [] a) d refl found)
has_row (None ∷ slots) a d found = later_row None slots a d (has_row slots a d found)
has_row (Some x ∷ slots) a d found =
    elim (cases_eq a x.address.0) [
      | inl here ↦
          let due : x.due ≡ d = some-same x.due d (sym (due_in-with_same x.address.0 (Some x.due) (arms_in slots)) ∙ ap (due_in (arms_in (Some x ∷ slots))) (sym here) ∙ found) in
          record { key = 0; armed = x; there = refl; address = sym here; due = due }
      | inr other ↦ later_row (Some x) slots a d (has_row slots a d (sym (due_in-with_other x.address.0 a (Some x.due) (arms_in slots) other) ∙ found))
    ]

-- nothing is due for an address that no row has
pub none_at : (slots : List (Option Armed)) (a : ℕ) → ((k : ℕ) (x : Armed) → armed_at slots k ≡ Some x → x.address.0 ≢ a) → due_in (arms_in slots) a ≡ None
none_at slots a none = go (due_in (arms_in slots) a) refl
  where
    go : (o : Option ℕ) → due_in (arms_in slots) a ≡ o → o ≡ None
    go None is = refl
    go (Some d) is = let has : Has slots a d = has_row slots a d is in absurd (none has.key has.armed has.there has.address)

pub rest_each : (x : Option Armed) (slots : List (Option Armed)) → IsOneEach (x ∷ slots) → IsOneEach slots
rest_each x slots each j k y z at_j at_k same = let e : suc j ≡ suc k = each (suc j) (suc k) y z at_j at_k same in omega (arith, e)

-- what a row holds is due
pub due_at : (slots : List (Option Armed)) (k : ℕ) (x : Armed) → IsOneEach slots → armed_at slots k ≡ Some x → due_in (arms_in slots) x.address.0 ≡ Some x.due
due_at [] k x each found = absurd (none-some (armed_at [] k) x refl found)
due_at (None ∷ slots) zero x each found = absurd (none-some None x refl found)
due_at (None ∷ slots) (suc k) x each found = due_at slots k x (rest_each None slots each) found
due_at (Some y ∷ slots) zero x each found =
    let same : y ≡ x = some-same y x found in
    subst (λ (z : Armed). due_in (with_due y.address.0 (Some y.due) (arms_in slots)) z.address.0 ≡ Some z.due) same (due_in-with_same y.address.0 (Some y.due) (arms_in slots))
due_at (Some y ∷ slots) (suc k) x each found =
    elim (cases_eq x.address.0 y.address.0) [
      | inl same ↦ let e : suc k ≡ 0 = each (suc k) 0 x y found refl same in absurd (omega (arith, e))
      | inr other ↦ due_in-with_other y.address.0 x.address.0 (Some y.due) (arms_in slots) other ∙ due_at slots k x (rest_each (Some y) slots each) found
    ]

-- how the rows change when something is armed for an address that none has
pub record AddsRow (old new : List (Option Armed)) (key : ℕ) (armed : Armed) : Type 0 where
  pub added : armed_at new key ≡ Some armed
  pub others : (k : ℕ) → k ≢ key → armed_at new k ≡ armed_at old k
  pub empty : armed_at old key ≡ None
  pub absent : (k : ℕ) (x : Armed) → armed_at old k ≡ Some x → x.address.0 ≢ armed.address.0

-- a row of the new slots is the added one or an old one
pub new_row : (old new : List (Option Armed)) (key : ℕ) (armed : Armed) → AddsRow old new key armed → (k : ℕ) (x : Armed) → armed_at new k ≡ Some x → ((k ≡ key) × (x ≡ armed)) ⊎ ((k ≢ key) × (armed_at old k ≡ Some x))
new_row old new key armed adds k x found =
    elim (cases_eq k key) [
      | inl here ↦ inl (here, some-same x armed (sym found ∙ ap (armed_at new) here ∙ adds.added))
      | inr other ↦ inr (other, sym (adds.others k other) ∙ found)
    ]

pub kept_row : (old new : List (Option Armed)) (key : ℕ) (armed : Armed) → AddsRow old new key armed → (k : ℕ) (x : Armed) → armed_at old k ≡ Some x → (k ≢ key) × (armed_at new k ≡ Some x)
kept_row old new key armed adds k x found =
    let other : k ≢ key = λ here. none-some (armed_at old key) x adds.empty (ap (armed_at old) (sym here) ∙ found) in
    (other, adds.others k other ∙ found)

pub each_added : (old new : List (Option Armed)) (key : ℕ) (armed : Armed) → AddsRow old new key armed → IsOneEach old → IsOneEach new
each_added old new key armed adds each j k x y at_j at_k same = go (new_row old new key armed adds j x at_j) (new_row old new key armed adds k y at_k)
  where
    go : ((j ≡ key) × (x ≡ armed)) ⊎ ((j ≢ key) × (armed_at old j ≡ Some x)) → ((k ≡ key) × (y ≡ armed)) ⊎ ((k ≢ key) × (armed_at old k ≡ Some y)) → j ≡ k
    go (inl here) (inl also) = here.0 ∙ sym also.0
    go (inl here) (inr old_one) = absurd (adds.absent k y old_one.1 (sym same ∙ ap (λ z. z.address.0) here.1))
    go (inr old_one) (inl here) = absurd (adds.absent j x old_one.1 (same ∙ ap (λ z. z.address.0) here.1))
    go (inr a) (inr b) = each j k x y a.1 b.1 same

-- what is due for an address whose row is in both
same_due : (old new : List (Option Armed)) (a : ℕ) → IsOneEach old → IsOneEach new → ((k : ℕ) (x : Armed) → x.address.0 ≡ a → armed_at old k ≡ Some x → armed_at new k ≡ Some x) → ((k : ℕ) (x : Armed) → x.address.0 ≡ a → armed_at new k ≡ Some x → armed_at old k ≡ Some x) → due_in (arms_in new) a ≡ due_in (arms_in old) a
same_due old new a each_old each_new there back = go (due_in (arms_in old) a) refl
  where
    go : (o : Option ℕ) → due_in (arms_in old) a ≡ o → due_in (arms_in new) a ≡ o
    go None is =
        none_at new a
        (λ k x found same. none-some (due_in (arms_in old) a) x.due is (ap (due_in (arms_in old)) (sym same) ∙ due_at old k x each_old (back k x same found)))
    go (Some d) is =
        let has : Has old a d = has_row old a d is in
        ap (due_in (arms_in new)) (sym has.address) ∙ due_at new has.key has.armed each_new (there has.key has.armed has.address has.there) ∙ ap Some has.due

pub arms_added : (old new : List (Option Armed)) (key : ℕ) (armed : Armed) → AddsRow old new key armed → IsOneEach old → arms_in new ≡ with_due armed.address.0 (Some armed.due) (arms_in old)
arms_added old new key armed adds each =
    one_list (arms_in new) (with_due armed.address.0 (Some armed.due) (arms_in old)) (arms_in-rising new) (IsRising-with_due armed.address.0 (Some armed.due) (arms_in old) (arms_in-rising old)) same
  where
    each_new : IsOneEach new
    each_new = each_added old new key armed adds each

    same : (a : ℕ) → due_in (arms_in new) a ≡ due_in (with_due armed.address.0 (Some armed.due) (arms_in old)) a
    same a =
        elim (cases_eq a armed.address.0) [
          | inl here ↦
              ap (due_in (arms_in new)) here ∙ due_at new key armed each_new adds.added
              ∙ sym (ap (due_in (with_due armed.address.0 (Some armed.due) (arms_in old))) here ∙ due_in-with_same armed.address.0 (Some armed.due) (arms_in old))
          | inr other ↦
              same_due old new a each each_new (λ k x is found. (kept_row old new key armed adds k x found).1)
              (λ k x is found.
              elim (new_row old new key armed adds k x found) [
                | inl mine ↦ absurd (other (sym is ∙ ap (λ z. z.address.0) mine.1))
                | inr old_one ↦ old_one.1
              ])
              ∙ sym (due_in-with_other armed.address.0 a (Some armed.due) (arms_in old) other)
        ]

-- how they change when a row is taken out
pub record DropsRow (old new : List (Option Armed)) (key : ℕ) (armed : Armed) : Type 0 where
  pub there : armed_at old key ≡ Some armed
  pub gone : armed_at new key ≡ None
  pub others : (k : ℕ) → k ≢ key → armed_at new k ≡ armed_at old k

pub left_row : (old new : List (Option Armed)) (key : ℕ) (armed : Armed) → DropsRow old new key armed → (k : ℕ) (x : Armed) → armed_at new k ≡ Some x → (k ≢ key) × (armed_at old k ≡ Some x)
left_row old new key armed drops k x found =
    let other : k ≢ key = λ here. none-some (armed_at new key) x drops.gone (ap (armed_at new) (sym here) ∙ found) in
    (other, sym (drops.others k other) ∙ found)

pub each_dropped : (old new : List (Option Armed)) (key : ℕ) (armed : Armed) → DropsRow old new key armed → IsOneEach old → IsOneEach new
each_dropped old new key armed drops each j k x y at_j at_k same = each j k x y (left_row old new key armed drops j x at_j).1 (left_row old new key armed drops k y at_k).1 same

pub arms_dropped : (old new : List (Option Armed)) (key : ℕ) (armed : Armed) → DropsRow old new key armed → IsOneEach old → arms_in new ≡ with_due armed.address.0 None (arms_in old)
arms_dropped old new key armed drops each =
    one_list (arms_in new) (with_due armed.address.0 None (arms_in old)) (arms_in-rising new) (IsRising-with_due armed.address.0 None (arms_in old) (arms_in-rising old)) same
  where
    each_new : IsOneEach new
    each_new = each_dropped old new key armed drops each

    same : (a : ℕ) → due_in (arms_in new) a ≡ due_in (with_due armed.address.0 None (arms_in old)) a
    same a =
        elim (cases_eq a armed.address.0) [
          | inl here ↦
              none_at new a
              (λ k x found is.
              let left : (k ≢ key) × (armed_at old k ≡ Some x) = left_row old new key armed drops k x found in
              left.0 (each k key x armed left.1 drops.there (is ∙ here)))
              ∙ sym (ap (due_in (with_due armed.address.0 None (arms_in old))) here ∙ due_in-with_same armed.address.0 None (arms_in old))
          | inr other ↦
              same_due old new a each each_new
              (λ k x is found. drops.others k (λ at. other (sym is ∙ ap (λ z. z.address.0) (some-same x armed (sym found ∙ ap (armed_at old) at ∙ drops.there)))) ∙ found)
              (λ k x is found. (left_row old new key armed drops k x found).1)
              ∙ sym (due_in-with_other armed.address.0 a None (arms_in old) other)
        ]

-- where none has the address, taking it out changes nothing
pub arms_same : (slots : List (Option Armed)) (a : ℕ) → due_in (arms_in slots) a ≡ None → arms_in slots ≡ with_due a None (arms_in slots)
arms_same slots a none = one_list (arms_in slots) (with_due a None (arms_in slots)) (arms_in-rising slots) (IsRising-with_due a None (arms_in slots) (arms_in-rising slots)) same
  where
    same : (b : ℕ) → due_in (arms_in slots) b ≡ due_in (with_due a None (arms_in slots)) b
    same b =
        elim (cases_eq b a) [
          | inl here ↦ ap (due_in (arms_in slots)) here ∙ none ∙ sym (ap (due_in (with_due a None (arms_in slots))) here ∙ due_in-with_same a None (arms_in slots))
          | inr other ↦ sym (due_in-with_other a b None (arms_in slots) other)
        ]
