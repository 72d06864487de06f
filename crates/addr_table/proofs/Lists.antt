-- Probes put in order, and lists made of lists.
use Rattle.std.proofs.Common.{◌≡◌, ◌⊎◌, ℕ, ◌<◌, ◌==◌, ◌&&◌, nat_lt, true, false, List, [], ◌∷◌, ◌++◌, append_assoc, refl, sym, ◌∙◌, ap, inl, inr, arith}
use Rattle.std.specs.List.{AllByRecursion, flat_map}
use Rattle.std.proofs.lemmas.Bool.{cases_Bool, or_cases, and_parts, or_from, and_left, and_right, ltb-true, eqb-true, le-ltb, ne_eqb}
use Rattle.fcfs_states.specs.declared.answer.Probe.{Probe}
use Rattle.savi_access.specs.declared.sent.SentProbe.{SentProbe}
use Rattle.savi_access.specs.Sends.{is_before, put_in, in_order, sent_of}
use Rattle.savi_access.proofs.Parts.{all_joined}
use Rattle.savi_access.proofs.Orders.{IsBefore}

pub flat_map-append : {X Y : Type 0} (f : X → List Y) (xs ys : List X) → flat_map f (xs ++ ys) ≡ flat_map f xs ++ flat_map f ys
flat_map-append f [] ys = refl
flat_map-append f (x ∷ xs) ys = ap (λ rest. f x ++ rest) (flat_map-append f xs ys) ∙ sym (append_assoc (f x) (flat_map f xs) (flat_map f ys))

pub all_flat : {X Y : Type 0} (P : X → Type 0) (Q : Y → Type 0) (f : X → List Y) → ((x : X) → P x → AllByRecursion Q (f x)) → (xs : List X) → AllByRecursion P xs → AllByRecursion Q (flat_map f xs)
all_flat P Q f each [] all = tt
all_flat P Q f each (x ∷ xs) all = all_joined Q (f x) (flat_map f xs) (each x all.0) (all_flat P Q f each xs all.1)

pub not_both_before : (x y : SentProbe) → IsBefore x y → is_before y x ≡ false
not_both_before x y first = by_case (or_cases (nat_lt x.due y.due) (x.due == y.due && nat_lt x.address.0 y.address.0) first)
  where
    by_case : (nat_lt x.due y.due ≡ true) ⊎ ((x.due == y.due && nat_lt x.address.0 y.address.0) ≡ true) → is_before y x ≡ false
    by_case (inl earlier) =
        let less : x.due < y.due = ltb-true x.due y.due earlier in
        or_from (nat_lt y.due x.due) (y.due == x.due && nat_lt y.address.0 x.address.0) (le-ltb y.due x.due (omega (arith, less)))
        (and_left (y.due == x.due) (nat_lt y.address.0 x.address.0) (ne_eqb y.due x.due (λ same. omega (arith, less, same))))
    by_case (inr same) =
        let both = and_parts (x.due == y.due) (nat_lt x.address.0 y.address.0) same in
        let due : x.due ≡ y.due = eqb-true x.due y.due both.0 in
        let lower : x.address.0 < y.address.0 = ltb-true x.address.0 y.address.0 both.1 in
        or_from (nat_lt y.due x.due) (y.due == x.due && nat_lt y.address.0 x.address.0) (le-ltb y.due x.due (omega (arith, due)))
        (and_right (y.due == x.due) (nat_lt y.address.0 x.address.0) (le-ltb y.address.0 x.address.0 (omega (arith, lower))))

all_put : (P : SentProbe → Type 0) (x : SentProbe) (ys : List SentProbe) → P x → AllByRecursion P ys → AllByRecursion P (put_in x ys)
all_put P x [] mine all = (mine, tt)
all_put P x (y ∷ ys) mine all =
    elim (cases_Bool (is_before x y)) [
      | inl first ↦ rw first (mine, all)
      | inr later ↦ rw later (all.0, all_put P x ys mine all.1)
    ]

pub all_ordered : (P : SentProbe → Type 0) (xs : List SentProbe) → AllByRecursion P xs → AllByRecursion P (in_order xs)
all_ordered P [] all = tt
all_ordered P (x ∷ xs) all = all_put P x (in_order xs) all.0 (all_ordered P xs all.1)

put_first : (x : SentProbe) (ys : List SentProbe) → AllByRecursion (IsBefore x) ys → put_in x ys ≡ x ∷ ys
put_first x [] all = refl
put_first x (y ∷ ys) all = rw all.0 refl

-- a probe that comes before all others is the first in order
pub first_in_order : (x : SentProbe) (front back : List SentProbe) → AllByRecursion (IsBefore x) front → AllByRecursion (IsBefore x) back → in_order (front ++ x ∷ back) ≡ x ∷ in_order (front ++ back)
first_in_order x [] back early late = put_first x (in_order back) (all_ordered (IsBefore x) back late)
first_in_order x (y ∷ front) back early late =
    ap (put_in y) (first_in_order x front back early.1 late) ∙ behind_first
  where
    behind_first : put_in y (x ∷ in_order (front ++ back)) ≡ x ∷ put_in y (in_order (front ++ back))
    behind_first = rw (not_both_before x y early.0) refl

-- what holds of each probe of an address holds of each as it is sent
pub all_sent : (P : SentProbe → Type 0) (a : ℕ) (probes : List (ℕ × Probe)) → AllByRecursion (λ p. P (record { due = p.0; address = record { 0 = a }; probe = p.1 })) probes → AllByRecursion P (sent_of a probes)
all_sent P a [] all = tt
all_sent P a (p ∷ probes) all = (all.0, all_sent P a probes all.1)

pub sent_of-append : (a : ℕ) (xs ys : List (ℕ × Probe)) → sent_of a (xs ++ ys) ≡ sent_of a xs ++ sent_of a ys
sent_of-append a [] ys = refl
sent_of-append a (x ∷ xs) ys = ap (λ rest. record { due = x.0; address = record { 0 = a }; probe = x.1 } ∷ rest) (sent_of-append a xs ys)
