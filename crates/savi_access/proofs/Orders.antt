-- Probes in order, and what is among them.
use Rattle.std.proofs.Common.{◌≡◌, ◌⊎◌, ◌<◌, ◌==◌, ◌&&◌, nat_lt, suc, Bool, true, false, List, [], ◌∷◌, ◌++◌, filter, length, refl, sym, ◌∙◌, ap, subst, inl, inr, arith}
use Rattle.std.specs.List.{AllByRecursion}
use Rattle.std.proofs.lemmas.Bool.{cases_Bool, or_cases, and_parts, or_left, or_right, and_from, ltb-true, eqb-true, lt-ltb, eq-eqb}
use Rattle.savi_access.specs.declared.sent.SentProbe.{SentProbe}
use Rattle.savi_access.specs.Sends.{is_before, put_in, in_order}
use Rattle.savi_access.specs.Probes.{IsAmong, AreInOrder}
use Rattle.savi_access.proofs.Parts.{all_weaker, all_joined, all_filtered}

-- what is among lists that were joined, or among what a filter leaves
pub among_front : {X : Type 0} (x : X) (xs ys : List X) → IsAmong x xs → IsAmong x (xs ++ ys)
among_front x [] ys is = absurd is
among_front x (y ∷ xs) ys (inl same) = inl same
among_front x (y ∷ xs) ys (inr later) = inr (among_front x xs ys later)

pub among_back : {X : Type 0} (x : X) (xs ys : List X) → IsAmong x ys → IsAmong x (xs ++ ys)
among_back x [] ys is = is
among_back x (y ∷ xs) ys is = inr (among_back x xs ys is)

pub among_either : {X : Type 0} (x : X) (xs ys : List X) → IsAmong x (xs ++ ys) → IsAmong x xs ⊎ IsAmong x ys
among_either x [] ys is = inr is
among_either x (y ∷ xs) ys (inl same) = inl (inl same)
among_either x (y ∷ xs) ys (inr later) = elim (among_either x xs ys later) [ inl front ↦ inl (inr front) | inr back ↦ inr back ]

pub among_left : {X : Type 0} (p : X → Bool) (x : X) (xs : List X) → IsAmong x (filter p xs) → (p x ≡ true) × IsAmong x xs
among_left p x [] is = absurd is
among_left p x (y ∷ xs) is =
    elim (cases_Bool (p y)) [
      | inl passes ↦
          let whole : (x ≡ y) ⊎ IsAmong x (filter p xs) = rw passes at is in
          elim whole [ inl same ↦ (ap p same ∙ passes, inl same) | inr later ↦ let rest = among_left p x xs later in (rest.0, inr rest.1) ]
      | inr stops ↦ let later : IsAmong x (filter p xs) = rw stops at is in let rest = among_left p x xs later in (rest.0, inr rest.1)
    ]

pub among_passing : {X : Type 0} (p : X → Bool) (x : X) (xs : List X) → p x ≡ true → IsAmong x xs → IsAmong x (filter p xs)
among_passing p x [] passes is = absurd is
among_passing p x (y ∷ xs) passes (inl same) = rw (ap p (sym same) ∙ passes) (inl same)
among_passing p x (y ∷ xs) passes (inr later) =
    elim (cases_Bool (p y)) [
      | inl too ↦ rw too (inr (among_passing p x xs passes later))
      | inr stops ↦ rw stops (among_passing p x xs passes later)
    ]

pub all_among : {X : Type 0} (P : X → Type 0) (x : X) (xs : List X) → AllByRecursion P xs → IsAmong x xs → P x
all_among P x [] all is = absurd is
all_among P x (y ∷ xs) all (inl same) = subst P (sym same) all.0
all_among P x (y ∷ xs) all (inr later) = all_among P x xs all.1 later

pub all_from : {X : Type 0} (P : X → Type 0) (xs : List X) → ((x : X) → IsAmong x xs → P x) → AllByRecursion P xs
all_from P [] each = tt
all_from P (x ∷ xs) each = (each x (inl refl), all_from P xs (λ y is. each y (inr is)))

pub all_filter : {X : Type 0} (p : X → Bool) (xs : List X) → AllByRecursion (λ x. p x ≡ true) xs → filter p xs ≡ xs
all_filter p [] all = refl
all_filter p (x ∷ xs) all = rw all.0 (ap (λ rest. x ∷ rest) (all_filter p xs all.1))

pub none_filter : {X : Type 0} (p : X → Bool) (xs : List X) → AllByRecursion (λ x. p x ≡ false) xs → filter p xs ≡ []
none_filter p [] all = refl
none_filter p (x ∷ xs) all = rw all.0 (none_filter p xs all.1)

-- one probe comes before another one
abbrev pub IsBefore : SentProbe → SentProbe → Type 0
IsBefore x y = is_before x y ≡ true

abbrev pub IsSooner : SentProbe → SentProbe → Type 0
IsSooner x y = (x.due < y.due) ⊎ ((x.due ≡ y.due) × (x.address.0 < y.address.0))

pub before_by : (x y : SentProbe) → IsSooner x y → IsBefore x y
before_by x y (inl earlier) = or_left (nat_lt x.due y.due) (x.due == y.due && nat_lt x.address.0 y.address.0) (lt-ltb x.due y.due earlier)
before_by x y (inr same) =
    or_right (nat_lt x.due y.due) (x.due == y.due && nat_lt x.address.0 y.address.0)
    (and_from (x.due == y.due) (nat_lt x.address.0 y.address.0) (eq-eqb x.due y.due same.0) (lt-ltb x.address.0 y.address.0 same.1))

pub sooner_by : (x y : SentProbe) → IsBefore x y → IsSooner x y
sooner_by x y before =
    elim (or_cases (nat_lt x.due y.due) (x.due == y.due && nat_lt x.address.0 y.address.0) before) [
      | inl earlier ↦ inl (ltb-true x.due y.due earlier)
      | inr same ↦
          let both : ((x.due == y.due) ≡ true) × (nat_lt x.address.0 y.address.0 ≡ true) = and_parts (x.due == y.due) (nat_lt x.address.0 y.address.0) same in
          inr (eqb-true x.due y.due both.0, ltb-true x.address.0 y.address.0 both.1)
    ]

sooner_than : (x y z : SentProbe) → IsSooner x y → IsSooner y z → IsSooner x z
sooner_than x y z (inl one) (inl two) = inl (omega (arith, one, two))
sooner_than x y z (inl one) (inr two) = inl (omega (arith, one, two.0))
sooner_than x y z (inr one) (inl two) = inl (omega (arith, one.0, two))
sooner_than x y z (inr one) (inr two) = inr (one.0 ∙ two.0, omega (arith, one.1, two.1))

never_sooner : (x : SentProbe) → IsSooner x x → ⊥
never_sooner x (inl less) = omega (arith, less)
never_sooner x (inr less) = omega (arith, less.1)

pub before_than : (x y z : SentProbe) → IsBefore x y → IsBefore y z → IsBefore x z
before_than x y z one two = before_by x z (sooner_than x y z (sooner_by x y one) (sooner_by y z two))

pub never_before : (x : SentProbe) → IsBefore x x → ⊥
never_before x before = never_sooner x (sooner_by x x before)

-- of two probes one comes before the other
abbrev pub AreApart : SentProbe → SentProbe → Type 0
AreApart x y = IsBefore x y ⊎ IsBefore y x

abbrev pub AllApart : List SentProbe → Type 0
AllApart [] = Unit {0}
AllApart (x ∷ xs) = AllByRecursion (AreApart x) xs × AllApart xs

pub apart_joined : (xs ys : List SentProbe) → AllApart xs → AllApart ys → AllByRecursion (λ x. AllByRecursion (AreApart x) ys) xs → AllApart (xs ++ ys)
apart_joined [] ys one two each = two
apart_joined (x ∷ xs) ys one two each = (all_joined (AreApart x) xs ys one.0 each.0, apart_joined xs ys one.1 two each.1)

pub apart_filter : (p : SentProbe → Bool) (xs : List SentProbe) → AllApart xs → AllApart (filter p xs)
apart_filter p [] apart = tt
apart_filter p (x ∷ xs) apart =
    elim (cases_Bool (p x)) [
      | inl passes ↦ rw passes (all_filtered (AreApart x) p xs apart.0, apart_filter p xs apart.1)
      | inr stops ↦ rw stops (apart_filter p xs apart.1)
    ]

-- putting probes in order keeps them
put-among : (z x : SentProbe) (ys : List SentProbe) → IsAmong z (x ∷ ys) → IsAmong z (put_in x ys)
put-among z x [] is = is
put-among z x (y ∷ ys) is =
    elim (cases_Bool (is_before x y)) [
      | inl first ↦ rw first is
      | inr later ↦ rw later (elim is [ inl mine ↦ inr (put-among z x ys (inl mine)) | inr (inl head) ↦ inl head | inr (inr rest) ↦ inr (put-among z x ys (inr rest)) ])
    ]

among-put : (z x : SentProbe) (ys : List SentProbe) → IsAmong z (put_in x ys) → IsAmong z (x ∷ ys)
among-put z x [] is = is
among-put z x (y ∷ ys) is =
    elim (cases_Bool (is_before x y)) [
      | inl first ↦ rw first at is
      | inr later ↦
          let whole : (z ≡ y) ⊎ IsAmong z (put_in x ys) = rw later at is in
          elim whole [ inl head ↦ inr (inl head) | inr rest ↦ swap (among-put z x ys rest) ]
    ]
  where
    swap : (z ≡ x) ⊎ IsAmong z ys → IsAmong z (x ∷ y ∷ ys)
    swap (inl mine) = inl mine
    swap (inr rest) = inr (inr rest)

pub order-among : (z : SentProbe) (xs : List SentProbe) → IsAmong z xs → IsAmong z (in_order xs)
order-among z [] is = is
order-among z (x ∷ xs) (inl same) = put-among z x (in_order xs) (inl same)
order-among z (x ∷ xs) (inr later) = put-among z x (in_order xs) (inr (order-among z xs later))

pub among-order : (z : SentProbe) (xs : List SentProbe) → IsAmong z (in_order xs) → IsAmong z xs
among-order z [] is = is
among-order z (x ∷ xs) is = elim (among-put z x (in_order xs) is) [ inl same ↦ inl same | inr later ↦ inr (among-order z xs later) ]

put-length : (x : SentProbe) (ys : List SentProbe) → length (put_in x ys) ≡ suc (length ys)
put-length x [] = refl
put-length x (y ∷ ys) =
    elim (cases_Bool (is_before x y)) [
      | inl first ↦ rw first refl
      | inr later ↦ rw later (ap suc (put-length x ys))
    ]

pub order-length : (xs : List SentProbe) → length (in_order xs) ≡ length xs
order-length [] = refl
order-length (x ∷ xs) = put-length x (in_order xs) ∙ ap suc (order-length xs)

-- and puts them in order, where each two are apart
put-order : (x : SentProbe) (ys : List SentProbe) → AreInOrder ys → AllByRecursion (AreApart x) ys → AreInOrder (put_in x ys)
put-order x [] order apart = (tt, tt)
put-order x (y ∷ ys) order apart =
    elim (cases_Bool (is_before x y)) [
      | inl first ↦ rw first ((first, all_weaker (IsBefore y) (IsBefore x) (λ z after. before_than x y z first after) ys order.0), order)
      | inr later ↦
          let back : IsBefore y x = elim apart.0 [ inl first ↦ absurd (true_false first later) | inr back ↦ back ] in
          rw later
          (all_from (IsBefore y) (put_in x ys) (λ z is. behind z back (among-put z x ys is)), put-order x ys order.1 apart.1)
    ]
  where
    true_false : is_before x y ≡ true → is_before x y ≡ false → ⊥
    true_false one two = let same : true ≡ false = sym one ∙ two in absurd (cc)

    behind : (z : SentProbe) → IsBefore y x → (z ≡ x) ⊎ IsAmong z ys → IsBefore y z
    behind z back (inl same) = subst (IsBefore y) (sym same) back
    behind z back (inr rest) = all_among (IsBefore y) z ys order.0 rest

pub in_order-is : (xs : List SentProbe) → AllApart xs → AreInOrder (in_order xs)
in_order-is [] apart = tt
in_order-is (x ∷ xs) apart = put-order x (in_order xs) (in_order-is xs apart.1) (all_from (AreApart x) (in_order xs) (λ z is. all_among (AreApart x) z xs apart.0 (among-order z xs is)))

-- two lists in order are joined in order where all of the one come before all of the other
pub order-joined : (xs ys : List SentProbe) → AreInOrder xs → AreInOrder ys → ((x y : SentProbe) → IsAmong x xs → IsAmong y ys → IsBefore x y) → AreInOrder (xs ++ ys)
order-joined [] ys one two each = two
order-joined (x ∷ xs) ys one two each = (
  all_joined (IsBefore x) xs ys one.0 (all_from (IsBefore x) ys (λ y is. each x y (inl refl) is)),
  order-joined xs ys one.1 two (λ z y is are. each z y (inr is) are),
)

-- lists in order with the same members are one
pub one_order : (xs ys : List SentProbe) → AreInOrder xs → AreInOrder ys → ((z : SentProbe) → IsAmong z xs → IsAmong z ys) → ((z : SentProbe) → IsAmong z ys → IsAmong z xs) → xs ≡ ys
one_order [] [] one two to back = refl
one_order [] (y ∷ ys) one two to back = absurd (back y (inl refl))
one_order (x ∷ xs) [] one two to back = absurd (to x (inl refl))
one_order (x ∷ xs) (y ∷ ys) one two to back =
    let same : x ≡ y = first (to x (inl refl)) (back y (inl refl)) in
    ap (λ z. z ∷ xs) same
    ∙ ap (λ zs. y ∷ zs)
    (one_order xs ys one.1 two.1 (λ z is. rest z x y xs ys same one.0 is (to z (inr is))) (λ z is. rest z y x ys xs (sym same) two.0 is (back z (inr is))))
  where
    first : (x ≡ y) ⊎ IsAmong x ys → (y ≡ x) ⊎ IsAmong y xs → x ≡ y
    first (inl same) other = same
    first (inr later) (inl same) = sym same
    first (inr later) (inr other) =
        absurd (never_before x (before_than x y x (all_among (IsBefore x) y xs one.0 other) (all_among (IsBefore y) x ys two.0 later)))

    rest : (z x y : SentProbe) (xs ys : List SentProbe) → x ≡ y → AllByRecursion (IsBefore x) xs → IsAmong z xs → (z ≡ y) ⊎ IsAmong z ys → IsAmong z ys
    rest z x y xs ys same all is (inl head) = absurd (never_before z (subst (λ w. IsBefore w z) (same ∙ sym head) (all_among (IsBefore x) z xs all is)))
    rest z x y xs ys same all is (inr later) = later
