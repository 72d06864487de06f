-- Entries in the order of their keys: where a new one goes, and that the order stays.
use Rattle.std.proofs.Common.{◌≡◌, ℕ, suc, ◌+◌, ◌-◌, ◌<◌, ◌≤◌, ◌==◌, ◌&&◌, ◌||◌, nat_lt, nat_le, Bool, true, false, not, List, [], ◌∷◌, ◌++◌, length, get_or, take, drop, filter, count_by, All, refl, sym, ◌∙◌, ap, arith, inl, inr, ◌⊎◌}
use Rattle.std.specs.List.{AllPairs, insert}
use Rattle.std.proofs.lemmas.Bool.{both_ways, cases_Bool, and_parts, and_from, or_cases, or_left, or_right, ltb-true, lt-ltb, le-ltb, le-leb, lt-leb, eqb-true, eq-eqb, not_from_false}
use Rattle.std.proofs.lemmas.List.{length-append, length-drop, length-take-le}
use Rattle.std.proofs.lemmas.List.Elements.{All-head, All-tail, All-cons, filter_passes}
use Rattle.std.proofs.lemmas.List.Sums.{length-filter, count_by-le-length}
use Rattle.std.proofs.lemmas.List.Kept.{AllPairs-cons, AllPairs-filter}
use Rattle.savi_kinds.proofs.Pairs.{AllPairs-head, AllPairs-tail, AllPairs-append}
use Rattle.savi_kinds.proofs.Filters.{filter-none, count_by-cons}
use Rattle.ra_learn.specs.Ordered.{IsOrdered, is_other, left_beside, placed, with_set_entry, is_one_too_many}

-- of two entries one at most comes first, and what comes first comes before all that follows
pub record IsOrder {A : Type 0} (before : A → A → Bool) : Type 0 where
  pub apart : (x y : A) → before x y ≡ true → before y x ≡ true → ⊥
  pub through : (x y z : A) → before x y ≡ true → before y z ≡ true → before x z ≡ true

-- the order by two numbers
abbrev pub by_numbers : {A : Type 0} → (A → ℕ) → (A → ℕ) → A → A → Bool
by_numbers f g x y = nat_lt (f x) (f y) || ((f x == f y) && nat_lt (g x) (g y))

numbers_in : (a b p q : ℕ) → (nat_lt a b || ((a == b) && nat_lt p q)) ≡ true → (a < b) ⊎ ((a ≡ b) × (p < q))
numbers_in a b p q is =
    elim (or_cases (nat_lt a b) ((a == b) && nat_lt p q) is) [
      | inl less ↦ inl (ltb-true a b less)
      | inr both ↦ let parts : ((a == b) ≡ true) × (nat_lt p q ≡ true) = and_parts (a == b) (nat_lt p q) both in inr (eqb-true a b parts.0, ltb-true p q parts.1)
    ]

numbers_out : (a b p q : ℕ) → (a < b) ⊎ ((a ≡ b) × (p < q)) → (nat_lt a b || ((a == b) && nat_lt p q)) ≡ true
numbers_out a b p q is =
    elim is [
      | inl less ↦ or_left (nat_lt a b) ((a == b) && nat_lt p q) (lt-ltb a b less)
      | inr both ↦ or_right (nat_lt a b) ((a == b) && nat_lt p q) (and_from (a == b) (nat_lt p q) (eq-eqb a b both.0) (lt-ltb p q both.1))
    ]

not_both : (a b p q : ℕ) → (a < b) ⊎ ((a ≡ b) × (p < q)) → (b < a) ⊎ ((b ≡ a) × (q < p)) → ⊥
not_both a b p q one other =
    elim one [
      | inl less ↦ elim other [ inl more ↦ omega (arith, less, more) | inr same ↦ omega (arith, less, same.0) ]
      | inr both ↦ elim other [ inl more ↦ omega (arith, both.0, more) | inr same ↦ omega (arith, both.1, same.1) ]
    ]

joined : (a b c p q r : ℕ) → (a < b) ⊎ ((a ≡ b) × (p < q)) → (b < c) ⊎ ((b ≡ c) × (q < r)) → (a < c) ⊎ ((a ≡ c) × (p < r))
joined a b c p q r one other =
    elim one [
      | inl less ↦ elim other [ inl more ↦ inl (omega (arith, less, more)) | inr same ↦ inl (omega (arith, less, same.0)) ]
      | inr both ↦ elim other [ inl more ↦ inl (omega (arith, both.0, more)) | inr same ↦ inr (omega (arith, both.0, same.0), omega (arith, both.1, same.1)) ]
    ]

pub numbers_order : {A : Type 0} (f g : A → ℕ) → IsOrder (by_numbers f g)
numbers_order f g = record {
  apart = λ x y one other. not_both (f x) (f y) (g x) (g y) (numbers_in (f x) (f y) (g x) (g y) one) (numbers_in (f y) (f x) (g y) (g x) other);
  through = λ x y z one other. numbers_out (f x) (f z) (g x) (g z) (joined (f x) (f y) (f z) (g x) (g y) (g z) (numbers_in (f x) (f y) (g x) (g y) one) (numbers_in (f y) (f z) (g y) (g z) other));
}

filter_same_on : {A : Type 0} (p q : A → Bool) (xs : List A) → All (λ x. p x ≡ q x) xs → filter p xs ≡ filter q xs
filter_same_on p q [] same = refl
filter_same_on p q (x ∷ xs) same =
    rw (All-head (λ y. p y ≡ q y) x xs same, filter_same_on p q xs (All-tail (λ y. p y ≡ q y) x xs same)) refl

filter_whole : {A : Type 0} (p : A → Bool) (xs : List A) → All (λ x. p x ≡ true) xs → filter p xs ≡ xs
filter_whole p [] pass = refl
filter_whole p (x ∷ xs) pass = rw (All-head (λ y. p y ≡ true) x xs pass) (ap (λ ys. x ∷ ys) (filter_whole p xs (All-tail (λ y. p y ≡ true) x xs pass)))

count_none : {A : Type 0} (p : A → Bool) (xs : List A) → All (λ x. p x ≡ false) xs → count_by p xs ≡ 0
count_none p [] stop = refl
count_none p (x ∷ xs) stop =
    let rest : count_by p xs ≡ 0 = count_none p xs (All-tail (λ y. p y ≡ false) x xs stop) in
    count_by-cons p x xs ∙ rw (All-head (λ y. p y ≡ false) x xs stop) (omega (arith, rest))

-- where what passes a test stands in front, it is that front, and the rest is what doesn't pass
pub front_passes : {A : Type 0} (p : A → Bool) (xs : List A) → AllPairs (λ x y. p y ≡ true → p x ≡ true) xs → (take (count_by p xs) xs ≡ filter p xs) × (drop (count_by p xs) xs ≡ filter (λ x. not (p x)) xs)
front_passes p [] front = (refl, refl)
front_passes {A} p (x ∷ xs) front =
    elim (cases_Bool (p x)) [
      | inl passes ↦
          let rest : (take (count_by p xs) xs ≡ filter p xs) × (drop (count_by p xs) xs ≡ filter (λ y. not (p y)) xs) = front_passes p xs (AllPairs-tail (λ a b. p b ≡ true → p a ≡ true) x xs front) in
          let count : count_by p (x ∷ xs) ≡ suc (count_by p xs) = count_by-cons p x xs ∙ rw passes (omega arith) in
          rw (count, passes) (ap (λ ys. x ∷ ys) rest.0, rest.1)
      | inr stops ↦
          let none : All (λ y. p y ≡ false) xs = λ k d below. elim (cases_Bool (p (get_or xs k d))) [ inl is ↦ absurd (both_ways (p x) stops (AllPairs-head (λ a b. p b ≡ true → p a ≡ true) x xs front k d below is)) | inr none ↦ none ] in
          let count : count_by p (x ∷ xs) ≡ 0 = count_by-cons p x xs ∙ rw stops (omega (arith, count_none p xs none)) in
          let all : filter (λ y. not (p y)) xs ≡ xs = filter_whole (λ y. not (p y)) xs (λ k d below. not_from_false (p (get_or xs k d)) (none k d below)) in
          rw (count, stops) (sym (filter-none p xs none), ap (λ ys. x ∷ ys) (sym all))
    ]

pub left_ordered : {A : Type 0} (before : A → A → Bool) (stands : A → Bool) (new : A) (entries : List A) → IsOrdered before entries → IsOrdered before (left_beside before stands new entries)
left_ordered before stands new entries ordered = AllPairs-filter (λ x y. before x y ≡ true) (λ entry. stands entry && is_other before new entry) entries ordered

pub left_others : {A : Type 0} (before : A → A → Bool) (stands : A → Bool) (new : A) (entries : List A) → All (λ entry. is_other before new entry ≡ true) (left_beside before stands new entries)
left_others before stands new entries k d below =
    (and_parts _ _ (filter_passes (λ entry. stands entry && is_other before new entry) entries k d below)).1

behind_is : {A : Type 0} (before : A → A → Bool) → IsOrder before → (new entry : A) → is_other before new entry ≡ true → not (before entry new) ≡ before new entry
behind_is before order new entry other =
    elim (cases_Bool (before entry new)) [
      | inl first ↦ elim (cases_Bool (before new entry)) [ inl second ↦ absurd (order.apart entry new first second) | inr none ↦ rw (first, none) refl ]
      | inr later ↦ elim (or_cases (before entry new) (before new entry) other) [ inl first ↦ absurd (both_ways (before entry new) later first) | inr is ↦ rw (later, is) refl ]
    ]

-- it goes behind as many as come before it
pub placed_is : {A : Type 0} (before : A → A → Bool) → IsOrder before → (new : A) (others : List A) → IsOrdered before others → All (λ entry. is_other before new entry ≡ true) others → insert others (count_by (λ entry. before entry new) others) new ≡ placed before new others
placed_is before order new others ordered apart =
    let parts = front_passes (λ entry. before entry new) others (λ i j d less below is. order.through (get_or others i d) (get_or others j d) new (ordered i j d less below) is) in
    let back : filter (λ entry. not (before entry new)) others ≡ filter (λ entry. before new entry) others = filter_same_on (λ entry. not (before entry new)) (λ entry. before new entry) others (λ k d below. behind_is before order new (get_or others k d) (apart k d below)) in
    ap (λ front. front ++ new ∷ drop (count_by (λ entry. before entry new) others) others) parts.0
    ∙ ap (λ rest. filter (λ entry. before entry new) others ++ new ∷ rest) (parts.1 ∙ back)

pub placed_ordered : {A : Type 0} (before : A → A → Bool) → IsOrder before → (new : A) (others : List A) → IsOrdered before others → IsOrdered before (placed before new others)
placed_ordered {A} before order new others ordered =
    let R : A → A → Type 0 = λ x y. before x y ≡ true in
    let front : List A = filter (λ entry. before entry new) others in
    let back : List A = filter (λ entry. before new entry) others in
    let in_front = filter_passes (λ entry. before entry new) others in
    let behind = filter_passes (λ entry. before new entry) others in
    AllPairs-append R front (new ∷ back)
    (AllPairs-filter R (λ entry. before entry new) others ordered)
    (AllPairs-cons R new back behind (AllPairs-filter R (λ entry. before new entry) others ordered))
    (λ k d below. All-cons (R (get_or front k d)) new back (in_front k d below) (λ m e within. order.through (get_or front k d) new (get_or back m e) (in_front k d below) (behind m e within)))

-- What setting an entry comes to, by the three ways.
pub sets_none : {A : Type 0} (most : ℕ) (before : A → A → Bool) (stands : A → Bool) (new : A) (entries : List A) → stands new ≡ false → with_set_entry most before stands new entries ≡ left_beside before stands new entries
sets_none most before stands new entries gone = rw gone refl

pub sets_full : {A : Type 0} (most : ℕ) (before : A → A → Bool) (stands : A → Bool) (new : A) (entries : List A) → most ≤ length (left_beside before stands new entries) → with_set_entry most before stands new entries ≡ left_beside before stands new entries
sets_full most before stands new entries full =
    let some : nat_lt (length (left_beside before stands new entries)) most ≡ false = le-ltb (length (left_beside before stands new entries)) most full in
    elim (cases_Bool (stands new)) [ inl is ↦ rw (is, some) refl | inr gone ↦ rw gone refl ]

pub sets_placed : {A : Type 0} (most : ℕ) (before : A → A → Bool) (stands : A → Bool) (new : A) (entries : List A) → stands new ≡ true → length (left_beside before stands new entries) < most → with_set_entry most before stands new entries ≡ placed before new (left_beside before stands new entries)
sets_placed most before stands new entries is room = rw (is, lt-ltb (length (left_beside before stands new entries)) most room) refl

pub many_none : {A : Type 0} (most : ℕ) (before : A → A → Bool) (stands : A → Bool) (new : A) (entries : List A) → stands new ≡ false → is_one_too_many most before stands new entries ≡ false
many_none most before stands new entries gone = rw gone refl

pub many_full : {A : Type 0} (most : ℕ) (before : A → A → Bool) (stands : A → Bool) (new : A) (entries : List A) → stands new ≡ true → most ≤ length (left_beside before stands new entries) → is_one_too_many most before stands new entries ≡ true
many_full most before stands new entries is full = rw (is, le-leb most (length (left_beside before stands new entries)) full) refl

pub many_placed : {A : Type 0} (most : ℕ) (before : A → A → Bool) (stands : A → Bool) (new : A) (entries : List A) → length (left_beside before stands new entries) < most → is_one_too_many most before stands new entries ≡ false
many_placed most before stands new entries room =
    let some : nat_le most (length (left_beside before stands new entries)) ≡ false = lt-leb most (length (left_beside before stands new entries)) room in
    elim (cases_Bool (stands new)) [ inl is ↦ rw (is, some) refl | inr gone ↦ rw gone refl ]

pub left_fewer : {A : Type 0} (before : A → A → Bool) (stands : A → Bool) (new : A) (entries : List A) → length (left_beside before stands new entries) ≤ length entries
left_fewer before stands new entries =
    omega (arith, length-filter (λ entry. stands entry && is_other before new entry) entries, count_by-le-length (λ entry. stands entry && is_other before new entry) entries)

-- one more
pub placed_length : {A : Type 0} (before : A → A → Bool) (stands : A → Bool) (new : A) (entries : List A) → IsOrder before → IsOrdered before entries → length (placed before new (left_beside before stands new entries)) ≡ length (left_beside before stands new entries) + 1
placed_length {A} before stands new entries order ordered =
    let left : List A = left_beside before stands new entries in
    let at : ℕ = count_by (λ entry. before entry new) left in
    let place = placed_is before order new left (left_ordered before stands new entries ordered) (left_others before stands new entries) in
    let few : at ≤ length left = count_by-le-length (λ entry. before entry new) left in
    let front : length (take at left) ≡ at = length-take-le at left few in
    let back : length (drop at left) ≡ length left - at = length-drop at left in
    let all : length (take at left ++ new ∷ drop at left) ≡ length (take at left) + length (new ∷ drop at left) = length-append (take at left) (new ∷ drop at left) in
    sym (ap length place) ∙ omega (arith, all, front, back, few)
