-- The members of sets: those of a chosen set, and that two sets with the same members are one.
use Rattle.std.proofs.Common.{ℕ, zero, suc, min, bit_and, Option, Some, None, w16, ◌↔◌, ◌≡◌, ◌≢◌, ◌+◌, ◌-◌, ◌*◌, ◌%◌, ◌^◌, ◌<◌, ◌≤◌, ◌==◌, ◌&&◌, ◌||◌, not, Bool, true, false, if◌then◌else◌, List, [], ◌∷◌, length, map, get_or, inl, inr, refl, sym, ap, subst, ◌∙◌, arith}
use Rattle.std.specs.List.{filter, list_any}
use Rattle.std.specs.Prelude.{IsSome, IfSome, MatchOption}
use Rattle.std.specs.Int.{bit_at, bit_not, trailing_zeros}
use mir.Val.{bits}
use Rattle.std.proofs.lemmas.Nat.{and_le_l}
use Rattle.std.proofs.lemmas.Nat.Bits.{bit_at-zero, bit_at-lt, bit_at_and, bit_at_above, bit_at_not, bit_at_clear_same, bit_at_clear_other, bit_at-trailing_zeros, same_from_bits}
use Rattle.std.proofs.lemmas.Bool.{cases_eq, cases_lt, eq-eqb, eqb-true, ne_eqb, or_left, or_right, false≢true}
use Rattle.savi_kinds.specs.declared.port.Port.{Port}
use Rattle.savi_kinds.specs.declared.port.PortSet.{PortSet}
use Rattle.savi_kinds.specs.Ports.{number_of}
use Rattle.savi_kinds.specs.PortSets.{is_member, with_member, set_of, no_ports}
use Rattle.savi_kinds.proofs.Members.{is_member-with}
use Rattle.savi_core.proofs.Sets.{chosen}

-- two sets with the same members

same_bit : (x y : ℕ) → x < 2 → y < 2 → (x == 1) ≡ (y == 1) → x ≡ y
same_bit x y small small_y same =
    elim (cases_eq x 1) [
      | inl one ↦ elim (cases_eq y 1) [
        | inl other_one ↦ one ∙ sym other_one
        | inr not_one ↦ absurd (false≢true (sym (ne_eqb y 1 not_one) ∙ sym same ∙ eq-eqb x 1 one))
      ]
      | inr not_one ↦ elim (cases_eq y 1) [
        | inl one ↦ absurd (false≢true (sym (ne_eqb x 1 not_one) ∙ same ∙ eq-eqb y 1 one))
        | inr neither ↦ omega arith
      ]
    ]

pub same_members : (a b : PortSet) → ((n : ℕ) → 1 ≤ n → is_member a n ≡ is_member b n) → a ≡ b
same_members a b same =
    ap (λ (k : ℕ). let set : PortSet = record { 0 = k } in set)
    (same_from_bits a.0 b.0 (λ i.
    let there : i + 1 - 1 ≡ i = omega arith in
    let tests : (bit_at a.0 i == 1) ≡ (bit_at b.0 i == 1) = subst (λ (j : ℕ). (bit_at a.0 j == 1) ≡ (bit_at b.0 j == 1)) there (same (i + 1) (omega arith)) in
    same_bit (bit_at a.0 i) (bit_at b.0 i) (bit_at-lt a.0 i) (bit_at-lt b.0 i) tests))

-- a set without a port

and_false : (b : Bool) → false ≡ (b && false)
and_false true = refl
and_false false = refl

and_true : (b : Bool) → b ≡ (b && true)
and_true true = refl
and_true false = refl

-- bit i of a number whose bit k is cleared
pub cleared : (s k i : ℕ) → s < 2 ^ 16 → k < 16 → (bit_at (bit_and s (bit_not w16 (1 * 2 ^ k % 2 ^ bits w16))) i == 1) ≡ ((bit_at s i == 1) && not (i == k))
cleared s k i small within =
    let mask = bit_not w16 (1 * 2 ^ k % 2 ^ bits w16) in
    elim (cases_eq i k) [
      | inl same ↦
          ap (λ (b : ℕ). b == 1) (ap (bit_at (bit_and s mask)) same ∙ bit_at_clear_same w16 s k within)
          ∙ and_false (bit_at s i == 1) ∙ ap (λ (b : Bool). (bit_at s i == 1) && not b) (sym (eq-eqb i k same))
      | inr other ↦
          ap (λ (b : ℕ). b == 1) (elim (cases_lt i 16) [
            | inl below ↦ bit_at_clear_other w16 s k within i below other
            | inr above ↦
                let none : bit_at s i ≡ 0 = bit_at_above s 16 i small above in
                let both : bit_at (bit_and s mask) i ≡ min (bit_at s i) (bit_at mask i) = bit_at_and s mask i in
                omega arith
          ])
          ∙ and_true (bit_at s i == 1) ∙ ap (λ (b : Bool). (bit_at s i == 1) && not b) (sym (ne_eqb i k other))
    ]

same_place : (n m : ℕ) → 1 ≤ n → 1 ≤ m → (n - 1 == m - 1) ≡ (n == m)
same_place n m low least =
    elim (cases_eq n m) [
      | inl same ↦ eq-eqb (n - 1) (m - 1) (ap (λ (k : ℕ). k - 1) same) ∙ sym (eq-eqb n m same)
      | inr other ↦ ne_eqb (n - 1) (m - 1) (λ same. other (omega (arith, same, low, least))) ∙ sym (ne_eqb n m other)
    ]

abbrev pub removed : PortSet → ℕ → PortSet
removed set m = record { 0 = bit_and set.0 (bit_not w16 (1 * 2 ^ (m - 1) % 2 ^ bits w16)) }

pub member_removed : (set : PortSet) (m n : ℕ) → set.0 < 2 ^ 16 → 1 ≤ m → m ≤ 16 → 1 ≤ n → is_member (removed set m) n ≡ (is_member set n && not (n == m))
member_removed set m n small low high least =
    cleared set.0 (m - 1) (n - 1) small (omega (arith, low, high)) ∙ ap (λ (b : Bool). is_member set n && not b) (same_place n m least low)

pub removed_less : (set : PortSet) (m : ℕ) → set.0 < 2 ^ 16 → 1 ≤ m → m ≤ 16 → is_member set m ≡ true → (removed set m).0 < set.0
removed_less set m small low high there =
    let at_most : (removed set m).0 ≤ set.0 = and_le_l set.0 (bit_not w16 (1 * 2 ^ (m - 1) % 2 ^ bits w16)) in
    let gone : is_member (removed set m) m ≡ false = member_removed set m m small low high low ∙ ap (λ (b : Bool). is_member set m && not b) (eq-eqb m m refl) ∙ sym (and_false (is_member set m)) in
    elim (cases_eq (removed set m).0 set.0) [
      | inl same ↦ absurd (false≢true (sym gone ∙ ap (λ (k : ℕ). bit_at k (m - 1) == 1) same ∙ there))
      | inr other ↦ omega (arith, at_most, other)
    ]

-- the lowest port of a set

pub first_member : (set : PortSet) (r : Option Port) → 0 < set.0 → set.0 < 2 ^ 16 → IsSome r ↔ ((1 ≤ trailing_zeros w16 set.0 + 1) × (trailing_zeros w16 set.0 + 1 ≤ 16)) → IfSome r (λ p. number_of p ≡ trailing_zeros w16 set.0 + 1)
    → MatchOption r (set ≡ no_ports) (λ port. is_member set (number_of port) ≡ true)
first_member set None some small there value =
    let low = bit_at-trailing_zeros w16 set.0 some small in
    let within : trailing_zeros w16 set.0 < 16 = low.0 in
    absurd (false≢true (there.1 (omega arith, omega (arith, within))))
first_member set (Some port) some small there value =
    let low = bit_at-trailing_zeros w16 set.0 some small in
    let place : number_of port - 1 ≡ trailing_zeros w16 set.0 = omega (arith, value) in
    ap (λ (i : ℕ). bit_at set.0 i == 1) place ∙ ap (λ (b : ℕ). b == 1) low.1

pub first_lowest : (set : PortSet) (r : Option Port) → 0 < set.0 → set.0 < 2 ^ 16 → IfSome r (λ p. number_of p ≡ trailing_zeros w16 set.0 + 1) → IfSome r (λ port. (n : ℕ) → 1 ≤ n → n < number_of port → is_member set n ≡ false)
first_lowest set None some small value = tt
first_lowest set (Some port) some small value = λ n least before.
    let low = bit_at-trailing_zeros w16 set.0 some small in
    ap (λ (b : ℕ). b == 1) (low.2 (n - 1) (omega (arith, value, least, before)))

pub none_in : (n : ℕ) → is_member no_ports n ≡ false
none_in n = rw (bit_at-zero (n - 1)) refl

-- members of a chosen set

if_with : (b : Bool) (set : PortSet) (m n : ℕ) → 1 ≤ m → 1 ≤ n → is_member (if b then with_member set m else set) n ≡ ((b && (n == m)) || is_member set n)
if_with true set m n low least = is_member-with set m n low least
if_with false set m n low least = refl

module _ {X : Type 0} (number : X → ℕ) where
  step_at : (b : Bool) (x : X) (rest : List X) → set_of (map number (if b then x ∷ rest else rest)) ≡ (if b then with_member (set_of (map number rest)) (number x) else set_of (map number rest))
  step_at true x rest = refl
  step_at false x rest = refl

  -- the first element or a later one
  pub chosen_more : (test : X → Bool) (x : X) (xs : List X) (n : ℕ) → 1 ≤ number x → 1 ≤ n → is_member (chosen number test (x ∷ xs)) n ≡ ((test x && (n == number x)) || is_member (chosen number test xs) n)
  chosen_more test x xs n low least =
      ap (λ (set : PortSet). is_member set n) (step_at (test x) x (filter test xs)) ∙ if_with (test x) (chosen number test xs) (number x) n low least

-- each number is that of a port
abbrev pub AreLow : List ℕ → Type 0
AreLow ns = (k : ℕ) → k < length ns → 1 ≤ get_or ns k 0

low_later : (n : ℕ) (ns : List ℕ) → AreLow (n ∷ ns) → AreLow ns
low_later n ns low = λ k within. low (suc k) (omega (arith, within))

-- a test of the element and one of its number

both_at : (t g e r f : Bool) → (e ≡ true → g ≡ f) → (((t && g) && e) || (r && f)) ≡ (((t && e) || r) && f)
both_at false g e r f same = refl
both_at true true true r f same = same refl
both_at true false true true f same = refl
both_at true false true false f same = same refl
both_at true true false r f same = refl
both_at true false false r f same = refl

pub chosen_both : {X : Type 0} (number : X → ℕ) (test both : X → Bool) (of_number : ℕ → Bool) (xs : List X) (n : ℕ) → ((x : X) → both x ≡ (test x && of_number (number x))) → AreLow (map number xs) → 1 ≤ n
    → is_member (chosen number both xs) n ≡ (is_member (chosen number test xs) n && of_number n)
chosen_both number test both of_number [] n is low least = rw (none_in n) refl
chosen_both number test both of_number (x ∷ xs) n is low least =
    let first : 1 ≤ number x = low 0 (omega arith) in
    let later = chosen_both number test both of_number xs n is (low_later (number x) (map number xs) low) least in
    chosen_more number both x xs n first least
    ∙ ap (λ (b : Bool). (b && (n == number x)) || is_member (chosen number both xs) n) (is x)
    ∙ ap (λ (b : Bool). ((test x && of_number (number x)) && (n == number x)) || b) later
    ∙ both_at (test x) (of_number (number x)) (n == number x) (is_member (chosen number test xs) n) (of_number n) (λ same. ap of_number (sym (eqb-true n (number x) same)))
    ∙ ap (λ (b : Bool). b && of_number n) (sym (chosen_more number test x xs n first least))

-- one of two tests

either_at : (a b e r s : Bool) → (((a || b) && e) || (r || s)) ≡ (((a && e) || r) || ((b && e) || s))
either_at true b true r s = refl
either_at true true false r s = refl
either_at true false false r s = refl
either_at false true true true s = refl
either_at false true true false s = refl
either_at false true false r s = refl
either_at false false e r s = refl

pub chosen_either : {X : Type 0} (number : X → ℕ) (one other either : X → Bool) (xs : List X) (n : ℕ) → ((x : X) → either x ≡ (one x || other x)) → AreLow (map number xs) → 1 ≤ n
    → is_member (chosen number either xs) n ≡ (is_member (chosen number one xs) n || is_member (chosen number other xs) n)
chosen_either number one other either [] n is low least = rw (none_in n) refl
chosen_either number one other either (x ∷ xs) n is low least =
    let first : 1 ≤ number x = low 0 (omega arith) in
    let later = chosen_either number one other either xs n is (low_later (number x) (map number xs) low) least in
    chosen_more number either x xs n first least
    ∙ ap (λ (b : Bool). (b && (n == number x)) || is_member (chosen number either xs) n) (is x)
    ∙ ap (λ (b : Bool). ((one x || other x) && (n == number x)) || b) later
    ∙ either_at (one x) (other x) (n == number x) (is_member (chosen number one xs) n) (is_member (chosen number other xs) n)
    ∙ ap (λ (b : Bool). b || ((other x && (n == number x)) || is_member (chosen number other xs) n)) (sym (chosen_more number one x xs n first least))
    ∙ ap (λ (b : Bool). is_member (chosen number one (x ∷ xs)) n || b) (sym (chosen_more number other x xs n first least))

-- a member of a chosen set is one of the numbers

known_at : (t e r a : Bool) → (e ≡ true → a ≡ true) → (r ≡ true → a ≡ true) → ((t && e) || r) ≡ true → a ≡ true
known_at true true r a here later is = here refl
known_at true false r a here later is = later is
known_at false e r a here later is = later is

pub chosen_known : {X : Type 0} (number : X → ℕ) (test : X → Bool) (xs : List X) (n : ℕ) → AreLow (map number xs) → 1 ≤ n → is_member (chosen number test xs) n ≡ true → list_any (λ m. m == n) (map number xs) ≡ true
chosen_known number test [] n low least is = absurd (false≢true (sym (none_in n) ∙ is))
chosen_known number test (x ∷ xs) n low least is =
    let first : 1 ≤ number x = low 0 (omega arith) in
    known_at (test x) (n == number x) (is_member (chosen number test xs) n) (list_any (λ m. m == n) (map number (x ∷ xs)))
    (λ same. or_left (number x == n) (list_any (λ m. m == n) (map number xs)) (eq-eqb (number x) n (sym (eqb-true n (number x) same))))
    (λ there. or_right (number x == n) (list_any (λ m. m == n) (map number xs)) (chosen_known number test xs n (low_later (number x) (map number xs) low) least there))
    (sym (chosen_more number test x xs n first least) ∙ is)

-- where the numbers differ, an element is a member where it passes the test

abbrev pub AreApart : List ℕ → Type 0
AreApart ns = (j k : ℕ) → j < length ns → k < length ns → j ≢ k → get_or ns j 0 ≢ get_or ns k 0

apart_later : (n : ℕ) (ns : List ℕ) → AreApart (n ∷ ns) → AreApart ns
apart_later n ns apart = λ j k j_in k_in other. apart (suc j) (suc k) (omega (arith, j_in)) (omega (arith, k_in)) (λ same. other (omega (arith, same)))

off_at : (t e r : Bool) → e ≡ false → r ≡ false → ((t && e) || r) ≡ false
off_at true e r other none = rw (other, none) refl
off_at false e r other none = none

none_later : {X : Type 0} (number : X → ℕ) (test : X → Bool) (xs : List X) (n : ℕ) → AreLow (map number xs) → 1 ≤ n → ((k : ℕ) → k < length (map number xs) → n ≢ get_or (map number xs) k 0) → is_member (chosen number test xs) n ≡ false
none_later number test [] n low least none = none_in n
none_later number test (x ∷ xs) n low least none =
    chosen_more number test x xs n (low 0 (omega arith)) least
    ∙ off_at (test x) (n == number x) (is_member (chosen number test xs) n) (ne_eqb n (number x) (none 0 (omega arith)))
    (none_later number test xs n (low_later (number x) (map number xs) low) least (λ k within. none (suc k) (omega (arith, within))))

here_at : (t e r : Bool) → e ≡ true → r ≡ false → ((t && e) || r) ≡ t
here_at true e r same none = rw same refl
here_at false e r same none = none

past_at : (t e r : Bool) → e ≡ false → ((t && e) || r) ≡ r
past_at true e r other = rw other refl
past_at false e r other = refl

pub chosen_here : {X : Type 0} (number : X → ℕ) (test : X → Bool) (xs : List X) (p : ℕ) (d : X) → AreLow (map number xs) → AreApart (map number xs) → p < length (map number xs) → is_member (chosen number test xs) (get_or (map number xs) p 0) ≡ test (get_or xs p d)
chosen_here number test [] p d low apart within = absurd (omega (arith, within))
chosen_here number test (x ∷ xs) zero d low apart within =
    chosen_more number test x xs (number x) (low 0 (omega arith)) (low 0 (omega arith))
    ∙ here_at (test x) (number x == number x) (is_member (chosen number test xs) (number x)) (eq-eqb (number x) (number x) refl)
    (none_later number test xs (number x) (low_later (number x) (map number xs) low) (low 0 (omega arith)) (λ k inside. apart 0 (suc k) (omega arith) (omega (arith, inside)) (omega arith)))
chosen_here number test (x ∷ xs) (suc p) d low apart within =
    let inside : p < length (map number xs) = omega (arith, within) in
    let n = get_or (map number xs) p 0 in
    chosen_more number test x xs n (low 0 (omega arith)) (low (suc p) within)
    ∙ past_at (test x) (n == number x) (is_member (chosen number test xs) n) (ne_eqb n (number x) (apart (suc p) 0 within (omega arith) (omega arith)))
    ∙ chosen_here number test xs p d (low_later (number x) (map number xs) low) (apart_later (number x) (map number xs) apart) inside

-- a set without the members of another

minus_at : (x y : ℕ) → x < 2 → y < 2 → (min x (1 - y) == 1) ≡ ((x == 1) && not (y == 1))
minus_at zero y small_x small_y = rw (ne_eqb (min 0 (1 - y)) 1 (λ same. absurd (omega (arith, same)))) refl
minus_at (suc zero) zero small_x small_y = refl
minus_at (suc zero) (suc zero) small_x small_y = refl
minus_at (suc zero) (suc (suc y)) small_x small_y = absurd (omega (arith, small_y))
minus_at (suc (suc x)) y small_x small_y = absurd (omega (arith, small_x))

pub member_minus : (set other : PortSet) → set.0 < 2 ^ 16 → other.0 < 2 ^ 16 → (n : ℕ) → 1 ≤ n → is_member (record { 0 = bit_and set.0 (bit_not w16 other.0) }) n ≡ (is_member set n && not (is_member other n))
member_minus set other small small_other n least =
    elim (cases_lt (n - 1) 16) [
      | inl below ↦
          ap (λ (b : ℕ). b == 1) (bit_at_and set.0 (bit_not w16 other.0) (n - 1) ∙ ap (λ (b : ℕ). min (bit_at set.0 (n - 1)) b) (bit_at_not w16 other.0 (n - 1) small_other below))
          ∙ minus_at (bit_at set.0 (n - 1)) (bit_at other.0 (n - 1)) (bit_at-lt set.0 (n - 1)) (bit_at-lt other.0 (n - 1))
      | inr above ↦
          let none : bit_at set.0 (n - 1) ≡ 0 = bit_at_above set.0 16 (n - 1) small above in
          let low : ◌≡◌ {A = ℕ} (min 0 (bit_at (bit_not w16 other.0) (n - 1))) 0 = omega arith in
          ap (λ (b : ℕ). b == 1) (bit_at_and set.0 (bit_not w16 other.0) (n - 1) ∙ ap (λ (b : ℕ). min b (bit_at (bit_not w16 other.0) (n - 1))) none ∙ low)
          ∙ ap (λ (b : ℕ). (b == 1) && not (is_member other n)) (sym none)
    ]
