-- The first place of a sign in a text.
use Rattle.std.proofs.Common.{ℕ, ◌≡◌, ◌==◌, ◌+◌, ◌-◌, ◌<◌, List, [], ◌∷◌, ◌++◌, Some, None, length, take, drop, get_or, refl, sym, ap, ap₂, ◌∙◌, arith, inl, inr, add-one, take-append-drop, drop-cons, eq-eqb, ne_eqb, lt-ltb, length-append, length-drop}
use Rattle.std.proofs.lemmas.Bool.{cases_eq, eqb-true, le-ltb}
use Rattle.std.proofs.lemmas.List.{take_all}
use Rattle.std.proofs.lemmas.List.Quantifiers.{position-Some}
use Rattle.std.specs.List.{position, position_or_len}
use Rattle.savi_kinds.proofs.AddrGrammar.{marks}

-- behind a text without it the sign stands first
first_sign : (b : ℕ) (front rest : List ℕ) → marks b front ≡ 0 → position_or_len (λ c. c == b) (front ++ (b ∷ rest)) ≡ length front
first_sign b [] rest none = rw (eq-eqb b b refl) refl
first_sign b (c ∷ front) rest none =
    elim (cases_eq c b) [
      | inl here ↦ let one : 1 + marks b front ≡ 0 = rw (eq-eqb c b here) at none in absurd (omega arith)
      | inr other ↦ let later : 0 + marks b front ≡ 0 = rw (ne_eqb c b other) at none in rw (ne_eqb c b other) (omega (arith, first_sign b front rest (omega arith)))
    ]

pub sign_behind : (b : ℕ) (front rest : List ℕ) → marks b front ≡ 0 → position (λ c. c == b) (front ++ (b ∷ rest)) ≡ Some (length front)
sign_behind b front rest none =
    let inside : length front < length (front ++ (b ∷ rest)) = omega (arith, length-append front (b ∷ rest)) in
    rw (first_sign b front rest none, lt-ltb (length front) (length (front ++ (b ∷ rest))) inside) refl

-- nowhere
passed_all : (b : ℕ) (text : List ℕ) → marks b text ≡ 0 → position_or_len (λ c. c == b) text ≡ length text
passed_all b [] none = refl
passed_all b (c ∷ text) none =
    elim (cases_eq c b) [
      | inl here ↦ let one : 1 + marks b text ≡ 0 = rw (eq-eqb c b here) at none in absurd (omega arith)
      | inr other ↦ let later : 0 + marks b text ≡ 0 = rw (ne_eqb c b other) at none in rw (ne_eqb c b other) (omega (arith, passed_all b text (omega arith)))
    ]

pub no_sign : (b : ℕ) (text : List ℕ) → marks b text ≡ 0 → position (λ c. c == b) text ≡ None
no_sign b text none = rw (passed_all b text none, le-ltb (length text) (length text) (omega arith)) refl

-- behind a place nothing is cut off
pub tail_is : (text : List ℕ) (n : ℕ) → take (length text - n) (drop n text) ≡ drop n text
tail_is text n = take_all (length text - n) (drop n text) (omega (arith, length-drop n text))

-- the text is what stands in front of the sign, the sign, and what stands behind it
pub sides_at : (b : ℕ) (text : List ℕ) (at : ℕ) → position (λ c. c == b) text ≡ Some at → text ≡ take at text ++ (b ∷ drop (at + 1) text)
sides_at b text at found =
    let is = position-Some (λ c. c == b) text at 0 found in
    let sign : get_or text at 0 ≡ b = eqb-true (get_or text at 0) b is.1 in
    let back : drop at text ≡ b ∷ drop (at + 1) text = drop-cons text at 0 is.0 ∙ ap₂ ◌∷◌ sign (ap (λ n. drop n text) (sym (add-one at))) in
    sym (take-append-drop at text) ∙ ap (λ t. take at text ++ t) back
