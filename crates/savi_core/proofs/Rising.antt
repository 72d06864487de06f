-- Numbers that rise, as a part of all numbers between two.
use Rattle.std.proofs.Common.{◌≡◌, ◌≢◌, ℕ, zero, suc, ◌+◌, ◌<◌, ◌≤◌, ◌==◌, ◌||◌, Bool, true, false, if◌then◌else◌, List, [], ◌∷◌, refl, sym, ap, ◌∙◌, subst, inl, inr, arith}
use Rattle.std.specs.List.{filter, range_with_len}
use Rattle.std.proofs.lemmas.Bool.{cases_eq, eq-eqb, ne_eqb, or_left, or_right, false≢true}
use Rattle.savi_segments.proofs.Passing.{is_in}
pub use Rattle.savi_segments.proofs.Ascending.{AreFrom, increasing_from}

or_none : (x y : Bool) → x ≡ false → y ≡ false → (x || y) ≡ false
or_none true y one two = absurd (false≢true (sym one))
or_none false y one two = two

-- none of them is below
pub none_below : (from n : ℕ) (ns : List ℕ) → AreFrom from ns → n < from → is_in n ns ≡ false
none_below from n [] are low = refl
none_below from n (m ∷ ns) are low =
    or_none (m == n) (is_in n ns) (ne_eqb m n (λ same. absurd (omega (arith, are.0, low, same)))) (none_below (m + 1) n ns are.1 (omega (arith, are.0, low)))

pub in_behind : (m n : ℕ) (ns : List ℕ) → m ≢ n → is_in n (m ∷ ns) ≡ true → is_in n ns ≡ true
in_behind m n ns other there = sym (ap (λ (b : Bool). b || is_in n ns) (ne_eqb m n other)) ∙ there

module _ (q : ℕ → Bool) where
  step : (b : Bool) (n : ℕ) (ms ns : List ℕ) → ms ≡ ns → (if b then n ∷ ms else ms) ≡ (if b then n ∷ ns else ns)
  step b n ms ns same = ap (λ (l : List ℕ). if b then n ∷ l else l) same

  skip : (b : Bool) (n : ℕ) (ns : List ℕ) → b ≡ false → (if b then n ∷ ns else ns) ≡ ns
  skip true n ns fails = absurd (false≢true (sym fails))
  skip false n ns fails = refl

  -- where each number that passes is one of them, those that pass are the same
  pub filtered_from : (len from : ℕ) (ns : List ℕ) → AreFrom from ns → ((n : ℕ) → is_in n ns ≡ true → n < from + len) → ((n : ℕ) → from ≤ n → q n ≡ true → is_in n ns ≡ true)
      → filter q (range_with_len from len) ≡ filter q ns
  filtered_from zero from [] are below all = refl
  filtered_from zero from (m ∷ ns) are below all = absurd (omega (arith, are.0, below m (or_left (m == m) (is_in m ns) (eq-eqb m m refl))))
  filtered_from (suc len) from [] are below all =
      skip (q from) from (filter q (range_with_len (from + 1) len)) (stops (q from) refl)
      ∙ filtered_from len (from + 1) [] tt (λ n there. absurd (false≢true there)) (λ n low passes. all n (omega (arith, low)) passes)
    where
      stops : (b : Bool) → q from ≡ b → q from ≡ false
      stops false is = is
      stops true is = absurd (false≢true (all from (omega arith) is))
  filtered_from (suc len) from (m ∷ ns) are below all =
      elim (cases_eq m from) [
        | inl same ↦
            let rest : AreFrom (from + 1) ns = subst (λ (k : ℕ). AreFrom (k + 1) ns) same are.1 in
            step (q from) from (filter q (range_with_len (from + 1) len)) (filter q ns)
            (filtered_from len (from + 1) ns rest
            (λ n there. omega (arith, below n (or_right (m == n) (is_in n ns) there)))
            (λ n low passes. in_behind m n ns (λ here. absurd (omega (arith, same, here, low))) (all n (omega (arith, low)) passes)))
            ∙ ap (λ (k : ℕ). if q k then k ∷ filter q ns else filter q ns) (sym same)
        | inr other ↦
            skip (q from) from (filter q (range_with_len (from + 1) len)) (stops other (q from) refl)
            ∙ filtered_from len (from + 1) (m ∷ ns) (omega (arith, are.0, other), are.1)
            (λ n there. omega (arith, below n there)) (λ n low passes. all n (omega (arith, low)) passes)
      ]
    where
      stops : m ≢ from → (b : Bool) → q from ≡ b → q from ≡ false
      stops other false is = is
      stops other true is =
          absurd (false≢true (sym (none_below (from + 1) from (m ∷ ns) (omega (arith, are.0, other), are.1) (omega arith)) ∙ all from (omega arith) is))
