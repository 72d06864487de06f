-- Numbers that pass a test, among those of a list.
use Rattle.std.proofs.Common.{◌≡◌, ℕ, zero, suc, ◌<◌, ◌==◌, ◌||◌, Bool, true, false, if◌then◌else◌, Option, Some, None, List, [], ◌∷◌, ◌++◌, All, refl, sym, ap, subst, ◌∙◌, inl, inr, arith}
use Rattle.std.specs.List.{filter, list_any}
use Rattle.std.proofs.lemmas.Bool.{cases_Bool, cases_eq, eqb-true, eq-eqb, or_left, or_right, or_cases, false≢true}
use Rattle.std.proofs.lemmas.List.Elements.{All-nil, All-cons, All-push, All-weaker, All-head, All-tail}
use Rattle.savi_kinds.specs.declared.entry.How.{How}
use Rattle.savi_segments.specs.Checkpoints.{up_to, end_among, with_pass_end, ends_of}

-- whether this number is one of these
abbrev pub is_in : ℕ → List ℕ → Bool
is_in n ns = list_any (λ m. m == n) ns

-- none of those that pass is a number that doesn't
none_in : (p : ℕ → Bool) (n : ℕ) (ns : List ℕ) → p n ≡ false → is_in n (filter p ns) ≡ false
none_in p n [] stops = refl
none_in p n (m ∷ ns) stops =
    elim (cases_Bool (p m)) [
      | inl passes ↦ elim (cases_Bool (m == n)) [
        | inl here ↦ absurd (false≢true (sym stops ∙ ap p (sym (eqb-true m n here)) ∙ passes))
        | inr apart ↦ rw (passes, apart) (none_in p n ns stops)
      ]
      | inr not ↦ rw not (none_in p n ns stops)
    ]

-- a number of the list is one of those that pass where it passes itself
pub in_filtered : (p : ℕ → Bool) (n : ℕ) (ns : List ℕ) → is_in n ns ≡ true → is_in n (filter p ns) ≡ p n
in_filtered p n [] there = absurd (false≢true there)
in_filtered p n (m ∷ ns) there =
    elim (cases_Bool (m == n)) [
      | inl here ↦ elim (cases_Bool (p m)) [
        | inl passes ↦ rw (passes, here) (sym (ap p (sym (eqb-true m n here)) ∙ passes))
        | inr stops ↦ rw stops (none_in p n ns (stopped here stops) ∙ sym (stopped here stops))
      ]
      | inr apart ↦ elim (cases_Bool (p m)) [
        | inl passes ↦ rw (passes, apart) (in_filtered p n ns (behind apart))
        | inr stops ↦ rw stops (in_filtered p n ns (behind apart))
      ]
    ]
  where
    behind : (m == n) ≡ false → is_in n ns ≡ true
    behind apart = sym (ap (λ (b : Bool). b || is_in n ns) apart) ∙ there

    stopped : (m == n) ≡ true → p m ≡ false → p n ≡ false
    stopped here stops = sym (ap p (eqb-true m n here)) ∙ stops

-- two tests that agree on a list leave the same of it
pub same_filtered : (p q : ℕ → Bool) (ns : List ℕ) → ((n : ℕ) → is_in n ns ≡ true → p n ≡ q n) → filter p ns ≡ filter q ns
same_filtered p q [] agree = refl
same_filtered p q (n ∷ ns) agree =
    ap (λ (b : Bool). if b then n ∷ filter p ns else filter p ns) (agree n (or_left (n == n) (is_in n ns) (eq-eqb n n refl)))
    ∙ ap (λ (l : List ℕ). if q n then n ∷ l else l) (same_filtered p q ns (λ m there. agree m (or_right (n == m) (is_in m ns) there)))

pub none_pass : (p : ℕ → Bool) (ns : List ℕ) → ((n : ℕ) → p n ≡ false) → filter p ns ≡ []
none_pass p [] none = refl
none_pass p (n ∷ ns) none = rw (none n) (none_pass p ns none)

-- each number of a list is one of its numbers
pub all_in : (ns : List ℕ) → All (λ n. is_in n ns ≡ true) ns
all_in [] = All-nil (λ n. is_in n [] ≡ true)
all_in (m ∷ ns) =
    All-cons (λ n. is_in n (m ∷ ns) ≡ true) m ns (or_left (m == m) (is_in m ns) (eq-eqb m m refl))
    (All-weaker (λ n. is_in n ns ≡ true) (λ n. is_in n (m ∷ ns) ≡ true) (λ n there. or_right (m == n) (is_in n ns) there) ns (all_in ns))

-- the numbers below one
pub all_below : (count : ℕ) → All (λ n. n < count) (up_to count)
all_below zero = All-nil (λ n. n < 0)
all_below (suc k) =
    All-push (λ n. n < suc k) (up_to k) k
    (All-weaker (λ n. n < k) (λ n. n < suc k) (λ n low. omega (arith, low)) (up_to k) (all_below k)) (omega arith)

in_joined : (n : ℕ) (ns ms : List ℕ) → is_in n (ns ++ ms) ≡ (is_in n ns || is_in n ms)
in_joined n [] ms = refl
in_joined n (k ∷ ns) ms =
    elim (cases_Bool (k == n)) [
      | inl here ↦ rw here refl
      | inr apart ↦ rw apart (in_joined n ns ms)
    ]

pub below_in : (count n : ℕ) → n < count → is_in n (up_to count) ≡ true
below_in zero n low = absurd (omega (arith, low))
below_in (suc k) n low =
    in_joined n (up_to k) (k ∷ [])
    ∙ (elim (cases_eq n k) [
      | inl last ↦ or_right (is_in n (up_to k)) (is_in n (k ∷ [])) (or_left (k == n) false (eq-eqb k n (sym last)))
      | inr apart ↦ or_left (is_in n (up_to k)) (is_in n (k ∷ [])) (below_in k n (omega (arith, low, apart)))
    ])

pub in_below : (count n : ℕ) → is_in n (up_to count) ≡ true → n < count
in_below zero n there = absurd (false≢true there)
in_below (suc k) n there =
    elim (or_cases (is_in n (up_to k)) (is_in n (k ∷ [])) (sym (in_joined n (up_to k) (k ∷ [])) ∙ there)) [
      | inl early ↦ omega (arith, in_below k n early)
      | inr last ↦ elim (or_cases (k == n) false last) [
        | inl same ↦ omega (arith, eqb-true k n same)
        | inr none ↦ absurd (false≢true none)
      ]
    ]

-- the ends of passes

front_none : (n m : ℕ) (end : Option How) (ends : List (ℕ × How)) → (m ≡ n → end ≡ None) → end_among n ends ≡ None → end_among n (with_pass_end m end ends) ≡ None
front_none n m None ends none rest = rest
front_none n m (Some how) ends none rest =
    elim (cases_Bool (m == n)) [
      | inl here ↦ let e : Some how ≡ None = none (eqb-true m n here) in cc
      | inr apart ↦ rw apart rest
    ]

-- a pass without an end has none among those of passes
no_end : (end : ℕ → Option How) (n : ℕ) (ns : List ℕ) → end n ≡ None → end_among n (ends_of end ns) ≡ None
no_end end n [] none = refl
no_end end n (m ∷ ns) none = front_none n m (end m) (ends_of end ns) (λ same. ap end same ∙ none) (no_end end n ns none)

front_here : (n : ℕ) (end : Option How) (ends : List (ℕ × How)) → (end ≡ None → end_among n ends ≡ None) → end_among n (with_pass_end n end ends) ≡ end
front_here n None ends none = none refl
front_here n (Some how) ends none = rw (eq-eqb n n refl) refl

front_other : (n m : ℕ) (end : Option How) (ends : List (ℕ × How)) → (m == n) ≡ false → end_among n (with_pass_end m end ends) ≡ end_among n ends
front_other n m None ends apart = refl
front_other n m (Some how) ends apart = rw apart refl

-- among the ends of passes each of them has its own
pub in_ends : (end : ℕ → Option How) (n : ℕ) (ns : List ℕ) → is_in n ns ≡ true → end_among n (ends_of end ns) ≡ end n
in_ends end n [] there = absurd (false≢true there)
in_ends end n (m ∷ ns) there =
    elim (cases_Bool (m == n)) [
      | inl here ↦
          subst (λ (k : ℕ). end_among n (with_pass_end k (end k) (ends_of end ns)) ≡ end n) (sym (eqb-true m n here))
          (front_here n (end n) (ends_of end ns) (λ none. no_end end n ns none))
      | inr apart ↦ front_other n m (end m) (ends_of end ns) apart ∙ in_ends end n ns (sym (ap (λ (b : Bool). b || is_in n ns) apart) ∙ there)
    ]

-- where each pass of a list ended alike the ends of all are the same
pub same_ends : (one other : ℕ → Option How) (ns : List ℕ) → ((n : ℕ) → is_in n ns ≡ true → one n ≡ other n) → ends_of one ns ≡ ends_of other ns
same_ends one other [] agree = refl
same_ends one other (n ∷ ns) agree =
    ap (λ (end : Option How). with_pass_end n end (ends_of one ns)) (agree n (or_left (n == n) (is_in n ns) (eq-eqb n n refl)))
    ∙ ap (λ (ends : List (ℕ × How)). with_pass_end n (other n) ends) (same_ends one other ns (λ m there. agree m (or_right (n == m) (is_in m ns) there)))

pub none_end : (end : ℕ → Option How) (ns : List ℕ) → ((n : ℕ) → end n ≡ None) → ends_of end ns ≡ []
none_end end [] none = refl
none_end end (n ∷ ns) none = ap (λ (o : Option How). with_pass_end n o (ends_of end ns)) (none n) ∙ none_end end ns none

front_all : (P : ℕ → Type 0) (n : ℕ) (end : Option How) (ends : List (ℕ × How)) → P n → All (λ (ended : ℕ × How). P ended.0) ends → All (λ (ended : ℕ × How). P ended.0) (with_pass_end n end ends)
front_all P n None ends here rest = rest
front_all P n (Some how) ends here rest = All-cons (λ (ended : ℕ × How). P ended.0) (n, how) ends here rest

-- what holds of passes holds of their ends
pub all_ends : (P : ℕ → Type 0) (end : ℕ → Option How) (ns : List ℕ) → All P ns → All (λ (ended : ℕ × How). P ended.0) (ends_of end ns)
all_ends P end [] all = All-nil (λ (ended : ℕ × How). P ended.0)
all_ends P end (n ∷ ns) all = front_all P n (end n) (ends_of end ns) (All-head P n ns all) (all_ends P end ns (All-tail P n ns all))
