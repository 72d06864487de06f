-- The leases that are live, as slots have them, when time passes and when slots change.
use Rattle.std.proofs.Common.{◌≡◌, ℕ, ◌+◌, ◌≤◌, ◌<◌, ◌==◌, ◌&&◌, nat_lt, Bool, true, false, cond, List, [], ◌∷◌, All, filter, length, get_or, count_by, Option, Some, None, refl, sym, ◌∙◌, ap, arith, inl, inr}
use Rattle.std.proofs.Math.ListN.{set}
use Rattle.std.proofs.lemmas.Bool.{cases_Bool, cond_both, lt-ltb, ltb-true, eqb-true}
use Rattle.std.proofs.lemmas.List.Sums.{sum_by-set}
use Rattle.savi_kinds.proofs.Filters.{count_by-cons}
use Rattle.v4_snoop.specs.declared.lease.Lease.{Lease}
use Rattle.v4_snoop.specs.Leased.{is_before_end, is_live_lease}
use Rattle.v4_snoop.specs.KeptLeases.{HoldsLive, lease_in, has_lease, left_if}
use Rattle.v4_snoop.proofs.Counting.{counts_agree, counts_same, count_behind, count_nowhere}

-- what ends after a later moment ends after an earlier one
earlier_too : (t u : ℕ) (end : Option ℕ) (b : Bool) → t ≤ u → (is_before_end t end && (is_before_end u end && b)) ≡ (is_before_end u end && b)
earlier_too t u None b before = refl
earlier_too t u (Some until) b before =
    elim (cases_Bool (nat_lt u until)) [
      | inl live ↦
          let less : u < until = ltb-true u until live in
          rw (lt-ltb t until (omega (arith, less, before))) refl
      | inr ended ↦
          rw ended (elim (cases_Bool (nat_lt t until)) [ inl live ↦ rw live refl | inr past ↦ rw past refl ])
    ]

slot_test : (p q : Lease → Bool) → ((lease : Lease) → p lease ≡ q lease) → (slot : Option Lease) → has_lease p slot ≡ has_lease q slot
slot_test p q same None = refl
slot_test p q same (Some lease) = same lease

-- what is live later are those that are live then of those that are live now
pub HoldsLive-later : {t u : ℕ} {leases : List Lease} {slots : List (Option Lease)} → t ≤ u → HoldsLive t leases slots → HoldsLive u leases slots
HoldsLive-later {t} {u} {leases} {slots} before holds = record {
  counted = λ test.
      let both : (lease : Lease) → (is_live_lease t lease && (is_live_lease u lease && test lease)) ≡ (is_live_lease u lease && test lease) = λ lease. earlier_too t u lease.until (test lease) before in
      sym (counts_same (has_lease (λ lease. is_live_lease t lease && (is_live_lease u lease && test lease))) (has_lease (λ lease. is_live_lease u lease && test lease)) (slot_test (λ lease. is_live_lease t lease && (is_live_lease u lease && test lease)) (λ lease. is_live_lease u lease && test lease) both) slots)
      ∙ holds.counted (λ lease. is_live_lease u lease && test lease)
      ∙ counts_same (λ lease. is_live_lease t lease && (is_live_lease u lease && test lease)) (λ lease. is_live_lease u lease && test lease) both leases;
}

and_three : (a b c : Bool) → c ≡ true → (a && (b && c)) ≡ (a && b)
and_three true true c so = so
and_three true false c so = refl
and_three false b c so = refl

none_of_three : (a b c : Bool) → c ≡ false → false ≡ (a && (b && c))
none_of_three true true c so = sym so
none_of_three true false c so = refl
none_of_three false b c so = refl

-- a slot of which a kind is left
pub has_left : (live test left : Lease → Bool) (slot : Option Lease) → has_lease (λ lease. live lease && test lease) (left_if left slot) ≡ has_lease (λ lease. live lease && (test lease && left lease)) slot
has_left live test left None = refl
has_left live test left (Some lease) =
    elim (cases_Bool (left lease)) [
      | inl stays ↦ ap (λ b. has_lease (λ one. live one && test one) (cond b (Some lease) None)) stays ∙ sym (and_three (live lease) (test lease) (left lease) stays)
      | inr goes ↦ ap (λ b. has_lease (λ one. live one && test one) (cond b (Some lease) None)) goes ∙ none_of_three (live lease) (test lease) (left lease) goes
    ]

count_left : (live test left : Lease → Bool) (leases : List Lease) → count_by (λ lease. live lease && test lease) (filter left leases) ≡ count_by (λ lease. live lease && (test lease && left lease)) leases
count_left live test left [] = refl
count_left live test left (x ∷ xs) =
    let rest : count_by (λ lease. live lease && test lease) (filter left xs) ≡ count_by (λ lease. live lease && (test lease && left lease)) xs = count_left live test left xs in
    cond_both (left x) (x ∷ filter left xs) (filter left xs) (λ ys. count_by (λ lease. live lease && test lease) ys ≡ count_by (λ lease. live lease && (test lease && left lease)) (x ∷ xs))
    (λ stays.
    count_by-cons (λ lease. live lease && test lease) x (filter left xs)
    ∙ ap (λ b. cond b 1 0 + count_by (λ lease. live lease && test lease) (filter left xs)) (sym (and_three (live x) (test x) (left x) stays))
    ∙ ap (λ n. cond (live x && (test x && left x)) 1 0 + n) rest
    ∙ sym (count_by-cons (λ lease. live lease && (test lease && left lease)) x xs))
    (λ goes.
    let gone : (live x && (test x && left x)) ≡ false = sym (none_of_three (live x) (test x) (left x) goes) in
    omega (arith, rest, count_behind (λ lease. live lease && (test lease && left lease)) x xs gone))

-- a kind of leases is left, in slots as in the list
pub HoldsLive-left : {t : ℕ} {leases : List Lease} {slots now : List (Option Lease)} (left : Lease → Bool) → HoldsLive t leases slots → length now ≡ length slots → ((slot : ℕ) → lease_in now slot ≡ left_if left (lease_in slots slot)) → HoldsLive t (filter left leases) now
HoldsLive-left {t} {leases} {slots} {now} left holds size each = record {
  counted = λ test.
      counts_agree (has_lease (λ lease. is_live_lease t lease && test lease)) (has_lease (λ lease. is_live_lease t lease && (test lease && left lease))) now slots None size
      (λ k within. ap (has_lease (λ lease. is_live_lease t lease && test lease)) (each k) ∙ has_left (is_live_lease t) test left (get_or slots k None))
      ∙ holds.counted (λ lease. test lease && left lease)
      ∙ sym (count_left (is_live_lease t) test left leases);
}

-- a slot whose lease isn't live is emptied
pub HoldsLive-emptied : {t : ℕ} {leases : List Lease} {slots now : List (Option Lease)} (slot : ℕ) → HoldsLive t leases slots → length now ≡ length slots → has_lease (is_live_lease t) (lease_in slots slot) ≡ false → ((other : ℕ) → lease_in now other ≡ cond (other == slot) None (lease_in slots other)) → HoldsLive t leases now
HoldsLive-emptied {t} {leases} {slots} {now} slot holds size ended each = record {
  counted = λ test.
      counts_agree (has_lease (λ lease. is_live_lease t lease && test lease)) (has_lease (λ lease. is_live_lease t lease && test lease)) now slots None size
      (λ k within. ap (has_lease (λ lease. is_live_lease t lease && test lease)) (each k) ∙ gone test k)
      ∙ holds.counted test;
}
  where
    idle : (test : Lease → Bool) (o : Option Lease) → has_lease (is_live_lease t) o ≡ false → false ≡ has_lease (λ lease. is_live_lease t lease && test lease) o
    idle test None over = refl
    idle test (Some lease) over = rw over refl

    gone : (test : Lease → Bool) (k : ℕ) → has_lease (λ lease. is_live_lease t lease && test lease) (cond (k == slot) None (lease_in slots k)) ≡ has_lease (λ lease. is_live_lease t lease && test lease) (lease_in slots k)
    gone test k =
        elim (cases_Bool (k == slot)) [
          | inl same ↦ rw same (idle test (lease_in slots k) (ap (λ j. has_lease (is_live_lease t) (lease_in slots j)) (eqb-true k slot same) ∙ ended))
          | inr other ↦ rw other refl
        ]

-- an empty slot takes a lease
pub HoldsLive-filled : {t : ℕ} {leases : List Lease} {slots : List (Option Lease)} (slot : ℕ) (lease : Lease) → HoldsLive t leases slots → slot < length slots → lease_in slots slot ≡ None → HoldsLive t (lease ∷ leases) (set slots slot (Some lease))
HoldsLive-filled {t} {leases} {slots} slot lease holds within empty = record {
  counted = λ test.
      let p : Lease → Bool = λ one. is_live_lease t one && test one in
      let nothing : ◌≡◌ {A = ℕ} (cond (has_lease p (get_or slots slot None)) 1 0) 0 = ap (λ o. cond (has_lease p o) 1 0) empty in
      let change : count_by (has_lease p) (set slots slot (Some lease)) + cond (has_lease p (get_or slots slot None)) 1 0 ≡ count_by (has_lease p) slots + cond (p lease) 1 0 = sum_by-set (λ o. cond (has_lease p o) 1 0) slots slot (Some lease) None within in
      let more : count_by p (lease ∷ leases) ≡ cond (p lease) 1 0 + count_by p leases = count_by-cons p lease leases in
      let before : count_by (has_lease p) slots ≡ count_by p leases = holds.counted test in
      omega (arith, nothing, change, more, before);
}

-- where no slot has a lease none is live
pub none_held : (t : ℕ) {slots : List (Option Lease)} → All (λ o. o ≡ None) slots → HoldsLive t [] slots
none_held t {slots} none = record {
  counted = λ test. count_nowhere (has_lease (λ lease. is_live_lease t lease && test lease)) slots None (λ k within. ap (has_lease (λ lease. is_live_lease t lease && test lease)) (none k None within));
}
