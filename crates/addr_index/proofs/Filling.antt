-- What the places have: which entry a search of them finds, and how many there are, when a place is filled or emptied.
use Rattle.std.proofs.Common.{◌≡◌, ◌≢◌, ◌==◌, ◌≤◌, ◌<◌, ◌+◌, ℕ, zero, suc, true, false, cond, List, [], ◌∷◌, length, find, count_by, Option, Some, None, refl, sym, ◌∙◌, ap, arith, inl, inr}
use Rattle.std.proofs.Math.ListN.{set}
use Rattle.std.proofs.lemmas.Bool.{cases_Bool, eqb-true, eq-eqb, false≢true}
use Rattle.addr_index.specs.declared.entry.Entry.{Entry}
use Rattle.addr_index.specs.Indexes.{is_of, HasOneEach}
use Rattle.addr_index.specs.Places.{in_place, entries_of}
use Rattle.addr_index.proofs.Entries.{find_yes, find_no, count_yes, count_cons, count_there}

-- the rest of entries of pairwise different addresses
pub HasOneEach-tail : (e : Entry) (xs : List Entry) → HasOneEach (e ∷ xs) → HasOneEach xs
HasOneEach-tail e xs each b = omega (arith, each b, count_cons b e xs)

-- it has none of the first one's address
pub tail_without : (e : Entry) (xs : List Entry) → HasOneEach (e ∷ xs) → (b : ℕ) → is_of b e ≡ true → find (is_of b) xs ≡ None
tail_without e xs each b is = go (find (is_of b) xs) refl
  where
    go : (o : Option Entry) → find (is_of b) xs ≡ o → find (is_of b) xs ≡ None
    go None found = found
    go (Some f) found = absurd (omega (arith, each b, count_yes b e xs is, count_there b xs f found))

-- a place that has an entry
pub counted_place : (places : List (Option Entry)) (p : ℕ) (e : Entry) (b : ℕ) → in_place places p ≡ Some e → is_of b e ≡ true → 1 ≤ count_by (is_of b) (entries_of places)
counted_place [] p e b there is = cc
counted_place (None ∷ places) zero e b there is = cc
counted_place (Some f ∷ places) zero e b there is =
    let same : f ≡ e = cc in
    let is' : is_of b f ≡ true = rw same is in
    omega (arith, count_yes b f (entries_of places) is')
counted_place (None ∷ places) (suc p) e b there is = counted_place places p e b there is
counted_place (Some f ∷ places) (suc p) e b there is = omega (arith, count_cons b f (entries_of places), counted_place places p e b there is)

-- the entry of a place is found by its address
pub found_place : (places : List (Option Entry)) (p : ℕ) (e : Entry) → HasOneEach (entries_of places) → in_place places p ≡ Some e → find (is_of e.address) (entries_of places) ≡ Some e
found_place [] p e each there = cc
found_place (None ∷ places) zero e each there = cc
found_place (Some f ∷ places) zero e each there =
    let same : f ≡ e = cc in
    let is : is_of e.address f ≡ true = rw same (eq-eqb e.address e.address refl) in
    find_yes e.address f (entries_of places) is ∙ ap (λ (x : Entry). Some x) same
found_place (None ∷ places) (suc p) e each there = found_place places p e each there
found_place (Some f ∷ places) (suc p) e each there =
    elim (cases_Bool (is_of e.address f)) [
      | inl is ↦ absurd (omega (arith, each e.address, count_yes e.address f (entries_of places) is, counted_place places p e e.address there (eq-eqb e.address e.address refl)))
      | inr isnt ↦ find_no e.address f (entries_of places) isnt ∙ found_place places p e (HasOneEach-tail f (entries_of places) each) there
    ]

-- an address that no place has
pub absent_places : (places : List (Option Entry)) (b : ℕ) → ((p : ℕ) (e : Entry) → p < length places → in_place places p ≡ Some e → e.address ≢ b) → find (is_of b) (entries_of places) ≡ None
absent_places [] b none = refl
absent_places (None ∷ places) b none = absent_places places b (λ p e within there. none (suc p) e (omega (arith, within)) there)
absent_places (Some f ∷ places) b none =
    let rest : find (is_of b) (entries_of places) ≡ None = absent_places places b (λ p e within there. none (suc p) e (omega (arith, within)) there) in
    elim (cases_Bool (is_of b f)) [
      | inl is ↦ absurd (none 0 f (omega arith) refl (eqb-true f.address b is))
      | inr isnt ↦ find_no b f (entries_of places) isnt ∙ rest
    ]

-- an empty place is filled
pub find_filled : (places : List (Option Entry)) (p : ℕ) (e : Entry) (b : ℕ) → p < length places → in_place places p ≡ None → find (is_of e.address) (entries_of places) ≡ None → find (is_of b) (entries_of (set places p (Some e))) ≡ cond (e.address == b) (Some e) (find (is_of b) (entries_of places))
find_filled [] p e b within empty absent = absurd (omega (arith, within))
find_filled (None ∷ places) zero e b within empty absent = refl
find_filled (Some f ∷ places) zero e b within empty absent = cc
find_filled (None ∷ places) (suc p) e b within empty absent = find_filled places p e b (omega (arith, within)) empty absent
find_filled (Some f ∷ places) (suc p) e b within empty absent =
    elim (cases_Bool (is_of e.address f)) [
      | inl is ↦ let there : find (is_of e.address) (f ∷ entries_of places) ≡ Some f = find_yes e.address f (entries_of places) is in cc
      | inr isnt ↦
          let less : find (is_of e.address) (entries_of places) ≡ None = sym (find_no e.address f (entries_of places) isnt) ∙ absent in
          elim (cases_Bool (is_of b f)) [
            | inl here ↦
                elim (cases_Bool (e.address == b)) [
                  | inl same ↦ absurd (false≢true (sym isnt ∙ eq-eqb f.address e.address (eqb-true f.address b here ∙ sym (eqb-true e.address b same))))
                  | inr different ↦ rw (here, different) refl
                ]
            | inr elsewhere ↦ rw elsewhere (find_filled places p e b (omega (arith, within)) empty less)
          ]
    ]

pub count_filled : (places : List (Option Entry)) (p : ℕ) (e : Entry) (b : ℕ) → p < length places → in_place places p ≡ None → count_by (is_of b) (entries_of (set places p (Some e))) ≡ cond (is_of b e) 1 0 + count_by (is_of b) (entries_of places)
count_filled [] p e b within empty = absurd (omega (arith, within))
count_filled (None ∷ places) zero e b within empty = count_cons b e (entries_of places)
count_filled (Some f ∷ places) zero e b within empty = cc
count_filled (None ∷ places) (suc p) e b within empty = count_filled places p e b (omega (arith, within)) empty
count_filled (Some f ∷ places) (suc p) e b within empty =
    omega (arith, count_filled places p e b (omega (arith, within)) empty, count_cons b f (entries_of places), count_cons b f (entries_of (set places p (Some e))))

pub length_filled : (places : List (Option Entry)) (p : ℕ) (e : Entry) → p < length places → in_place places p ≡ None → length (entries_of (set places p (Some e))) ≡ length (entries_of places) + 1
length_filled [] p e within empty = absurd (omega (arith, within))
length_filled (None ∷ places) zero e within empty = omega arith
length_filled (Some f ∷ places) zero e within empty = cc
length_filled (None ∷ places) (suc p) e within empty = length_filled places p e (omega (arith, within)) empty
length_filled (Some f ∷ places) (suc p) e within empty = omega (arith, length_filled places p e (omega (arith, within)) empty)

-- a place is emptied
pub find_emptied : (places : List (Option Entry)) (p : ℕ) (e : Entry) (b : ℕ) → in_place places p ≡ Some e → HasOneEach (entries_of places) → find (is_of b) (entries_of (set places p None)) ≡ cond (e.address == b) None (find (is_of b) (entries_of places))
find_emptied [] p e b there each = cc
find_emptied (None ∷ places) zero e b there each = cc
find_emptied (Some f ∷ places) zero e b there each =
    let same : f ≡ e = cc in
    elim (cases_Bool (is_of b f)) [
      | inl here ↦
          let here' : (e.address == b) ≡ true = rw (← same) here in
          rw here' (tail_without f (entries_of places) each b here)
      | inr elsewhere ↦
          let elsewhere' : (e.address == b) ≡ false = rw (← same) elsewhere in
          rw (elsewhere', elsewhere) refl
    ]
find_emptied (None ∷ places) (suc p) e b there each = find_emptied places p e b there each
find_emptied (Some f ∷ places) (suc p) e b there each =
    let rest : find (is_of b) (entries_of (set places p None)) ≡ cond (e.address == b) None (find (is_of b) (entries_of places)) = find_emptied places p e b there (HasOneEach-tail f (entries_of places) each) in
    elim (cases_Bool (is_of b f)) [
      | inl here ↦
          elim (cases_Bool (e.address == b)) [
            | inl same ↦ absurd (omega (arith, each b, count_yes b f (entries_of places) here, counted_place places p e b there same))
            | inr different ↦ rw (here, different) refl
          ]
      | inr elsewhere ↦ rw elsewhere rest
    ]

pub count_emptied : (places : List (Option Entry)) (p : ℕ) (e : Entry) (b : ℕ) → in_place places p ≡ Some e → count_by (is_of b) (entries_of places) ≡ cond (is_of b e) 1 0 + count_by (is_of b) (entries_of (set places p None))
count_emptied [] p e b there = cc
count_emptied (None ∷ places) zero e b there = cc
count_emptied (Some f ∷ places) zero e b there = let same : f ≡ e = cc in rw (← same) (count_cons b f (entries_of places))
count_emptied (None ∷ places) (suc p) e b there = count_emptied places p e b there
count_emptied (Some f ∷ places) (suc p) e b there =
    omega (arith, count_emptied places p e b there, count_cons b f (entries_of places), count_cons b f (entries_of (set places p None)))

pub length_emptied : (places : List (Option Entry)) (p : ℕ) (e : Entry) → in_place places p ≡ Some e → length (entries_of (set places p None)) + 1 ≡ length (entries_of places)
length_emptied [] p e there = cc
length_emptied (None ∷ places) zero e there = cc
length_emptied (Some f ∷ places) zero e there = omega arith
length_emptied (None ∷ places) (suc p) e there = length_emptied places p e there
length_emptied (Some f ∷ places) (suc p) e there = omega (arith, length_emptied places p e there)

-- fewer entries than places leave a place empty
pub empty_place : (places : List (Option Entry)) → length (entries_of places) < length places → (p : ℕ) × (p < length places) × (in_place places p ≡ None)
empty_place [] less = absurd (omega (arith, less))
empty_place (None ∷ places) less = (0, omega arith, refl)
empty_place (Some f ∷ places) less =
    let (p, within, empty) = empty_place places (omega (arith, less)) in
    (suc p, omega (arith, within), empty)

-- no entry in empty places
pub none_in_empty : (places : List (Option Entry)) → ((p : ℕ) → p < length places → in_place places p ≡ None) → entries_of places ≡ []
none_in_empty [] empty = refl
none_in_empty (None ∷ places) empty = none_in_empty places (λ p within. empty (suc p) (omega (arith, within)))
none_in_empty (Some f ∷ places) empty = let no : Some f ≡ None = empty 0 (omega arith) in cc
