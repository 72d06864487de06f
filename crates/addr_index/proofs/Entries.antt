-- Which entry of an address a list has, and how many.
use Rattle.std.proofs.Common.{◌≡◌, ◌≤◌, ◌+◌, ℕ, true, false, cond, List, [], ◌∷◌, find, count_by, Some, None, refl, sym, ◌∙◌, arith, inl, inr}
use Rattle.std.proofs.lemmas.Bool.{cases_Bool}
use Rattle.std.proofs.lemmas.List.Sums.{sum_by-cons}
use Rattle.addr_index.specs.declared.entry.Entry.{Entry}
use Rattle.addr_index.specs.Indexes.{is_of}

pub find_yes : (b : ℕ) (x : Entry) (xs : List Entry) → is_of b x ≡ true → find (is_of b) (x ∷ xs) ≡ Some x
find_yes b x xs is = rw is refl

pub find_no : (b : ℕ) (x : Entry) (xs : List Entry) → is_of b x ≡ false → find (is_of b) (x ∷ xs) ≡ find (is_of b) xs
find_no b x xs is = rw is refl

pub count_cons : (b : ℕ) (x : Entry) (xs : List Entry) → count_by (is_of b) (x ∷ xs) ≡ cond (is_of b x) 1 0 + count_by (is_of b) xs
count_cons b x xs = sum_by-cons (λ (y : Entry). cond (is_of b y) 1 0) x xs

pub count_yes : (b : ℕ) (x : Entry) (xs : List Entry) → is_of b x ≡ true → count_by (is_of b) (x ∷ xs) ≡ count_by (is_of b) xs + 1
count_yes b x xs is =
    let all : count_by (is_of b) (x ∷ xs) ≡ cond (is_of b x) 1 0 + count_by (is_of b) xs = count_cons b x xs in
    let one : ◌≡◌ {A = ℕ} (cond (is_of b x) 1 0) 1 = rw is refl in
    omega (arith, all, one)

pub count_no : (b : ℕ) (x : Entry) (xs : List Entry) → is_of b x ≡ false → count_by (is_of b) (x ∷ xs) ≡ count_by (is_of b) xs
count_no b x xs is =
    let all : count_by (is_of b) (x ∷ xs) ≡ cond (is_of b x) 1 0 + count_by (is_of b) xs = count_cons b x xs in
    let one : ◌≡◌ {A = ℕ} (cond (is_of b x) 1 0) 0 = rw is refl in
    omega (arith, all, one)

-- an address that no entry has stands in none
pub count_absent : (b : ℕ) (xs : List Entry) → find (is_of b) xs ≡ None → count_by (is_of b) xs ≡ 0
count_absent b [] none = refl
count_absent b (x ∷ xs) none =
    elim (cases_Bool (is_of b x)) [
      | inl is ↦ let there : find (is_of b) (x ∷ xs) ≡ Some x = find_yes b x xs is in cc
      | inr isnt ↦ let rest : find (is_of b) xs ≡ None = sym (find_no b x xs isnt) ∙ none in count_no b x xs isnt ∙ count_absent b xs rest
    ]

pub count_there : (b : ℕ) (xs : List Entry) (e : Entry) → find (is_of b) xs ≡ Some e → 1 ≤ count_by (is_of b) xs
count_there b [] e some = cc
count_there b (x ∷ xs) e some =
    elim (cases_Bool (is_of b x)) [
      | inl is ↦ omega (arith, count_yes b x xs is)
      | inr isnt ↦ let rest : find (is_of b) xs ≡ Some e = sym (find_no b x xs isnt) ∙ some in omega (arith, count_no b x xs isnt, count_there b xs e rest)
    ]
