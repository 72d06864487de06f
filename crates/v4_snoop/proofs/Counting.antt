-- How many items of a list pass a test.
use Rattle.std.proofs.Common.{◌≡◌, ℕ, ◌+◌, ◌≤◌, ◌<◌, zero, suc, Bool, true, false, ◌||◌, cond, nat_lt, List, [], ◌∷◌, length, get_or, take, drop, count_by, refl, sym, ◌∙◌, ap, arith, inl, inr}
use Rattle.std.specs.List.{list_any}
use Rattle.std.proofs.lemmas.Bool.{cases_Bool, lt-ltb}
use Rattle.std.proofs.lemmas.List.Sums.{count_by-le-length}
use Rattle.savi_kinds.proofs.Filters.{count_by-cons}

-- the first item passes, or it doesn't
pub count_first : {X : Type 0} (p : X → Bool) (x : X) (xs : List X) → p x ≡ true → count_by p (x ∷ xs) ≡ 1 + count_by p xs
count_first p x xs passes = count_by-cons p x xs ∙ ap (λ b. cond b 1 0 + count_by p xs) passes

pub count_behind : {X : Type 0} (p : X → Bool) (x : X) (xs : List X) → p x ≡ false → count_by p (x ∷ xs) ≡ 0 + count_by p xs
count_behind p x xs fails = count_by-cons p x xs ∙ ap (λ b. cond b 1 0 + count_by p xs) fails

-- item by item one test says of a list what another one says of another list
pub counts_agree : {X : Type 0} (p q : X → Bool) (xs ys : List X) (d : X) → length xs ≡ length ys → ((k : ℕ) → k < length ys → p (get_or xs k d) ≡ q (get_or ys k d)) → count_by p xs ≡ count_by q ys
counts_agree p q [] [] d same agree = refl
counts_agree p q [] (y ∷ ys) d same agree = absurd (omega (arith, same))
counts_agree p q (x ∷ xs) [] d same agree = absurd (omega (arith, same))
counts_agree p q (x ∷ xs) (y ∷ ys) d same agree =
    let rest : count_by p xs ≡ count_by q ys = counts_agree p q xs ys d (omega (arith, same)) (λ k within. agree (suc k) (omega (arith, within))) in
    let here : p x ≡ q y = agree 0 (omega arith) in
    count_by-cons p x xs ∙ ap (λ b. cond b 1 0 + count_by p xs) here ∙ ap (λ n. cond (q y) 1 0 + n) rest ∙ sym (count_by-cons q y ys)

-- two tests that say the same of every item
pub counts_same : {X : Type 0} (p q : X → Bool) → ((x : X) → p x ≡ q x) → (xs : List X) → count_by p xs ≡ count_by q xs
counts_same p q same [] = refl
counts_same p q same (x ∷ xs) =
    count_by-cons p x xs ∙ ap (λ b. cond b 1 0 + count_by p xs) (same x) ∙ ap (λ n. cond (q x) 1 0 + n) (counts_same p q same xs) ∙ sym (count_by-cons q x xs)

-- some item passes where they aren't none
pub any_counted : {X : Type 0} (p : X → Bool) (xs : List X) → list_any p xs ≡ nat_lt 0 (count_by p xs)
any_counted p [] = refl
any_counted p (x ∷ xs) =
    elim (cases_Bool (p x)) [
      | inl passes ↦
          let some : nat_lt 0 (count_by p (x ∷ xs)) ≡ true = lt-ltb 0 (count_by p (x ∷ xs)) (omega (arith, count_first p x xs passes)) in
          ap (λ b. b || list_any p xs) passes ∙ sym some
      | inr fails ↦
          let all : count_by p (x ∷ xs) ≡ count_by p xs = omega (arith, count_behind p x xs fails) in
          ap (λ b. b || list_any p xs) fails ∙ any_counted p xs ∙ ap (λ n. nat_lt 0 n) (sym all)
    ]

-- none passes
pub count_nowhere : {X : Type 0} (p : X → Bool) (xs : List X) (d : X) → ((k : ℕ) → k < length xs → p (get_or xs k d) ≡ false) → count_by p xs ≡ 0
count_nowhere p [] d none = refl
count_nowhere p (x ∷ xs) d none =
    omega (arith, count_behind p x xs (none 0 (omega arith)), count_nowhere p xs d (λ k within. none (suc k) (omega (arith, within))))

-- none but one may pass
pub count_single : {X : Type 0} (p : X → Bool) (xs : List X) (i : ℕ) (d : X) → i < length xs → ((k : ℕ) → k < length xs → p (get_or xs k d) ≡ true → k ≡ i) → count_by p xs ≡ cond (p (get_or xs i d)) 1 0
count_single p [] i d within only = absurd (omega (arith, within))
count_single p (x ∷ xs) zero d within only =
    let none : count_by p xs ≡ 0 = count_nowhere p xs d (λ k inside. elim (cases_Bool (p (get_or xs k d))) [ inl passes ↦ absurd (omega (arith, only (suc k) (omega (arith, inside)) passes)) | inr fails ↦ fails ]) in
    let all : count_by p (x ∷ xs) ≡ cond (p x) 1 0 + count_by p xs = count_by-cons p x xs in
    omega (arith, all, none)
count_single p (x ∷ xs) (suc i) d within only =
    let fails : p x ≡ false = elim (cases_Bool (p x)) [ inl passes ↦ absurd (omega (arith, only 0 (omega arith) passes)) | inr fails ↦ fails ] in
    let rest : count_by p xs ≡ cond (p (get_or xs i d)) 1 0 = count_single p xs i d (omega (arith, within)) (λ k inside passes. omega (arith, only (suc k) (omega (arith, inside)) passes)) in
    omega (arith, count_behind p x xs fails, rest)

-- fewer than all where one fails, and all where each passes
pub count_short : {X : Type 0} (p : X → Bool) (xs : List X) (i : ℕ) (d : X) → i < length xs → p (get_or xs i d) ≡ false → count_by p xs + 1 ≤ length xs
count_short p [] i d within fails = absurd (omega (arith, within))
count_short p (x ∷ xs) zero d within fails = omega (arith, count_behind p x xs fails, count_by-le-length p xs)
count_short p (x ∷ xs) (suc i) d within fails =
    let rest : count_by p xs + 1 ≤ length xs = count_short p xs i d (omega (arith, within)) fails in
    elim (cases_Bool (p x)) [ inl passes ↦ omega (arith, count_first p x xs passes, rest) | inr other ↦ omega (arith, count_behind p x xs other, rest) ]

pub count_whole : {X : Type 0} (p : X → Bool) (xs : List X) (d : X) → ((k : ℕ) → k < length xs → p (get_or xs k d) ≡ true) → count_by p xs ≡ length xs
count_whole p [] d all = refl
count_whole p (x ∷ xs) d all =
    omega (arith, count_first p x xs (all 0 (omega arith)), count_whole p xs d (λ k within. all (suc k) (omega (arith, within))))

-- those that pass stand in a front, or in a part
count_front : {X : Type 0} (p : X → Bool) (xs : List X) (n : ℕ) (d : X) → ((k : ℕ) → n ≤ k → k < length xs → p (get_or xs k d) ≡ false) → count_by p xs ≡ count_by p (take n xs)
count_front p [] zero d after = refl
count_front p [] (suc n) d after = refl
count_front p (x ∷ xs) zero d after = count_nowhere p (x ∷ xs) d (λ k within. after k (omega arith) within)
count_front p (x ∷ xs) (suc n) d after =
    count_by-cons p x xs
    ∙ ap (λ m. cond (p x) 1 0 + m) (count_front p xs n d (λ k from within. after (suc k) (omega (arith, from)) (omega (arith, within))))
    ∙ sym (count_by-cons p x (take n xs))

pub count_part : {X : Type 0} (p : X → Bool) (xs : List X) (from n : ℕ) (d : X) → ((k : ℕ) → k < from → k < length xs → p (get_or xs k d) ≡ false) → ((k : ℕ) → from + n ≤ k → k < length xs → p (get_or xs k d) ≡ false) → count_by p xs ≡ count_by p (take n (drop from xs))
count_part p xs zero n d before after = count_front p xs n d (λ k past within. after k (omega (arith, past)) within)
count_part p [] (suc from) zero d before after = refl
count_part p [] (suc from) (suc n) d before after = refl
count_part p (x ∷ xs) (suc from) n d before after =
    let rest : count_by p xs ≡ count_by p (take n (drop from xs)) = count_part p xs from n d (λ k to within. before (suc k) (omega (arith, to)) (omega (arith, within))) (λ k past within. after (suc k) (omega (arith, past)) (omega (arith, within))) in
    omega (arith, count_behind p x xs (before 0 (omega arith) (omega arith)), rest)
