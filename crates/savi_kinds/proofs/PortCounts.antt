-- How many items there are, where each is at a port.
use Rattle.std.proofs.Common.{◌≡◌, ◌≢◌, ℕ, zero, suc, ◌+◌, ◌*◌, ◌≤◌, ◌==◌, nat_le, false, cond, List, [], ◌∷◌, length, count_by, refl, ◌∙◌, arith, inl, inr, eq-eqb, le-leb}
use Rattle.std.proofs.lemmas.Bool.{cases_Bool, cases_eq, leb-true, lt-leb}
use Rattle.savi_kinds.specs.declared.port.Port.{Port}
use Rattle.savi_kinds.specs.Ports.{number_of}
use Rattle.savi_kinds.proofs.Filters.{count_by-cons}

-- how many items are at the ports up to k
abbrev count_up_to : {X : Type 0} → (X → Port) → ℕ → List X → ℕ
count_up_to port_of k xs = count_by (λ x. nat_le (number_of (port_of x)) k) xs

-- a port up to k + 1 is one up to k or is k + 1
up_to_suc : (n k : ℕ) → cond (nat_le n (suc k)) 1 0 ≤ cond (nat_le n k) 1 0 + cond (n == suc k) 1 0
up_to_suc n k =
    elim (cases_Bool (nat_le n (suc k))) [
      | inl up ↦
          let bound : n ≤ suc k = leb-true n (suc k) up in
          elim (cases_eq n (suc k)) [
            | inl same ↦ rw (up, eq-eqb n (suc k) same) (omega arith)
            | inr other ↦
                let ne : n ≢ suc k = other in
                let below : n ≤ k = omega (arith, bound, ne) in
                rw (up, le-leb n k below) (omega arith)
          ]
      | inr past ↦ rw past (omega arith)
    ]

count_up_to-suc : {X : Type 0} (port_of : X → Port) (k : ℕ) (xs : List X) → count_up_to port_of (suc k) xs ≤ count_up_to port_of k xs + count_by (λ x. number_of (port_of x) == suc k) xs
count_up_to-suc port_of k [] = omega arith
count_up_to-suc port_of k (x ∷ xs) =
    let n : ℕ = number_of (port_of x) in
    let wide : count_up_to port_of (suc k) (x ∷ xs) ≡ cond (nat_le n (suc k)) 1 0 + count_up_to port_of (suc k) xs = count_by-cons (λ y. nat_le (number_of (port_of y)) (suc k)) x xs in
    let narrow : count_up_to port_of k (x ∷ xs) ≡ cond (nat_le n k) 1 0 + count_up_to port_of k xs = count_by-cons (λ y. nat_le (number_of (port_of y)) k) x xs in
    let last : count_by (λ y. number_of (port_of y) == suc k) (x ∷ xs) ≡ cond (n == suc k) 1 0 + count_by (λ y. number_of (port_of y) == suc k) xs = count_by-cons (λ y. number_of (port_of y) == suc k) x xs in
    omega (arith, wide, narrow, last, up_to_suc n k, count_up_to-suc port_of k xs)

count_up_to-zero : {X : Type 0} (port_of : X → Port) (xs : List X) → count_up_to port_of 0 xs ≡ 0
count_up_to-zero port_of [] = refl
count_up_to-zero port_of (x ∷ xs) =
    let n : ℕ = number_of (port_of x) in
    let low : 1 ≤ n = (port_of x).low in
    let past : nat_le n 0 ≡ false = lt-leb n 0 (omega (arith, low)) in
    let all : count_up_to port_of 0 (x ∷ xs) ≡ cond (nat_le n 0) 1 0 + count_up_to port_of 0 xs = count_by-cons (λ y. nat_le (number_of (port_of y)) 0) x xs in
    all ∙ rw past (omega (arith, count_up_to-zero port_of xs))

count_up_to-le : {X : Type 0} (port_of : X → Port) (most k : ℕ) (xs : List X) → ((n : ℕ) → count_by (λ x. number_of (port_of x) == n) xs ≤ most) → count_up_to port_of k xs ≤ most * k
count_up_to-le port_of most zero xs room = omega (arith, count_up_to-zero port_of xs)
count_up_to-le port_of most (suc k) xs room = omega (arith, count_up_to-suc port_of k xs, room (suc k), count_up_to-le port_of most k xs room)

count_up_to-all : {X : Type 0} (port_of : X → Port) (xs : List X) → count_up_to port_of 16 xs ≡ length xs
count_up_to-all port_of [] = refl
count_up_to-all port_of (x ∷ xs) =
    let n : ℕ = number_of (port_of x) in
    let high : n ≤ 16 = (port_of x).high in
    let all : count_up_to port_of 16 (x ∷ xs) ≡ cond (nat_le n 16) 1 0 + count_up_to port_of 16 xs = count_by-cons (λ y. nat_le (number_of (port_of y)) 16) x xs in
    all ∙ rw (le-leb n 16 high) (omega (arith, count_up_to-all port_of xs))

-- so many for each of 16 ports, where no port has more
pub length-by_port : {X : Type 0} (port_of : X → Port) (most : ℕ) (xs : List X) → ((n : ℕ) → count_by (λ x. number_of (port_of x) == n) xs ≤ most) → length xs ≤ most * 16
length-by_port port_of most xs room = omega (arith, count_up_to-le port_of most 16 xs room, count_up_to-all port_of xs)
