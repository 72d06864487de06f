-- What holds of each two elements of a list holds of each two of it in another order.
use Rattle.std.proofs.Common.{◌≡◌, ◌≢◌, ℕ, ◌<◌, ◌==◌, if◌then◌else◌, List, length, get_or, swap, inl, inr, arith}
use Rattle.std.specs.List.{AllPairs}
use Rattle.std.specs.List.Sorted.{IsPermutation}
use Rattle.std.proofs.lemmas.Bool.{cases_order}
use Rattle.std.proofs.lemmas.Bool.Decides.{nat_tests}
use Rattle.std.proofs.lemmas.Grind.{common_steps}
use Rattle.std.proofs.lemmas.List.Edits.{swap_is}
use Rattle.std.proofs.lemmas.List.Sorted.{IsPermutation-keeps}
use Rattle.std.proofs.Common.{length-set}

-- each two elements at different places, in either order
abbrev pub EachTwo : {X : Type 0} → (X → X → Type 0) → List X → Type 0
EachTwo {X} R xs = (i j : ℕ) (d : X) → i < length xs → j < length xs → i ≢ j → R (get_or xs i d) (get_or xs j d)

pub EachTwo-from : {X : Type 0} (R : X → X → Type 0) → ((x y : X) → R x y → R y x) → (xs : List X) → AllPairs R xs → EachTwo R xs
EachTwo-from R turn xs pairs = λ i j d first second apart.
    elim (cases_order i j) [
      | inl same ↦ absurd (apart same)
      | inr (inl less) ↦ pairs i j d less second
      | inr (inr more) ↦ turn (get_or xs j d) (get_or xs i d) (pairs j i d more first)
    ]

pub EachTwo-pairs : {X : Type 0} (R : X → X → Type 0) → (xs : List X) → EachTwo R xs → AllPairs R xs
EachTwo-pairs R xs each = λ i j d less second. each i j d (omega arith) second (omega arith)

-- where an element stood before two places were swapped
abbrev from : ℕ → ℕ → ℕ → ℕ
from a b k = if k == b then a else if k == a then b else k

from-within : (a b k n : ℕ) → a < n → b < n → k < n → from a b k < n
from-within a b k n first second third = grind (arith, nat_tests)

from-apart : (a b k m : ℕ) → k ≢ m → from a b k ≢ from a b m
from-apart a b k m apart = λ same. grind (arith, nat_tests)

get_or-swapped : {X : Type 0} (xs : List X) (a b k : ℕ) (d : X) → a < length xs → b < length xs → k < length xs → get_or (swap xs a b) k d ≡ get_or xs (from a b k) d
get_or-swapped xs a b k d first second third = rw (← swap_is xs a b d first second) (grind (arith, nat_tests, common_steps))

length-swapped : {X : Type 0} (xs : List X) (a b : ℕ) (d : X) → a < length xs → b < length xs → length (swap xs a b) ≡ length xs
length-swapped xs a b d first second = rw (← swap_is xs a b d first second) (simp length-set)

swapped : {X : Type 0} (R : X → X → Type 0) (xs : List X) (a b : ℕ) → a < length xs → b < length xs → EachTwo R xs → EachTwo R (swap xs a b)
swapped R xs a b first second each = λ i j d within within' apart.
    let len = length-swapped xs a b d first second in
    let i-in : i < length xs = omega (arith, len, within) in
    let j-in : j < length xs = omega (arith, len, within') in
    rw (get_or-swapped xs a b i d first second i-in, get_or-swapped xs a b j d first second j-in)
    (each (from a b i) (from a b j) d (from-within a b i (length xs) first second i-in) (from-within a b j (length xs) first second j-in) (from-apart a b i j apart))

pub EachTwo-permutation : {X : Type 0} (R : X → X → Type 0) (xs ys : List X) → IsPermutation xs ys → EachTwo R xs → EachTwo R ys
EachTwo-permutation R xs ys permutation each = IsPermutation-keeps xs (EachTwo R) each (λ l a b first second two. swapped R l a b first second two) ys permutation
