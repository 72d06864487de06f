-- The first octet that passes a test: as a search gives it, and as a position.
use Rattle.std.proofs.Common.{ℕ, ◌≡◌, ◌<◌, Bool, true, List, length, get_or, Option, Some, None, refl, sym, ap, ◌∙◌, arith, le-ltb, lt-ltb, true≢false, inl, inr}
use Rattle.std.proofs.lemmas.Bool.{cases_lt}
use Rattle.std.proofs.lemmas.List.Sums.{passes_at_first, fails_before_first}
use Rattle.std.specs.List.{position, position_or_len}
use Rattle.memchr.specs.Find.{IsFirstByte, Nowhere, Passes}

-- a place that passes, where none passes before it
first_at : (p : ℕ → Bool) (xs : List ℕ) (k : ℕ) → k < length xs → Nowhere (Passes p xs) 0 k → p (get_or xs k 0) ≡ true → position_or_len p xs ≡ k
first_at p xs k inside before passes =
    let first = position_or_len p xs in
    elim (cases_lt k first) [
      | inl early ↦ absurd (true≢false (sym passes ∙ fails_before_first p xs k 0 early))
      | inr late ↦ elim (cases_lt first k) [
        | inl sooner ↦ absurd (before first (omega arith) sooner (passes_at_first p xs 0 (omega (arith, sooner, inside))))
        | inr same ↦ omega (arith, late, same)
      ]
    ]

pub first_is : (p : ℕ → Bool) (xs : List ℕ) (found : Option ℕ) → IsFirstByte p xs found → found ≡ position p xs
first_is p xs None none =
    elim (cases_lt (position_or_len p xs) (length xs)) [
      | inl inside ↦ absurd (none (position_or_len p xs) (omega arith) inside (passes_at_first p xs 0 inside))
      | inr outside ↦ rw (le-ltb (position_or_len p xs) (length xs) outside) refl
    ]
first_is p xs (Some k) is =
    let at : position_or_len p xs ≡ k = first_at p xs k is.0.high is.0.before is.1 in
    let inside : position_or_len p xs < length xs = omega (arith, at, is.0.high) in
    rw (lt-ltb (position_or_len p xs) (length xs) inside) (ap Some (sym at))
