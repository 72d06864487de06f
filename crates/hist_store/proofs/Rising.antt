-- Numbers that rise, and one more behind them.
use Rattle.std.proofs.Common.{◌≡◌, ◌+◌, ◌-◌, ◌<◌, ℕ, List, [], ◌∷◌, ◌++◌, length, get_or, inl, inr, subst, arith, length-append}
use Rattle.std.specs.List.Sorted.{IsStrictlyIncreasing}
use Rattle.std.proofs.lemmas.Bool.{cases_lt}
use Rattle.std.proofs.lemmas.List.{get_or_append_left, get_or_at}
use Rattle.hist_store.specs.HeaderLines.{IsAbove}

-- a number of those that rise is above the ones in front of it
pub above_of : (ns : List ℕ) (n : ℕ) (more : List ℕ) → IsStrictlyIncreasing (ns ++ n ∷ more) → IsAbove ns n
above_of ns n more rise = λ some.
    let last = length ns - 1 in
    let size = length-append ns (n ∷ more) in
    let less = rise last (omega (arith, size, some)) in
    let left : get_or (ns ++ n ∷ more) last 0 ≡ get_or ns last 0 = get_or_append_left ns (n ∷ more) 0 last (omega (arith, some)) in
    let right : get_or (ns ++ n ∷ more) (last + 1) 0 ≡ n = get_or_at ns n more 0 (last + 1) (omega (arith, some)) in
    omega (arith, less, left, right)

last_of : (ns : List ℕ) (n k : ℕ) → length ns ≡ k + 1 → IsAbove ns n → get_or ns k 0 < n
last_of ns n k size above =
    let place : length ns - 1 ≡ k = omega (arith, size) in
    let some : 0 < length ns = omega (arith, size) in
    subst (λ (i : ℕ). get_or ns i 0 < n) place (above some)

pub rise_more : (ns : List ℕ) (n : ℕ) → IsStrictlyIncreasing ns → IsAbove ns n → IsStrictlyIncreasing (ns ++ n ∷ [])
rise_more ns n rise above = λ k within.
    let size = length-append ns (n ∷ []) in
    let here : k < length ns = omega (arith, size, within) in
    let left : get_or (ns ++ n ∷ []) k 0 ≡ get_or ns k 0 = get_or_append_left ns (n ∷ []) 0 k here in
    elim (cases_lt (k + 1) (length ns)) [
      | inl inside ↦
          let right : get_or (ns ++ n ∷ []) (k + 1) 0 ≡ get_or ns (k + 1) 0 = get_or_append_left ns (n ∷ []) 0 (k + 1) inside in
          let less = rise k inside in
          omega (arith, less, left, right)
      | inr over ↦
          let place : length ns ≡ k + 1 = omega (arith, here, over) in
          let right : get_or (ns ++ n ∷ []) (k + 1) 0 ≡ n = get_or_at ns n [] 0 (k + 1) place in
          let less = last_of ns n k place above in
          omega (arith, less, left, right)
    ]
