-- Numbers that rise, from one on.
use Rattle.std.proofs.Common.{ℕ, suc, ◌+◌, ◌<◌, ◌≤◌, ◌≡◌, List, [], ◌∷◌, length, get_or, subst, arith}
use Rattle.std.specs.List.Sorted.{IsStrictlyIncreasing}

-- they rise, from this one on
abbrev pub AreFrom : ℕ → List ℕ → Type 0
AreFrom from [] = Unit {0}
AreFrom from (n ∷ ns) = (from ≤ n) × AreFrom (n + 1) ns

-- what is strictly increasing rises
pub increasing_from : (from : ℕ) (ns : List ℕ) → IsStrictlyIncreasing ns → (0 < length ns → from ≤ get_or ns 0 0) → AreFrom from ns
increasing_from from [] rising first = tt
increasing_from from (n ∷ ns) rising first = (first (omega arith), increasing_from (n + 1) ns rest (next ns rising))
  where
    rest : IsStrictlyIncreasing ns
    rest k inside =
        let same : suc k + 1 ≡ suc (k + 1) = omega arith in
        subst (λ (i : ℕ). get_or (n ∷ ns) (suc k) 0 < get_or (n ∷ ns) i 0) same (rising (suc k) (omega (arith, inside)))

    next : (ms : List ℕ) → IsStrictlyIncreasing (n ∷ ms) → 0 < length ms → n + 1 ≤ get_or ms 0 0
    next [] more some = absurd (omega (arith, some))
    next (m ∷ ms) more some = let up = more 0 (omega arith) in omega (arith, up)
