-- A session's ends are those of its replay.
use Rattle.std.proofs.Common.{◌≡◌, ℕ, List, ◌++◌, length, take, drop, ap, ◌∙◌, subst, sym, arith, append-nil}
use Rattle.std.proofs.lemmas.List.{take_all, drop_all}

-- a vector whose elements were all written holds them
all_written : {X : Type 0} (n : ℕ) (old new : List X) → length new ≡ length old → n ≡ length old → take n (new ++ drop (length new) old) ≡ new
all_written {X} n old new size count =
    let none = drop_all (length new) old (omega arith) in
    ap (λ (l : List X). take n (new ++ l)) none ∙ ap (λ (l : List X). take n l) (append-nil new) ∙ take_all n new (omega arith)

-- so what holds of the slices before and after holds of the vectors
pub of_vectors : {X : Type 0} (P : List X → List X → Type 0) (n : ℕ) (given old new : List X) → old ≡ given → n ≡ length old → length new ≡ length old → P old new → P given (take n (new ++ drop (length new) given))
of_vectors {X} P n given old new same count size holds =
    let sizes = ap (λ (l : List X). length l) same in
    subst (λ (l : List X). P given l) (sym (all_written n given new (size ∙ sizes) (count ∙ sizes))) (subst (λ (l : List X). P l new) same holds)
