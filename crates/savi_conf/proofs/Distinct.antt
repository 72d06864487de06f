-- Different things are no more than those among which they are.
use Rattle.std.proofs.Common.{ℕ, ◌≡◌, ◌≢◌, ◌+◌, ◌-◌, ◌<◌, ◌≤◌, List, [], ◌∷◌, length, get_or, remove, sym, ◌∙◌, arith, inl, inr}
use Rattle.std.specs.List.{All, AllPairs, Contains}
use Rattle.std.proofs.lemmas.Bool.{cases_order}
use Rattle.std.proofs.lemmas.List.{get_or_default}
use Rattle.std.proofs.lemmas.List.Edits.{get_or-remove_above, get_or-remove_below, length-remove}
use Rattle.std.proofs.lemmas.List.Elements.{All-head, All-tail}
use Rattle.savi_kinds.proofs.Pairs.{AllPairs-head, AllPairs-tail}

-- another thing is still there where one was taken away
still_there : {X : Type 0} (ys : List X) (x z : X) (k : ℕ) → k < length ys → get_or ys k x ≡ x → x ≢ z → Contains ys z → Contains (remove ys k) z
still_there ys x z k within is other (j, inside, there) =
    let size : length (remove ys k) + 1 ≡ length ys = length-remove ys k within in
    elim (cases_order j k) [
      | inl same ↦ absurd (other (sym is ∙ get_or_default ys k x z within ∙ rw same at there))
      | inr (inl less) ↦ (j, omega (arith, less, within, size), get_or-remove_below ys k z j less within ∙ there)
      | inr (inr more) ↦
          let back : (j - 1) + 1 ≡ j = omega (arith, more) in
          (j - 1, omega (arith, more, inside, size), get_or-remove_above ys k z (j - 1) (omega (arith, more)) within ∙ rw back there)
    ]

pub different_among : {X : Type 0} (xs ys : List X) → AllPairs (λ x y. x ≢ y) xs → All (Contains ys) xs → length xs ≤ length ys
different_among [] ys different among = omega arith
different_among {X} (x ∷ xs) ys different among =
    let (k, within, is) = All-head (Contains ys) x xs among in
    let others : All (λ z. x ≢ z) xs = AllPairs-head (λ a b. a ≢ b) x xs different in
    let left : All (Contains (remove ys k)) xs =
    λ i d inside. still_there ys x (get_or xs i d) k within is (others i d inside) (All-tail (Contains ys) x xs among i d inside) in
    let fewer : length xs ≤ length (remove ys k) = different_among xs (remove ys k) (AllPairs-tail (λ a b. a ≢ b) x xs different) left in
    omega (arith, fewer, length-remove ys k within)
