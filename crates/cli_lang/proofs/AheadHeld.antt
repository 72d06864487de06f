-- The octets that are held: those from one place of the buffer to another.
use Rattle.std.proofs.Common.{ℕ, ◌≡◌, ◌≤◌, List, [], ◌∷◌, length, take, drop, refl, ap, arith, length-drop, length-take-le}

none_of_none : (xs : List ℕ) → length xs ≡ 0 → xs ≡ []
none_of_none [] none = refl
none_of_none (x ∷ xs) none = absurd (omega arith)

pub held_none : (at end : ℕ) (buffer : List ℕ) → end ≤ length buffer → at ≡ end → drop at (take end buffer) ≡ []
held_none at end buffer within same =
    none_of_none (drop at (take end buffer)) (omega (arith, same, length-drop at (take end buffer), length-take-le end buffer within))

pub none_held : (at end : ℕ) (buffer : List ℕ) → at ≤ end → end ≤ length buffer → drop at (take end buffer) ≡ [] → at ≡ end
none_held at end buffer order within none =
    omega (arith, order, ap length none, length-drop at (take end buffer), length-take-le end buffer within)
