-- What was taken off behind a list.
use Rattle.std.proofs.Common.{◌≡◌, ℕ, ◌+◌, List, [], ◌∷◌, ◌++◌, length, Option, None, Some, refl, ap, subst, ◌∙◌}
use Rattle.std.specs.Option.{option_to_list}

pub popped : {X : Type 0} (xs rest : List X) (o : Option X) (x : X) → xs ≡ rest ++ option_to_list o → o ≡ Some x → xs ≡ rest ++ x ∷ []
popped {X} xs rest o x items is = subst (λ (p : Option X). xs ≡ rest ++ option_to_list p) is items

pub popped_len : {X : Type 0} (n m : ℕ) (o : Option X) (x : X) → n + length (option_to_list o) ≡ m → o ≡ Some x → n + 1 ≡ m
popped_len {X} n m o x len is = subst (λ (p : Option X). n + length (option_to_list p) ≡ m) is len

-- nothing was taken off
pub none_if : {X : Type 0} (o : Option X) → ((x : X) → o ≡ Some x → ⊥) → o ≡ None
none_if None not = refl
none_if (Some x) not = absurd (not x refl)

-- two were put behind others
pub two_behind : {X : Type 0} (old mid new : List X) (x y : X) → mid ≡ old ++ x ∷ [] → new ≡ mid ++ y ∷ [] → new ≡ (old ++ x ∷ []) ++ y ∷ []
two_behind {X} old mid new x y one two = two ∙ ap (λ (l : List X). l ++ y ∷ []) one
