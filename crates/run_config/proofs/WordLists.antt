-- Lists of two and of three words.
use Rattle.std.proofs.Common.{◌≡◌, ℕ, List, [], ◌∷◌, map, length, get_or, refl, arith, ap, sym, ◌∙◌}

-- a list of two is its two elements
pub map-two : {X : Type 0} (f : X → List ℕ) (ws : List X) (a b : X) → length ws ≡ 2 → a ≡ get_or ws 0 a → b ≡ get_or ws 1 b → map f ws ≡ f a ∷ f b ∷ []
map-two f [] a b two first second = absurd (omega arith)
map-two f (x ∷ []) a b two first second = absurd (omega arith)
map-two f (x ∷ y ∷ []) a b two first second = rw (first, second) refl
map-two f (x ∷ y ∷ z ∷ ws) a b two first second = absurd (omega arith)

abbrev head_or : List ℕ → List (List ℕ) → List ℕ
head_or other [] = other
head_or other (w ∷ ws) = w

-- the first of two words is that of the form
pub heads_form : (words : List (List ℕ)) (form file word : List ℕ) → words ≡ form ∷ file ∷ [] → ((x : List ℕ) × (words ≡ word ∷ x ∷ [])) → form ≡ word
heads_form words form file word is found = ap (head_or word) (sym is ∙ found.1)

-- a list of three is its three elements
pub map-three : {X : Type 0} (f : X → List ℕ) (ws : List X) (a b c : X) → length ws ≡ 3 → a ≡ get_or ws 0 a → b ≡ get_or ws 1 b → c ≡ get_or ws 2 c → map f ws ≡ f a ∷ f b ∷ f c ∷ []
map-three f [] a b c three first second third = absurd (omega arith)
map-three f (x ∷ []) a b c three first second third = absurd (omega arith)
map-three f (x ∷ y ∷ []) a b c three first second third = absurd (omega arith)
map-three f (x ∷ y ∷ z ∷ []) a b c three first second third = rw (first, second, third) refl
map-three f (x ∷ y ∷ z ∷ w ∷ ws) a b c three first second third = absurd (omega arith)
