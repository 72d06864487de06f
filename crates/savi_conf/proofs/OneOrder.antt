-- A list in strict order is determined by what it holds.
use Rattle.std.proofs.Common.{ℕ, zero, suc, ◌≡◌, ◌<◌, List, [], ◌∷◌, length, get_or, map, refl, sym, ap₂, ◌∙◌, subst, arith, inl, inr, ◌⊎◌}
use Rattle.std.specs.List.{All, AllPairs, Contains}
use Rattle.std.specs.List.Sorted.{IsPermutation}
use Rattle.std.proofs.lemmas.List.{get_or-map, length-map}
use Rattle.std.proofs.lemmas.List.Sorted.{IsPermutation-sym, IsPermutation-trans, Contains-permutation}
use Rattle.savi_kinds.proofs.Pairs.{AllPairs-head, AllPairs-tail}
use Rattle.savi_conf.specs.PlanOf.{SayInOrder}

-- an item is one of a list
abbrev IsIn : {X : Type 0} → X → List X → Type 0
IsIn z [] = ⊥
IsIn z (x ∷ xs) = (z ≡ x) ⊎ IsIn z xs

in_place : {X : Type 0} (xs : List X) (z : X) (k : ℕ) (d : X) → k < length xs → get_or xs k d ≡ z → IsIn z xs
in_place [] z k d inside is = absurd (omega (arith, inside))
in_place (x ∷ xs) z zero d inside is = inl (sym is)
in_place (x ∷ xs) z (suc k) d inside is = inr (in_place xs z k d (omega (arith, inside)) is)

contained : {X : Type 0} (xs : List X) (z : X) → IsIn z xs → Contains xs z
contained [] z inside = absurd inside
contained (x ∷ xs) z (inl same) = (0, omega arith, sym same)
contained (x ∷ xs) z (inr later) = let rest = contained xs z later in (suc rest.0, omega (arith, rest.1), rest.2)

-- what is in one is in the other
abbrev Holds : {X : Type 0} → List X → List X → Type 0
Holds {X} xs ys = (z : X) → IsIn z xs → IsIn z ys

holds_permuted : {X : Type 0} (xs ys : List X) → IsPermutation xs ys → Holds xs ys
holds_permuted xs ys permutation z inside =
    let there = Contains-permutation xs ys z permutation (contained xs z inside) in
    in_place ys z there.0 z there.1 there.2

above : {X : Type 0} (Before : X → X → Type 0) (x : X) (xs : List X) → All (Before x) xs → (z : X) → IsIn z xs → Before x z
above Before x xs all z inside =
    let there = contained xs z inside in
    subst (λ y. Before x y) there.2 (all there.0 z there.1)

-- where of two things not each is before the other
abbrev pub IsOneWay : {X : Type 0} → (X → X → Type 0) → Type 0
IsOneWay {X} Before = (x y : X) → Before x y → Before y x → ⊥

-- where all that is in a list is in another with the same least item, all behind the least is behind it
behind_least : {X : Type 0} (Before : X → X → Type 0) → IsOneWay Before → (x y : X) (xs ys : List X) → All (Before x) xs → x ≡ y → Holds (x ∷ xs) (y ∷ ys) → Holds xs ys
behind_least Before one_way x y xs ys all same holds z inside = rest (holds z (inr inside))
  where
    rest : (z ≡ y) ⊎ IsIn z ys → IsIn z ys
    rest (inr later) = later
    rest (inl first) =
        let more : Before x z = above Before x xs all z inside in
        let level : Before x x = subst (λ w. Before x w) (first ∙ sym same) more in
        absurd (one_way x x level level)

least_same : {X : Type 0} (Before : X → X → Type 0) → IsOneWay Before → (x y : X) (xs ys : List X) → All (Before x) xs → All (Before y) ys → (x ≡ y) ⊎ IsIn x ys → (y ≡ x) ⊎ IsIn y xs → x ≡ y
least_same Before one_way x y xs ys all all' (inl same) other = same
least_same Before one_way x y xs ys all all' (inr later) (inl same) = sym same
least_same Before one_way x y xs ys all all' (inr later) (inr later') = absurd (one_way x y (above Before x xs all y later') (above Before y ys all' x later))

rising_once : {X : Type 0} (Before : X → X → Type 0) → IsOneWay Before → (xs ys : List X) → AllPairs Before xs → AllPairs Before ys → Holds xs ys → Holds ys xs → xs ≡ ys
rising_once Before one_way [] [] rises rises' there back = refl
rising_once Before one_way [] (y ∷ ys) rises rises' there back = absurd (back y (inl refl))
rising_once Before one_way (x ∷ xs) [] rises rises' there back = absurd (there x (inl refl))
rising_once {X} Before one_way (x ∷ xs) (y ∷ ys) rises rises' there back =
    let all : All (Before x) xs = AllPairs-head Before x xs rises in
    let all' : All (Before y) ys = AllPairs-head Before y ys rises' in
    let same : x ≡ y = least_same Before one_way x y xs ys all all' (there x (inl refl)) (back y (inl refl)) in
    let rest : xs ≡ ys = rising_once Before one_way xs ys (AllPairs-tail Before x xs rises) (AllPairs-tail Before y ys rises') (behind_least Before one_way x y xs ys all same there) (behind_least Before one_way y x ys xs all' (sym same) back) in
    ap₂ (λ (a : X) (l : List X). a ∷ l) same rest

-- two orders of the same items that both rise
pub order_once : {X : Type 0} (Before : X → X → Type 0) → IsOneWay Before → (said xs ys : List X) → IsPermutation said xs → IsPermutation said ys → AllPairs Before xs → AllPairs Before ys → xs ≡ ys
order_once Before one_way said xs ys one other rises rises' =
    let there = IsPermutation-trans xs said ys (IsPermutation-sym said xs one) other in
    rising_once Before one_way xs ys rises rises' (holds_permuted xs ys there) (holds_permuted ys xs (IsPermutation-sym xs ys there))

-- what holds of each two images holds of what they are the images of
pub AllPairs-from_map : {X Y : Type 0} (R : Y → Y → Type 0) (f : X → Y) (xs : List X) → AllPairs R (map f xs) → AllPairs (λ x y. R (f x) (f y)) xs
AllPairs-from_map R f xs pairs = λ i j d before inside.
    let len : length (map f xs) ≡ length xs = length-map xs f in
    let first : get_or (map f xs) i (f d) ≡ f (get_or xs i d) = get_or-map f xs i d (f d) (omega (arith, before, inside)) in
    let second : get_or (map f xs) j (f d) ≡ f (get_or xs j d) = get_or-map f xs j d (f d) inside in
    subst (λ y. R y (f (get_or xs j d))) first (subst (λ y. R (get_or (map f xs) i (f d)) y) second (pairs i j (f d) before (omega (arith, len, inside))))

-- tables say one list of things, where each says one thing
pub said_once : {T A : Type 0} (Says : T → A → Type 0) → ((t : T) (a b : A) → Says t a → Says t b → a ≡ b) → (ts : List T) (xs ys : List A) → SayInOrder Says ts xs → SayInOrder Says ts ys → xs ≡ ys
said_once Says once ts [] [] one other = refl
said_once Says once [] (x ∷ xs) ys one other = absurd (omega (arith, one.count))
said_once Says once [] [] (y ∷ ys) one other = absurd (omega (arith, other.count))
said_once Says once (t ∷ ts) [] (y ∷ ys) one other = absurd (omega (arith, one.count))
said_once Says once (t ∷ ts) (x ∷ xs) [] one other = absurd (omega (arith, other.count))
said_once {T} {A} Says once (t ∷ ts) (x ∷ xs) (y ∷ ys) one other =
    let first : x ≡ y = once t x y (one.each 0 t x (omega arith)) (other.each 0 t y (omega arith)) in
    ap₂ (λ (a : A) (l : List A). a ∷ l) first (said_once Says once ts xs ys (later x xs one) (later y ys other))
  where
    later : (a : A) (rest : List A) → SayInOrder Says (t ∷ ts) (a ∷ rest) → SayInOrder Says ts rest
    later a rest said = record { count = omega (arith, said.count); each = λ k u b inside. said.each (suc k) u b (omega (arith, inside)) }
