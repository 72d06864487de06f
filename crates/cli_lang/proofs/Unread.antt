-- A source isn't read where the octets that are held decide the line.
use Rattle.std.proofs.Common.{ℕ, suc, ◌≡◌, ◌≢◌, ◌⊎◌, ◌≤◌, List, [], ◌∷◌, ◌++◌, length, length-append, sym, ap, ◌∙◌, subst, refl, arith, append_assoc, append-nil, inl, inr}
use Rattle.cli_lang.specs.Arrivals.{HasNoFeed}
use Rattle.cli_lang.specs.Takings.{DecideLine}
use Rattle.cli_lang.proofs.LineTaken.{one_behind}

-- what was taken so far came of the octets that were held, and the source is as it was; or these are all taken
abbrev pub Unread : {X : Type 0} → X → X → List ℕ → List ℕ → List ℕ → Type 0
Unread source initial first text ahead =
    ((source ≡ initial) × (first ≡ text ++ ahead)) ⊎ ((rest : List ℕ) × (text ≡ first ++ rest))

pub unread_more : {X : Type 0} (now before initial : X) (first text ahead new : List ℕ) (octet : ℕ) → Unread before initial first text ahead → (ahead ≢ [] → (now ≡ before) × (ahead ≡ octet ∷ new)) → Unread now initial first (text ++ (octet ∷ [])) new
unread_more now before initial first text [] new octet (inl was) held = inr (octet ∷ [], ap (λ (l : List ℕ). l ++ (octet ∷ [])) (sym (was.1 ∙ append-nil text)))
unread_more now before initial first text (x ∷ xs) new octet (inl was) held =
    let step = held (λ none. cc) in
    inl (step.0 ∙ was.0, one_behind text new octet first (was.1 ∙ ap (λ (l : List ℕ). text ++ l) step.1))
unread_more now before initial first text ahead new octet (inr passed) held =
    inr (passed.0 ++ (octet ∷ []), ap (λ (l : List ℕ). l ++ (octet ∷ [])) passed.1 ∙ append_assoc first passed.0 (octet ∷ []))

feed_inside : (front rest : List ℕ) → HasNoFeed (front ++ (10 ∷ rest)) → ⊥
feed_inside [] rest none = none 0 0 (omega arith) refl
feed_inside (x ∷ front) rest none = feed_inside front rest (λ k d inside. none (suc k) d (omega (arith, inside)))

-- octets of a line that isn't whole decide none
undecided : (first rest text : List ℕ) → HasNoFeed text → length text ≤ 120 → text ≡ first ++ rest → DecideLine first → ⊥
undecided first rest text apart short is (inl line) =
    let front = line.0 in
    let split : text ≡ front ++ (10 ∷ (line.1 ++ rest)) = is ∙ ap (λ (l : List ℕ). l ++ rest) line.2 ∙ append_assoc front (10 ∷ line.1) rest in
    feed_inside front (line.1 ++ rest) (subst HasNoFeed split apart)
undecided first rest text apart short is (inr long) = omega (arith, long, short, ap length is, length-append first rest)

pub unread_so : {X : Type 0} (now before initial : X) (first text ahead : List ℕ) → HasNoFeed text → length text ≤ 120 → Unread before initial first text ahead → (ahead ≢ [] → now ≡ before) → DecideLine first → now ≡ initial
unread_so now before initial first text [] apart short (inl was) held decides = absurd (undecided first [] text apart short (sym (append-nil text) ∙ sym was.1 ∙ sym (append-nil first)) decides)
unread_so now before initial first text (x ∷ xs) apart short (inl was) held decides = held (λ none. cc) ∙ was.0
unread_so now before initial first text ahead apart short (inr passed) held decides = absurd (undecided first passed.0 text apart short passed.1 decides)
