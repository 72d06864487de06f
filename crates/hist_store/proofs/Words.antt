-- Fields and lines as words: a text of lines has one list of lines, and a line one list of fields.
use Rattle.std.proofs.Common.{◌≡◌, ◌≢◌, ℕ, zero, suc, ◌/◌, ◌%◌, ◌<◌, ◌≤◌, ◌==◌, nat_lt, Bool, true, false, ◌&&◌, if◌then◌else◌, List, [], ◌∷◌, ◌++◌, length, decimal, slice_index, refl, ap, sym, arith, All}
use Rattle.std.proofs.lemmas.Bool.Decides.{nat_tests}
use Rattle.std.proofs.lemmas.Bool.{and_parts}
use Rattle.std.proofs.lemmas.List.Elements.{All-head, All-tail}
use Rattle.std.specs.List.{join_with_byte}
use Rattle.std.specs.Fmt.{digits, digits_onto, digit_glyph}
use Rattle.hist_store.specs.TextOfLines.{joined, lines_text}

-- each octet is above the space: there is neither a space nor a line feed
abbrev pub IsWord : List ℕ → Type 0
IsWord [] = Unit {0}
IsWord (x ∷ xs) = (32 < x) × IsWord xs

-- the same as a test, which computes
abbrev pub is_word : List ℕ → Bool
is_word [] = true
is_word (x ∷ xs) = nat_lt 32 x && is_word xs

abbrev pub IsWords : List (List ℕ) → Type 0
IsWords [] = Unit {0}
IsWords (w ∷ ws) = IsWord w × IsWords ws

-- a line has a field
abbrev pub IsLine : List (List ℕ) → Type 0
IsLine [] = ⊥
IsLine (w ∷ ws) = IsWord w × IsWords ws

abbrev pub IsLines : List (List (List ℕ)) → Type 0
IsLines [] = Unit {0}
IsLines (l ∷ ls) = IsLine l × IsLines ls

-- none of the octets is this one
abbrev pub Avoids : ℕ → List ℕ → Type 0
Avoids c [] = Unit {0}
Avoids c (x ∷ xs) = (x ≢ c) × Avoids c xs

pub word_of : (t : List ℕ) → is_word t ≡ true → IsWord t
word_of [] is = tt
word_of (x ∷ xs) is = let parts = and_parts (nat_lt 32 x) (is_word xs) is in (grind (arith, nat_tests, parts.0), word_of xs parts.1)

pub word_all : (t : List ℕ) → All (λ octet. 32 < octet) t → IsWord t
word_all [] all = tt
word_all (x ∷ xs) all = (All-head (λ octet. 32 < octet) x xs all, word_all xs (All-tail (λ octet. 32 < octet) x xs all))

pub avoids_all : (c : ℕ) (t : List ℕ) → All (λ octet. octet ≢ c) t → Avoids c t
avoids_all c [] all = tt
avoids_all c (x ∷ xs) all = (All-head (λ octet. octet ≢ c) x xs all, avoids_all c xs (All-tail (λ octet. octet ≢ c) x xs all))

pub word_append : (s t : List ℕ) → IsWord s → IsWord t → IsWord (s ++ t)
word_append [] t a b = b
word_append (x ∷ s) t a b = (a.0, word_append s t a.1 b)

pub word_avoids : (c : ℕ) (t : List ℕ) → c ≤ 32 → IsWord t → Avoids c t
word_avoids c [] low is = tt
word_avoids c (x ∷ xs) low is = let above : 32 < x = is.0 in (λ same. omega arith, word_avoids c xs low is.1)

pub avoids_append : (c : ℕ) (s t : List ℕ) → Avoids c s → Avoids c t → Avoids c (s ++ t)
avoids_append c [] t a b = b
avoids_append c (x ∷ s) t a b = (a.0, avoids_append c s t a.1 b)

-- the first place of an octet parts a text in one way
pub parted : (c : ℕ) (a b s t : List ℕ) → Avoids c a → Avoids c b → a ++ c ∷ s ≡ b ++ c ∷ t → (a ≡ b) × (s ≡ t)
parted c [] [] s t p q e = let tails : s ≡ t = cc in (refl, tails)
parted c [] (y ∷ b) s t p q e = let heads : y ≡ c = cc in absurd (q.0 heads)
parted c (x ∷ a) [] s t p q e = let heads : x ≡ c = cc in absurd (p.0 heads)
parted c (x ∷ a) (y ∷ b) s t p q e =
    let heads : x ≡ y = cc in
    let tails : a ++ c ∷ s ≡ b ++ c ∷ t = cc in
    let rest = parted c a b s t p.1 q.1 tails in
    (cc (rest.0, heads), rest.1)

not_parted : (c : ℕ) (w a s : List ℕ) → Avoids c w → w ≡ a ++ c ∷ s → ⊥
not_parted c [] [] s p e = cc
not_parted c [] (y ∷ a) s p e = cc
not_parted c (x ∷ w) [] s p e = let heads : x ≡ c = cc in p.0 heads
not_parted c (x ∷ w) (y ∷ a) s p e = let tails : w ≡ a ++ c ∷ s = cc in not_parted c w a s p.1 tails

-- no line feed stands in a line
pub joined_avoids : (ws : List (List ℕ)) → IsLine ws → Avoids 10 (joined ws)
joined_avoids [] is = absurd is
joined_avoids (w ∷ []) is = word_avoids 10 w (omega arith) is.0
joined_avoids (w ∷ v ∷ ws) is =
    avoids_append 10 w (32 ∷ joined (v ∷ ws)) (word_avoids 10 w (omega arith) is.0) (λ same. omega arith, joined_avoids (v ∷ ws) is.1)

pub joined_same : (ws vs : List (List ℕ)) → IsLine ws → IsLine vs → joined ws ≡ joined vs → ws ≡ vs
joined_same [] vs p q e = absurd p
joined_same (w ∷ ws) [] p q e = absurd q
joined_same (w ∷ []) (v ∷ []) p q e = ap (λ (t : List ℕ). t ∷ []) e
joined_same (w ∷ []) (v ∷ v' ∷ vs) p q e = absurd (not_parted 32 w v (joined (v' ∷ vs)) (word_avoids 32 w (omega arith) p.0) e)
joined_same (w ∷ w' ∷ ws) (v ∷ []) p q e = absurd (not_parted 32 v w (joined (w' ∷ ws)) (word_avoids 32 v (omega arith) q.0) (sym e))
joined_same (w ∷ w' ∷ ws) (v ∷ v' ∷ vs) p q e =
    let parts = parted 32 w v (joined (w' ∷ ws)) (joined (v' ∷ vs)) (word_avoids 32 w (omega arith) p.0) (word_avoids 32 v (omega arith) q.0) e in
    let rest = joined_same (w' ∷ ws) (v' ∷ vs) p.1 q.1 parts.1 in
    cc (parts.0, rest)

pub lines_same : (ls ms : List (List (List ℕ))) → IsLines ls → IsLines ms → lines_text ls ≡ lines_text ms → ls ≡ ms
lines_same [] [] p q e = refl
lines_same [] (m ∷ ms) p q e = absurd (not_parted 10 [] (joined m) (lines_text ms) tt e)
lines_same (l ∷ ls) [] p q e = absurd (not_parted 10 [] (joined l) (lines_text ls) tt (sym e))
lines_same (l ∷ ls) (m ∷ ms) p q e =
    let parts = parted 10 (joined l) (joined m) (lines_text ls) (lines_text ms) (joined_avoids l p.0) (joined_avoids m q.0) e in
    let first : l ≡ m = joined_same l m p.0 q.0 parts.0 in
    let rest : ls ≡ ms = lines_same ls ms p.1 q.1 parts.1 in
    cc

pub lines_append : (ls ms : List (List (List ℕ))) → IsLines ls → IsLines ms → IsLines (ls ++ ms)
lines_append [] ms p q = q
lines_append (l ∷ ls) ms p q = (p.0, lines_append ls ms p.1 q)

-- numbers in decimal

glyph_above : (d : ℕ) → 32 < digit_glyph false d
glyph_above d = grind (arith, nat_tests)

onto_word_at : (k n : ℕ) (acc : List ℕ) (b : Bool) → IsWord (digits_onto k 10 false (n / 10) (digit_glyph false (n % 10) ∷ acc)) → IsWord acc
    → IsWord (if b then digit_glyph false (n % 10) ∷ acc else digits_onto k 10 false (n / 10) (digit_glyph false (n % 10) ∷ acc))
onto_word_at k n acc true more is = (glyph_above (n % 10), is)
onto_word_at k n acc false more is = more

onto_word : (k n : ℕ) (acc : List ℕ) → IsWord acc → IsWord (digits_onto k 10 false n acc)
onto_word zero n acc is = is
onto_word (suc k) n acc is = onto_word_at k n acc (n / 10 == 0) (onto_word k (n / 10) (digit_glyph false (n % 10) ∷ acc) (glyph_above (n % 10), is)) is

pub word_decimal : (n : ℕ) → IsWord (decimal n)
unfolding digits
word_decimal n = onto_word 64 n [] tt

pub word_joined : (c : ℕ) (ws : List (List ℕ)) → 32 < c → IsWords ws → IsWord (join_with_byte c ws)
word_joined c [] high is = tt
word_joined c (w ∷ []) high is = is.0
word_joined c (w ∷ v ∷ ws) high is = word_append w (c ∷ join_with_byte c (v ∷ ws)) is.0 (high, word_joined c (v ∷ ws) high is.1)

-- an octet of a word
pub word_at : (t : List ℕ) (i : ℕ) → IsWord t → i < length t → 32 < slice_index t i
word_at [] i is inside = absurd (omega arith)
word_at (x ∷ xs) zero is inside = is.0
word_at (x ∷ xs) (suc i) is inside = word_at xs i is.1 (omega arith)
