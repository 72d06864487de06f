-- A line as its first field and the others behind it.
use Rattle.std.proofs.Common.{ℕ, ◌≡◌, ◌+◌, ◌<◌, List, [], ◌∷◌, ◌++◌, length, take, map, get_or, refl, sym, ap, ◌∙◌, append_assoc}
use Rattle.std.proofs.lemmas.List.{append-nil, map-append, take_more}
use Rattle.savi_kinds.specs.Characters.{space, line_feed}
use Rattle.hist_store.specs.TextOfLines.{joined, spaced, lines_text}

pub joined-spaced : (field : List ℕ) (fields : List (List ℕ)) → joined (field ∷ fields) ≡ field ++ spaced fields
joined-spaced field [] = sym (append-nil field)
joined-spaced field (next ∷ fields) = ap (λ t. field ++ space ∷ t) (joined-spaced next fields)

-- a line whose first three fields were written one behind another
pub joined_in_order : (a b c : List ℕ) (fields : List (List ℕ)) → ((a ++ space ∷ b) ++ space ∷ c) ++ spaced fields ≡ joined (a ∷ b ∷ c ∷ fields)
joined_in_order a b c fields = simp append_assoc (sym (joined-spaced a (b ∷ c ∷ fields)))

pub lines_text-append : (lines more : List (List (List ℕ))) → lines_text (lines ++ more) ≡ lines_text lines ++ lines_text more
lines_text-append [] more = refl
lines_text-append (fields ∷ lines) more = ap (λ t. joined fields ++ line_feed ∷ t) (lines_text-append lines more) ∙ sym (append_assoc (joined fields) (line_feed ∷ lines_text lines) (lines_text more))

-- more lines behind those that were written
pub written_more : (old items new : List ℕ) (lines more : List (List (List ℕ))) → items ≡ old ++ lines_text lines → new ≡ items ++ lines_text more → new ≡ old ++ lines_text (lines ++ more)
written_more old items new lines more was added =
    added ∙ ap (λ t. t ++ lines_text more) was ∙ append_assoc old (lines_text lines) (lines_text more) ∙ sym (ap (λ t. old ++ t) (lines_text-append lines more))

-- the lines of the items up to the next one
pub written_each : {A : Type 0} (line : A → List (List ℕ)) (xs : List A) (i : ℕ) (d : A) (old items new : List ℕ) → i < length xs → items ≡ old ++ lines_text (map line (take i xs)) → new ≡ items ++ lines_text (line (get_or xs i d) ∷ []) → new ≡ old ++ lines_text (map line (take (i + 1) xs))
written_each line xs i d old items new within was added =
    let more : take (i + 1) xs ≡ take i xs ++ get_or xs i d ∷ [] = take_more xs i d within in
    written_more old items new (map line (take i xs)) (line (get_or xs i d) ∷ []) was added
    ∙ ap (λ lines. old ++ lines_text lines) (sym (map-append line (take i xs) (get_or xs i d ∷ [])) ∙ sym (ap (map line) more))

-- the same where the item is known by itself
pub written_next : {A : Type 0} (line : A → List (List ℕ)) (xs : List A) (i : ℕ) (x : A) (old items new : List ℕ) → i < length xs → x ≡ get_or xs i x → items ≡ old ++ lines_text (map line (take i xs)) → new ≡ items ++ lines_text (line x ∷ []) → new ≡ old ++ lines_text (map line (take (i + 1) xs))
written_next line xs i x old items new within is was added =
    written_each line xs i x old items new within was (added ∙ ap (λ y. items ++ lines_text (line y ∷ [])) is)

-- the parts of a header, one behind another
pub header_in_order : (words limits times ports prefixes : List (List (List ℕ))) (first second third fourth last : List ℕ) → first ≡ lines_text words → second ≡ first ++ lines_text limits → third ≡ second ++ lines_text times → fourth ≡ third ++ lines_text ports → last ≡ fourth ++ lines_text prefixes → last ≡ lines_text (words ++ limits ++ times ++ ports ++ prefixes)
header_in_order words limits times ports prefixes first second third fourth last a b c d e =
    let two = written_more [] first second words limits a b in
    let three = written_more [] second third (words ++ limits) times two c in
    let four = written_more [] third fourth (words ++ limits ++ times) ports three d in
    written_more [] fourth last (words ++ limits ++ times ++ ports) prefixes four e
