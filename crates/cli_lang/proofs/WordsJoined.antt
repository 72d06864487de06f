-- The words of a line, joined again.
use Rattle.std.proofs.Common.{ℕ, ◌≡◌, ◌<◌, length, arith, List, [], ◌∷◌, ◌++◌, refl, sym, ap, ◌∙◌, eq-eqb, ne_eqb, inl, inr}
use Rattle.std.proofs.lemmas.Bool.{cases_eq}
use Rattle.std.specs.List.{join_with_byte}
use Rattle.cli_lang.proofs.WordsFound.{some_word}
use Rattle.savi_kinds.specs.AddrOf.{begun_with}
use Rattle.cli_lang.specs.Words.{words_of}

-- an octet at the front of the first word stands at the front of the line
begun_line : (c : ℕ) (words : List (List ℕ)) → join_with_byte 32 (begun_with c words) ≡ c ∷ join_with_byte 32 words
begun_line c [] = refl
begun_line c (word ∷ []) = refl
begun_line c (word ∷ next ∷ words) = refl

-- a word in front of others
pub join_first : (word : List ℕ) (words : List (List ℕ)) → 0 < length words → join_with_byte 32 (word ∷ words) ≡ word ++ (32 ∷ join_with_byte 32 words)
join_first word [] some = absurd (omega arith)
join_first word (next ∷ words) some = refl

pub words_joined : (line : List ℕ) → join_with_byte 32 (words_of line) ≡ line
words_joined [] = refl
words_joined (c ∷ line) =
    elim (cases_eq c 32) [
      | inl space ↦ rw (eq-eqb c 32 space) (join_first [] (words_of line) (some_word line) ∙ ap (λ (l : List ℕ). 32 ∷ l) (words_joined line) ∙ ap (λ (b : ℕ). b ∷ line) (sym space))
      | inr other ↦ rw (ne_eqb c 32 other) (begun_line c (words_of line) ∙ ap (λ (l : List ℕ). c ∷ l) (words_joined line))
    ]
