-- The first word of a line, and those behind it.
use Rattle.std.proofs.Common.{ℕ, suc, ◌⊎◌, ◌≡◌, ◌≤◌, ◌==◌, ◌+◌, ◌-◌, ◌<◌, List, [], ◌∷◌, Bool, true, false, Some, None, if◌then◌else◌, subst, length, take, drop, refl, sym, ap, ap₂, ◌∙◌, arith, length-drop, eq-eqb, ne_eqb, lt-ltb, le-ltb, inl, inr}
use Rattle.std.proofs.lemmas.Bool.{cases_eq, cases_lt}
use Rattle.std.proofs.lemmas.Option.{none-some}
use Rattle.std.proofs.lemmas.List.{take_all}
use Rattle.std.specs.List.{position, position_or_len}
use Rattle.savi_kinds.specs.AddrOf.{begun_with}
use Rattle.cli_lang.specs.Words.{words_of}

-- a line with no space is one word
only_word : (line : List ℕ) → length line < position_or_len (λ c. c == 32) line + 1 → words_of line ≡ line ∷ []
only_word [] whole = refl
only_word (c ∷ line) whole =
    elim (cases_eq c 32) [
      | inl space ↦ let here : length (c ∷ line) < 0 + 1 = rw (eq-eqb c 32 space) at whole in absurd (omega arith)
      | inr other ↦
          let later : length (c ∷ line) < (1 + position_or_len (λ c. c == 32) line) + 1 = rw (ne_eqb c 32 other) at whole in
          rw (ne_eqb c 32 other) (ap (begun_with c) (only_word line (omega arith)))
    ]

one_further : (c n : ℕ) (line : List ℕ) → begun_with c (take n line ∷ words_of (drop (n + 1) line)) ≡ take (1 + n) (c ∷ line) ∷ words_of (drop (1 + n + 1) (c ∷ line))
one_further c n line =
    let one : suc n ≡ 1 + n = omega arith in
    let two : suc (n + 1) ≡ 1 + n + 1 = omega arith in
    ap₂ (λ (a b : ℕ). take a (c ∷ line) ∷ words_of (drop b (c ∷ line))) one two

-- the word in front of the first space
front_word : (line : List ℕ) → position_or_len (λ c. c == 32) line < length line → words_of line ≡ take (position_or_len (λ c. c == 32) line) line ∷ words_of (drop (position_or_len (λ c. c == 32) line + 1) line)
front_word [] inside = absurd (omega arith)
front_word (c ∷ line) inside =
    elim (cases_eq c 32) [
      | inl space ↦ rw (eq-eqb c 32 space) refl
      | inr other ↦
          let later : 1 + position_or_len (λ c. c == 32) line < length (c ∷ line) = rw (ne_eqb c 32 other) at inside in
          let n = position_or_len (λ b. b == 32) line in
          let word : words_of line ≡ take n line ∷ words_of (drop (n + 1) line) = front_word line (omega arith) in
          rw (ne_eqb c 32 other) (ap (begun_with c) word ∙ one_further c n line)
    ]

pub no_space : (line : List ℕ) → position (λ c. c == 32) line ≡ None → words_of line ≡ line ∷ []
no_space line none =
    elim (cases_lt (position_or_len (λ c. c == 32) line) (length line)) [
      | inl inside ↦ absurd (none-some _ (sym none ∙ found inside))
      | inr outside ↦ only_word line (omega arith)
    ]
  where
    found : position_or_len (λ c. c == 32) line < length line → position (λ c. c == 32) line ≡ Some (position_or_len (λ c. c == 32) line)
    found inside = rw (lt-ltb (position_or_len (λ c. c == 32) line) (length line) inside) refl

-- the list behind a place, as a range up to the end
behind_is : (line : List ℕ) (n : ℕ) → take (length line - n) (drop n line) ≡ drop n line
behind_is line n = take_all (length line - n) (drop n line) (omega (arith, length-drop n line))

pub at_space : (line : List ℕ) (n : ℕ) → position (λ c. c == 32) line ≡ Some n → words_of line ≡ take n line ∷ words_of (take (length line - (n + 1)) (drop (n + 1) line))
at_space line n found =
    let first = position_or_len (λ c. c == 32) line in
    elim (cases_lt first (length line)) [
      | inr outside ↦ absurd (none-some n (sym (lost outside) ∙ found))
      | inl inside ↦
          let some : Some first ≡ Some n = sym (held inside) ∙ found in
          let same : first ≡ n = cc in
          rw behind_is (subst (λ (k : ℕ). words_of line ≡ take k line ∷ words_of (drop (k + 1) line)) same (front_word line inside))
    ]
  where
    held : position_or_len (λ c. c == 32) line < length line → position (λ c. c == 32) line ≡ Some (position_or_len (λ c. c == 32) line)
    held inside = rw (lt-ltb (position_or_len (λ c. c == 32) line) (length line) inside) refl

    lost : length line ≤ position_or_len (λ c. c == 32) line → position (λ c. c == 32) line ≡ None
    lost outside = rw (le-ltb (position_or_len (λ c. c == 32) line) (length line) outside) refl

-- a line is one word, or a first word and others
pub word_or_words : (line : List ℕ) → (words_of line ≡ line ∷ []) ⊎ ((word : List ℕ) × (rest : List ℕ) × (words_of line ≡ word ∷ words_of rest))
word_or_words line =
    let first = position_or_len (λ c. c == 32) line in
    elim (cases_lt first (length line)) [
      | inl inside ↦ inr (take first line, drop (first + 1) line, front_word line inside)
      | inr outside ↦ inl (only_word line (omega arith))
    ]

-- a line has a word
pub some_word : (line : List ℕ) → 0 < length (words_of line)
some_word [] = omega arith
some_word (c ∷ line) = begun c (c == 32) (words_of line)
  where
    begun : (b : ℕ) (here : Bool) (words : List (List ℕ)) → 0 < length (if here then [] ∷ words else begun_with b words)
    begun b true words = omega arith
    begun b false [] = omega arith
    begun b false (word ∷ words) = omega arith

pub four_words : (all behind behind' : List (List ℕ)) (first second third rest : List ℕ) → all ≡ first ∷ behind → behind ≡ second ∷ behind' → behind' ≡ third ∷ words_of rest → 3 < length all
four_words all behind behind' first second third rest one two three =
    omega (arith, ap length one, ap length two, ap length three, some_word rest)
