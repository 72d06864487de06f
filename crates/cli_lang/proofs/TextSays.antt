-- What the text of a line says where its stamp is written in it.
use Rattle.std.proofs.Common.{ℕ, suc, ◌≡◌, ◌≢◌, ◌^◌, ◌<◌, ◌≤◌, Bool, true, false, List, [], ◌∷◌, ◌++◌, length, get_or, decimal, refl, sym, ap, ◌∙◌, arith, ne_eqb, length-append}
use Rattle.std.proofs.lemmas.Fmt.{decimal_is_IsNumeral}
use Rattle.std.proofs.lemmas.Str.Parse.{digit_at}
use Rattle.std.specs.List.{join_with_byte}
use Rattle.savi_kinds.specs.AddrOf.{begun_with}
use Rattle.cli_lang.specs.Words.{words_of}
use Rattle.cli_lang.specs.Arrivals.{Line, Says}
use Rattle.cli_lang.proofs.WordsFound.{some_word}
use Rattle.cli_lang.proofs.WordsJoined.{join_first, words_joined}

-- a number has no space
digits_apart : (n : ℕ) → n < 2 ^ 64 → (k : ℕ) → k < length (decimal n) → get_or (decimal n) k 0 ≢ 32
digits_apart n small k inside space =
    let (numeral, value) = decimal_is_IsNumeral n small in
    let digit = digit_at (decimal n) k numeral.1 inside in
    omega (arith, digit, space)

-- a word in front of a space
words_front : (word rest : List ℕ) → ((k : ℕ) → k < length word → get_or word k 0 ≢ 32) → words_of (word ++ (32 ∷ rest)) ≡ word ∷ words_of rest
words_front [] rest apart = refl
words_front (c ∷ word) rest apart =
    let other : c ≢ 32 = apart 0 (omega arith) in
    rw (ne_eqb c 32 other) (ap (begun_with c) (words_front word rest (λ k inside. apart (suc k) (omega arith))))

pub said_words : (text : List ℕ) (line : Line) → Says false text line → words_of text ≡ decimal line.stamp ∷ words_of line.command
said_words text line says = ap words_of says.0 ∙ words_front (decimal line.stamp) line.command (digits_apart line.stamp says.1)

-- a text of one word says nothing
pub one_word_says : (live : Bool) (text : List ℕ) → live ≡ false → words_of text ≡ text ∷ [] → (line : Line) → Says live text line → ⊥
one_word_says true text written one line says = cc
one_word_says false text written one line says =
    let both : text ∷ [] ≡ decimal line.stamp ∷ words_of line.command = sym one ∙ said_words text line says in
    omega (arith, ap length both, some_word line.command)

-- a first word that is no stamp
pub no_stamp_says : (live : Bool) (text word rest : List ℕ) → live ≡ false → words_of text ≡ word ∷ words_of rest → ((n : ℕ) → n < 2 ^ 64 → word ≢ decimal n) → (line : Line) → Says live text line → ⊥
no_stamp_says true text word rest written front none line says = cc
no_stamp_says false text word rest written front none line says =
    let both : word ∷ words_of rest ≡ decimal line.stamp ∷ words_of line.command = sym front ∙ said_words text line says in
    none line.stamp says.1 (let same : word ≡ decimal line.stamp = cc in same)

front_is : (text word rest : List ℕ) → words_of text ≡ word ∷ words_of rest → text ≡ word ++ (32 ∷ rest)
front_is text word rest front =
    sym (words_joined text) ∙ ap (join_with_byte 32) front ∙ join_first word (words_of rest) (some_word rest) ∙ ap (λ (l : List ℕ). word ++ (32 ∷ l)) (words_joined rest)

pub command_short : (text word rest : List ℕ) → words_of text ≡ word ∷ words_of rest → length rest ≤ length text
command_short text word rest front = omega (arith, ap length (front_is text word rest front), length-append word (32 ∷ rest))

pub stamp_says : (live : Bool) (text word rest command : List ℕ) (stamp : ℕ) → live ≡ false → words_of text ≡ word ∷ words_of rest → word ≡ decimal stamp → stamp < 2 ^ 64 → command ≡ rest → Says live text (record { stamp = stamp; command = command })
stamp_says true text word rest command stamp written front spelled small same = cc
stamp_says false text word rest command stamp written front spelled small same =
    (front_is text word rest front ∙ ap (λ (l : List ℕ). l ++ (32 ∷ rest)) spelled ∙ ap (λ (l : List ℕ). decimal stamp ++ (32 ∷ l)) (sym same), small)
