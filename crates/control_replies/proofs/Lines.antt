-- How long a text of lines is.
use Rattle.std.proofs.Common.{ℕ, ◌≡◌, ◌+◌, ◌*◌, ◌<◌, ◌≤◌, ◌^◌, List, [], ◌∷◌, ◌++◌, length, map, decimal, ap, ◌∙◌, refl, sym, arith}
use Rattle.std.proofs.lemmas.Fmt.{length-decimal-le, length-decimal-le_wide}
use Rattle.std.proofs.lemmas.List.{length-append, append_assoc}
use Rattle.std.specs.List.{AllByRecursion}
use Rattle.savi_kinds.specs.declared.port.Port.{Port}
use Rattle.savi_kinds.specs.Characters.{space, line_feed}
use Rattle.hist_store.specs.TextOfLines.{joined, lines_text}
use Rattle.hist_store.specs.PortTexts.{port_text}

-- a number of 65 bits has at most 20 digits
pub twenty_digits : (n : ℕ) → n < 2 ^ 65 → length (decimal n) ≤ 20
twenty_digits n fits = length-decimal-le_wide 20 n (omega arith) (omega (arith, fits)) (omega (arith, fits))

-- one of 63 bits has at most 19
pub nineteen_digits : (n : ℕ) → n < 2 ^ 63 → length (decimal n) ≤ 19
nineteen_digits n fits = length-decimal-le 19 n (omega arith) (omega (arith, fits)) (omega (arith, fits))

pub two_digits : (n : ℕ) → n < 100 → length (decimal n) ≤ 2
two_digits n small = length-decimal-le 2 n (omega arith) (omega (arith, small)) (omega (arith, small))

pub port_digits : (port : Port) → length (port_text port) ≤ 2
port_digits port = two_digits port.number (omega (arith, port.high))

-- the octets of fields, each with one behind it
abbrev pub sizes : List (List ℕ) → ℕ
sizes [] = 0
sizes (field ∷ fields) = length field + 1 + sizes fields

-- a line with its line feed
pub line_size : (field : List ℕ) (fields : List (List ℕ)) → length (joined (field ∷ fields) ++ line_feed ∷ []) ≡ sizes (field ∷ fields)
line_size field [] = omega (arith, length-append field (line_feed ∷ []))
line_size field (next ∷ fields) =
    let rest : List ℕ = joined (next ∷ fields) in
    omega (arith, line_size next fields, length-append rest (line_feed ∷ []), length-append field (space ∷ rest), length-append (field ++ space ∷ rest) (line_feed ∷ []))

pub lines_more : (lines more : List (List (List ℕ))) → lines_text (lines ++ more) ≡ lines_text lines ++ lines_text more
lines_more [] more = refl
lines_more (fields ∷ lines) more = ap (λ t. joined fields ++ line_feed ∷ t) (lines_more lines more) ∙ sym (append_assoc (joined fields) (line_feed ∷ lines_text lines) (lines_text more))

-- the lines of things, where each has a line of at most n octets
pub lines_size : {A : Type 0} (line : A → List (List ℕ)) (P : A → Type 0) (n : ℕ) (xs : List A) → ((x : A) → P x → length (lines_text (line x ∷ [])) ≤ n) → AllByRecursion P xs → length (lines_text (map line xs)) ≤ n * length xs
lines_size line P n [] bound each = omega arith
lines_size line P n (x ∷ xs) bound each =
    let one : length (lines_text (line x ∷ [])) ≤ n = bound x each.0 in
    let rest : length (lines_text (map line xs)) ≤ n * length xs = lines_size line P n xs bound each.1 in
    let both : length (lines_text (line x ∷ map line xs)) ≡ length (lines_text (line x ∷ [])) + length (lines_text (map line xs)) = ap length (lines_more (line x ∷ []) (map line xs)) ∙ length-append (lines_text (line x ∷ [])) (lines_text (map line xs)) in
    omega (arith, one, rest, both)
