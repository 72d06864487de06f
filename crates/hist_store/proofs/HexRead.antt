-- Octets, as they are read of their digits.
use Rattle.std.proofs.Common.{ℕ, zero, suc, ◌≡◌, ◌+◌, ◌*◌, ◌/◌, ◌%◌, ◌<◌, ◌≤◌, ◌==◌, ◌&&◌, Bool, true, false, List, [], ◌∷◌, ◌++◌, length, take, get_or, slice_index, codes, Ok, refl, sym, ap, ◌∙◌, arith, inl, inr, append_assoc}
use Rattle.std.proofs.lemmas.Bool.{and_parts, cases_lt, eqb-true}
use Rattle.std.proofs.lemmas.List.{take_more, take_all}
use Rattle.std.specs.Bool.{OnTrue}
use Rattle.hex.specs.Hex.{IsBytes, encode_with, encode_lower, lower_digits, decode_of}
use Rattle.hex.proofs.HexLemmas.{length-encode_with, decode_of-encode_lower}
use Rattle.savi_kinds.specs.MacText.{hex_digit}
use Rattle.hist_store.specs.TextOfLines.{or_dash}
use Rattle.hist_store.specs.LineTexts.{hex_text}

-- each of the sixteen digits is that of its place

abbrev agrees : ℕ → Bool
agrees v = slice_index lower_digits v == hex_digit v

abbrev all_agree : ℕ → Bool
all_agree zero = true
all_agree (suc n) = agrees n && all_agree n

agrees_below : (n k : ℕ) → all_agree n ≡ true → k < n → agrees k ≡ true
agrees_below zero k h lt = absurd (omega arith)
agrees_below (suc n) k h lt =
    let parts = and_parts (agrees n) (all_agree n) h in
    elim (cases_lt k n) [
      | inl below ↦ agrees_below n k parts.1 below
      | inr top ↦
          let e : k ≡ n = omega arith in
          rw e parts.0
    ]

pub digit_is : (v : ℕ) → v < 16 → slice_index lower_digits v ≡ hex_digit v
digit_is v low = eqb-true (slice_index lower_digits v) (hex_digit v) (agrees_below 16 v refl low)

-- octets and their digits

pub encode-none : encode_lower [] ≡ []
unfolding encode_with
encode-none = refl

pub encode-append : (xs ys : List ℕ) → encode_lower (xs ++ ys) ≡ encode_lower xs ++ encode_lower ys
unfolding encode_with
encode-append [] ys = refl
encode-append (x ∷ xs) ys = ap (λ t. slice_index lower_digits (x / 16) ∷ slice_index lower_digits (x % 16) ∷ t) (encode-append xs ys)

encode_push : (xs : List ℕ) (b : ℕ) → encode_lower (xs ++ b ∷ []) ≡ encode_lower xs ++ slice_index lower_digits (b / 16) ∷ slice_index lower_digits (b % 16) ∷ []
unfolding encode_with
encode_push xs b = encode-append xs (b ∷ [])

pair_at : (xs : List ℕ) (i : ℕ) → i < length xs → (get_or (encode_lower xs) (2 * i) 0 ≡ slice_index lower_digits (get_or xs i 0 / 16)) × (get_or (encode_lower xs) (2 * i + 1) 0 ≡ slice_index lower_digits (get_or xs i 0 % 16))
unfolding encode_with
pair_at [] i low = absurd (omega arith)
pair_at (x ∷ xs) zero low = (refl, refl)
pair_at (x ∷ xs) (suc i) low =
    let first : 2 * suc i ≡ suc (suc (2 * i)) = omega arith in
    let second : 2 * suc i + 1 ≡ suc (suc (2 * i + 1)) = omega arith in
    let rest = pair_at xs i (omega arith) in
    (rw first rest.0, rw second rest.1)

pub bytes_none : IsBytes []
bytes_none i = omega arith

pub bytes_push : (xs : List ℕ) (b : ℕ) → IsBytes xs → b < 256 → IsBytes (xs ++ b ∷ [])
bytes_push [] b is small zero = small
bytes_push [] b is small (suc i) = omega arith
bytes_push (x ∷ xs) b is small zero = is 0
bytes_push (x ∷ xs) b is small (suc i) = bytes_push xs b (λ k. is (suc k)) small i

-- the two digits of an octet, where octets are read
pub digits_at : (digits bytes : List ℕ) (i : ℕ) → IsBytes bytes → digits ≡ encode_lower bytes → i < length digits / 2
    → (get_or digits (2 * i) 0 ≡ hex_digit (get_or bytes i 0 / 16)) × (get_or digits (2 * i + 1) 0 ≡ hex_digit (get_or bytes i 0 % 16)) × (get_or bytes i 0 < 256)
digits_at digits bytes i is text low =
    let size : length digits ≡ 2 * length bytes = ap length text ∙ length-encode_with lower_digits bytes in
    let small : get_or bytes i 0 < 256 = is i in
    let pair = pair_at bytes i (omega arith) in (
      ap (λ t. get_or t (2 * i) 0) text ∙ pair.0 ∙ digit_is (get_or bytes i 0 / 16) (omega arith),
      ap (λ t. get_or t (2 * i + 1) 0) text ∙ pair.1 ∙ digit_is (get_or bytes i 0 % 16) (omega arith),
      small,
    )

-- one more octet is read
pub octet_read : (digits octets : List ℕ) (i high low : ℕ) → i < length digits / 2 → high < 16 → low < 16 → get_or digits (2 * i) 0 ≡ hex_digit high → get_or digits (2 * i + 1) 0 ≡ hex_digit low → take (2 * i) digits ≡ encode_lower octets
    → take (2 * (i + 1)) digits ≡ encode_lower (octets ++ (high * 16 + low) ∷ [])
octet_read digits octets i high low within h l first second was =
    let places : 2 * (i + 1) ≡ 2 * i + 1 + 1 = omega arith in
    let one : (high * 16 + low) / 16 ≡ high = omega arith in
    let two : (high * 16 + low) % 16 ≡ low = omega arith in
    let more : take (2 * i + 1 + 1) digits ≡ take (2 * i + 1) digits ++ get_or digits (2 * i + 1) 0 ∷ [] = take_more digits (2 * i + 1) 0 (omega arith) in
    let less : take (2 * i + 1) digits ≡ take (2 * i) digits ++ get_or digits (2 * i) 0 ∷ [] = take_more digits (2 * i) 0 (omega arith) in
    let pair : get_or digits (2 * i) 0 ∷ get_or digits (2 * i + 1) 0 ∷ [] ≡ slice_index lower_digits ((high * 16 + low) / 16) ∷ slice_index lower_digits ((high * 16 + low) % 16) ∷ [] =
    rw (one, two, first, second, digit_is high h, digit_is low l) refl in
    ap (λ n. take n digits) places ∙ more ∙ ap (λ t. t ++ get_or digits (2 * i + 1) 0 ∷ []) less
    ∙ append_assoc (take (2 * i) digits) (get_or digits (2 * i) 0 ∷ []) (get_or digits (2 * i + 1) 0 ∷ [])
    ∙ ap (λ t. t ++ get_or digits (2 * i) 0 ∷ get_or digits (2 * i + 1) 0 ∷ []) was ∙ ap (λ p. encode_lower octets ++ p) pair ∙ sym (encode_push octets (high * 16 + low))

pub octets_same : (xs ys : List ℕ) → IsBytes xs → IsBytes ys → encode_lower xs ≡ encode_lower ys → xs ≡ ys
octets_same xs ys p q same =
    let decoded : Ok xs ≡ Ok ys = sym (decode_of-encode_lower xs p) ∙ ap decode_of same ∙ decode_of-encode_lower ys q in
    cc decoded

-- all octets are read
pub octets_read : (digits octets bytes : List ℕ) (i : ℕ) → length digits % 2 ≡ 0 → length digits / 2 ≤ i → take (2 * i) digits ≡ encode_lower octets → IsBytes octets → IsBytes bytes → digits ≡ encode_lower bytes → octets ≡ bytes
octets_read digits octets bytes i even all was is is' text =
    octets_same octets bytes is is' (sym was ∙ take_all (2 * i) digits (omega arith) ∙ text)

-- the text of octets

pub hex_text-none : hex_text [] ≡ codes "-"
unfolding encode_with
hex_text-none = refl

pub dash_none : (bytes : List ℕ) → codes "-" ≡ hex_text bytes → bytes ≡ []
unfolding encode_with
dash_none [] e = refl
dash_none (x ∷ xs) e = cc

-- the text is digits, where it isn't the dash
pub digits_of_text : (field bytes : List ℕ) → field ≡ hex_text bytes → (field ≡ codes "-" → ⊥) → (field ≡ encode_lower bytes) × (length field ≡ 2 * length bytes) × (0 < length bytes)
unfolding encode_with
digits_of_text field [] is other = absurd (other is)
digits_of_text field (x ∷ xs) is other = (is, ap length is ∙ length-encode_with lower_digits (x ∷ xs), omega arith)

or_dash-some : (t : List ℕ) → 0 < length t → or_dash t ≡ t
or_dash-some [] some = absurd (omega arith)
or_dash-some (x ∷ xs) some = refl

-- digits are the text of their octets
pub text_of_digits : (b : Bool) (field octets : List ℕ) (most : ℕ) → (length field == 0) ≡ false → length field / 2 ≤ most → OnTrue b ((field ≡ encode_lower octets) × IsBytes octets) → OnTrue b ((field ≡ hex_text octets) × IsBytes octets × (length octets ≤ most))
text_of_digits false field octets most some short read = tt
text_of_digits true field octets most some short read =
    let size : length field ≡ 2 * length octets = ap length read.0 ∙ length-encode_with lower_digits octets in
    let any : 0 < length field = elim (cases_lt 0 (length field)) [ inl is ↦ is | inr none ↦ (let zero_is : length field ≡ 0 = omega arith in let bad : true ≡ false = rw zero_is at some in absurd (cc)) ] in
    let digits : 0 < length (encode_lower octets) = rw (sym read.0) any in
    (read.0 ∙ sym (or_dash-some (encode_lower octets) digits), read.1, omega arith)
