-- A number in decimal, as the library reads it, and the length of a prefix.
use Rattle.std.proofs.Common.{ℕ, ◌≡◌, ◌≢◌, ◌+◌, ◌-◌, ◌^◌, ◌<◌, ◌≤◌, List, [], ◌∷◌, Option, Some, None, IfSome, IfNone, Result, Ok, Err, MatchResult, decimal, get_or, length, refl, sym, ap, ◌∙◌, subst, arith}
use Rattle.std.proofs.lemmas.Option.{none-some}
use Rattle.std.proofs.lemmas.Fmt.{decimal_is_IsNumeral, first_decimal, decimal_digit, decimal_injective, decimal-digits_value, parse-decimal, IsAscii-decimal}
use Rattle.std.proofs.lemmas.Str.{IsUtf8-from_ascii}
use Rattle.std.proofs.lemmas.Str.Parse.{numerals_by_value, tells_digits, without_leading_plus_none, digit_at}
use Rattle.std.specs.Result.{result_ok}
use Rattle.std.specs.Str.{IsUtf8}
use Rattle.std.specs.Str.Parse.{AllDigits, IsNumeral, digits_value, ParsesUnsigned}
use Rattle.savi_kinds.specs.PrefixText.{IsLengthText}

-- what holds of the value, and of the error
pub of_ok : {T E : Type 0} (P : T → Type 0) (Q : E → Type 0) (r : Result T E) (o : Option T) (x : T) → o ≡ result_ok r → o ≡ Some x → MatchResult r P Q → P x
of_ok P Q (Ok y) o x is some h = let same : y ≡ x = cc in subst P same h
of_ok P Q (Err e) o x is some h = absurd (none-some x (sym is ∙ some))

pub not_err : {T E : Type 0} (P : T → Type 0) (Q : E → Type 0) (r : Result T E) (o : Option T) → o ≡ result_ok r → o ≡ None → MatchResult r P Q → ((e : E) → Q e → ⊥) → ⊥
not_err P Q (Ok y) o is none h refuse = none-some y (sym none ∙ is)
not_err P Q (Err e) o is none h refuse = refuse e h

-- a number is '0', or its first digit is '1' to '9'
pub decimal_begins : (text : List ℕ) (n : ℕ) → n < 2 ^ 64 → text ≡ decimal n → text ≢ 48 ∷ [] → (49 ≤ get_or text 0 0) × (get_or text 0 0 ≤ 57)
decimal_begins text n small spelled other =
    let some : n ≢ 0 = λ e. other (spelled ∙ ap decimal e ∙ decimal_digit 0 (omega arith)) in
    let lead = first_decimal n (omega (arith, some)) small in
    let (numeral, value) = decimal_is_IsNumeral n small in
    let first = digit_at (decimal n) 0 numeral.1 numeral.0 in
    let same : get_or text 0 0 ≡ get_or (decimal n) 0 0 = ap (λ t. get_or t 0 0) spelled in
    omega (arith, lead, first, same)

pub decimal_utf8 : (text : List ℕ) (n : ℕ) → n < 2 ^ 64 → text ≡ decimal n → IsUtf8 text
decimal_utf8 text n small spelled = subst IsUtf8 (sym spelled) (IsUtf8-from_ascii (decimal n) (IsAscii-decimal n small))

one_item : (text : List ℕ) → length text ≡ 1 → text ≡ get_or text 0 0 ∷ []
one_item [] one = absurd (omega arith)
one_item (x ∷ []) one = refl
one_item (x ∷ y ∷ text) one = absurd (omega arith)

-- a number of one digit
pub digit_text : (text : List ℕ) → length text ≡ 1 → 48 ≤ get_or text 0 0 → get_or text 0 0 ≤ 57 → (text ≡ decimal (get_or text 0 0 - 48)) × (get_or text 0 0 - 48 < 10)
digit_text text one low high =
    let c = get_or text 0 0 in
    let back : 48 + (c - 48) ≡ c = omega (arith, low) in
    (one_item text one ∙ ap (λ (k : ℕ). k ∷ []) (sym back) ∙ sym (decimal_digit (c - 48) (omega (arith, low, high))), omega (arith, low, high))

-- what the library reads of digits that begin with none but '1' to '9'
pub some_read : {E : Type 0} (text : List ℕ) (r : Result ℕ E) (o : Option ℕ) → 49 ≤ get_or text 0 0 → ParsesUnsigned 64 10 text r → o ≡ result_ok r → IfSome o (λ n. (text ≡ decimal n) × (n < 2 ^ 64))
some_read text (Err e) o first parsed is = rw is tt
some_read text (Ok m) o first parsed is =
    let plain = without_leading_plus_none text (λ e. omega (arith, e, first)) in
    let numeral : IsNumeral 10 text = subst (IsNumeral 10) plain parsed.0.0 in
    let value : m ≡ digits_value 10 text = parsed.1 ∙ ap (digits_value 10) plain in
    let small : digits_value 10 text < 2 ^ 64 = subst (λ (t : List ℕ). digits_value 10 t < 2 ^ 64) plain parsed.0.1 in
    let written = decimal-digits_value (numerals_by_value (AllDigits 10) tells_digits) text numeral.1 numeral.0 (λ e. absurd (omega (arith, e, first))) small in
    rw is (sym written ∙ ap decimal (sym value), omega (arith, value, small))

pub none_read : {E : Type 0} (text : List ℕ) (r : Result ℕ E) (o : Option ℕ) → ParsesUnsigned 64 10 text r → o ≡ result_ok r → IfNone o ((n : ℕ) → n < 2 ^ 64 → text ≢ decimal n)
none_read text (Ok m) o parsed is = rw is tt
none_read text (Err e) o parsed is = rw is (λ n small spelled. let read = parse-decimal 64 n text (Err e) small small spelled parsed in cc)

-- the text of one number is that of no other
pub past_most : (text : List ℕ) (m most : ℕ) → text ≡ decimal m → m < 2 ^ 64 → most < m → (n : ℕ) → n ≤ most → text ≢ decimal n
past_most text m most spelled small past n within other =
    let same : m ≡ n = decimal_injective m n small (omega (arith, small, past, within)) (sym spelled ∙ other) in
    omega (arith, same, past, within)

pub one_length : (text : List ℕ) (m n : ℕ) → IsLengthText text m → IsLengthText text n → m ≡ n
one_length text m n h k = decimal_injective m n (omega (arith, h.2)) (omega (arith, k.2)) (sym h.0 ∙ k.0)

-- '0' is no length
pub no_length : (text : List ℕ) (m : ℕ) → text ≡ decimal m → m ≤ 128 → m ≤ 0 → (n : ℕ) → ¬ IsLengthText text n
no_length text m spelled within none n h =
    let same : m ≡ n = decimal_injective m n (omega (arith, within)) (omega (arith, h.2)) (sym spelled ∙ h.0) in
    omega (arith, same, none, h.1)
