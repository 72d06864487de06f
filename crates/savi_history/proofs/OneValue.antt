-- What has the same text is the same.
use Rattle.std.proofs.Common.{◌≡◌, ℕ, ◌*◌, ◌/◌, ◌%◌, ◌^◌, ◌<◌, Bool, true, false, if◌then◌else◌, List, [], ◌∷◌, length, map, decimal, Ok, refl, ap, sym, ◌∙◌, arith}
use Rattle.std.proofs.lemmas.Bool.Decides.{nat_tests}
use Rattle.std.proofs.lemmas.Fmt.{decimal_injective}
use Rattle.std.specs.List.{join_with_byte}
use Rattle.hex.specs.Hex.{IsBytes, encode_lower, lower_digits, decode_of}
use Rattle.hex.proofs.HexLemmas.{length-encode_with, decode_of-encode_lower}
use Rattle.savi_kinds.specs.declared.plan.Role.{Role}
use Rattle.savi_kinds.specs.declared.plan.Role.TheVariants.{Host, Server, Trusted}
use Rattle.savi_kinds.specs.declared.plan.Method.{Method}
use Rattle.savi_kinds.specs.declared.plan.Method.TheVariants.{Fcfs, Dhcp, Mixed}
use Rattle.savi_kinds.specs.declared.plan.Format.{Format}
use Rattle.savi_kinds.specs.declared.plan.Format.TheVariants.{Pcap, Stream}
use Rattle.savi_kinds.specs.declared.address.Mac.{Mac}
use Rattle.savi_kinds.specs.declared.entry.How.{How}
use Rattle.savi_kinds.specs.declared.entry.How.TheVariants as hows
use Rattle.savi_kinds.specs.MacText.{hex_digit, hex_pair, mac_text}
use Rattle.hist_store.specs.TextOfLines.{or_dash}
use Rattle.hist_store.specs.EndTexts.{how_fields}
use Rattle.hist_store.specs.LineTexts.{hex_text}
use Rattle.savi_kinds.specs.PlanWords.{role_word, method_word, format_word}
use Rattle.hist_store.proofs.OnePort.{first_apart}

-- octets

or_dash_same : (s t : List ℕ) (m n : ℕ) → length s ≡ 2 * m → length t ≡ 2 * n → or_dash s ≡ or_dash t → s ≡ t
or_dash_same [] [] m n p q e = refl
or_dash_same [] (y ∷ t) m n p q e = let empty : [] ≡ t = cc in let one : length (y ∷ t) ≡ 1 = ap (λ (l : List ℕ). length (y ∷ l)) (sym empty) in absurd (omega arith)
or_dash_same (x ∷ s) [] m n p q e = let empty : [] ≡ s = cc in let one : length (x ∷ s) ≡ 1 = ap (λ (l : List ℕ). length (x ∷ l)) (sym empty) in absurd (omega arith)
or_dash_same (x ∷ s) (y ∷ t) m n p q e = e

pub octets_by_text : (xs ys : List ℕ) → IsBytes xs → IsBytes ys → hex_text xs ≡ hex_text ys → xs ≡ ys
octets_by_text xs ys p q same =
    let codes_same : encode_lower xs ≡ encode_lower ys =
    or_dash_same (encode_lower xs) (encode_lower ys) (length xs) (length ys) (length-encode_with lower_digits xs) (length-encode_with lower_digits ys) same in
    let decoded : Ok xs ≡ Ok ys = sym (decode_of-encode_lower xs p) ∙ ap decode_of codes_same ∙ decode_of-encode_lower ys q in
    cc decoded

-- a MAC address

digit_same : (a b : ℕ) → hex_digit a ≡ hex_digit b → a ≡ b
digit_same a b same = grind (arith, nat_tests)

octet_same : (x y : ℕ) → hex_digit (x / 16) ≡ hex_digit (y / 16) → hex_digit (x % 16) ≡ hex_digit (y % 16) → x ≡ y
octet_same x y high low =
    let first : x / 16 ≡ y / 16 = digit_same (x / 16) (y / 16) high in
    let second : x % 16 ≡ y % 16 = digit_same (x % 16) (y % 16) low in
    omega arith

pairs_same : (xs ys : List ℕ) → join_with_byte 58 (map hex_pair xs) ≡ join_with_byte 58 (map hex_pair ys) → xs ≡ ys
pairs_same [] [] e = refl
pairs_same [] (y ∷ []) e = cc
pairs_same [] (y ∷ y' ∷ ys) e = cc
pairs_same (x ∷ []) [] e = cc
pairs_same (x ∷ x' ∷ xs) [] e = cc
pairs_same (x ∷ []) (y ∷ []) e =
    let high : hex_digit (x / 16) ≡ hex_digit (y / 16) = cc in
    let low : hex_digit (x % 16) ≡ hex_digit (y % 16) = cc in
    ap (λ (o : ℕ). o ∷ []) (octet_same x y high low)
pairs_same (x ∷ []) (y ∷ y' ∷ ys) e = cc
pairs_same (x ∷ x' ∷ xs) (y ∷ []) e = cc
pairs_same (x ∷ x' ∷ xs) (y ∷ y' ∷ ys) e =
    let high : hex_digit (x / 16) ≡ hex_digit (y / 16) = cc in
    let low : hex_digit (x % 16) ≡ hex_digit (y % 16) = cc in
    let more : join_with_byte 58 (map hex_pair (x' ∷ xs)) ≡ join_with_byte 58 (map hex_pair (y' ∷ ys)) = cc in
    let first : x ≡ y = octet_same x y high low in
    let rest : x' ∷ xs ≡ y' ∷ ys = pairs_same (x' ∷ xs) (y' ∷ ys) more in
    cc (first, rest)

abbrev the_mac : List ℕ → Mac
the_mac octets = record { 0 = octets }

pub mac_by_text : (m n : Mac) → mac_text m ≡ mac_text n → m ≡ n
mac_by_text m n same = ap the_mac (pairs_same m.0 n.0 same)

-- names

pub role_by_text : (a b : Role) → role_word a ≡ role_word b → a ≡ b
role_by_text Host Host e = refl
role_by_text Server Server e = refl
role_by_text Trusted Trusted e = refl
role_by_text a b e = absurd (first_apart e refl)

pub format_by_text : (a b : Format) → format_word a ≡ format_word b → a ≡ b
format_by_text Pcap Pcap e = refl
format_by_text Stream Stream e = refl
format_by_text a b e = absurd (first_apart e refl)

pub method_by_text : (a b : Method) → method_word a ≡ method_word b → a ≡ b
method_by_text Fcfs Fcfs e = refl
method_by_text Dhcp Dhcp e = refl
method_by_text Mixed Mixed e = refl
method_by_text a b e = absurd (first_apart e refl)

pub switch_by_text : (a b : Bool) (on off : List ℕ) → (on ≡ off → ⊥) → (if a then on else off) ≡ (if b then on else off) → a ≡ b
switch_by_text true true on off apart e = refl
switch_by_text true false on off apart e = absurd (apart e)
switch_by_text false true on off apart e = absurd (apart (sym e))
switch_by_text false false on off apart e = refl

-- a reason whose place is a number of 64 bits
abbrev pub IsReason : How → Type 0
IsReason hows.End = Unit {0}
IsReason hows.Quit = Unit {0}
IsReason (hows.Malformed at) = at < 2 ^ 64
IsReason (hows.Overlong at) = at < 2 ^ 64
IsReason hows.Failed = Unit {0}
IsReason hows.Unwritten = Unit {0}
IsReason hows.Paused = Unit {0}

first_field : {s t : List ℕ} {l m : List (List ℕ)} → s ∷ l ≡ t ∷ m → s ≡ t
first_field e = cc

pub how_by_text : (a b : How) → IsReason a → IsReason b → how_fields a ≡ how_fields b → a ≡ b
how_by_text hows.End hows.End p q e = refl
how_by_text hows.Quit hows.Quit p q e = refl
how_by_text hows.Failed hows.Failed p q e = refl
how_by_text hows.Unwritten hows.Unwritten p q e = refl
how_by_text hows.Paused hows.Paused p q e = refl
how_by_text hows.Failed hows.Paused p q e = absurd (first_apart (first_field e) refl)
how_by_text hows.Paused hows.Failed p q e = absurd (first_apart (first_field e) refl)
how_by_text (hows.Malformed m) (hows.Malformed n) p q e = let text : decimal m ≡ decimal n = cc in ap hows.Malformed (decimal_injective m n p q text)
how_by_text (hows.Overlong m) (hows.Overlong n) p q e = let text : decimal m ≡ decimal n = cc in ap hows.Overlong (decimal_injective m n p q text)
how_by_text a b p q e = cc
