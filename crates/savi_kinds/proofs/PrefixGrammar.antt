-- The texts of prefixes: an address in front of the first slash, and a length behind it.
use Rattle.std.proofs.Common.{ℕ, ◌≡◌, ◌≢◌, ◌==◌, ◌+◌, ◌-◌, ◌*◌, ◌^◌, ◌%◌, ◌<◌, ◌≤◌, List, [], ◌∷◌, ◌++◌, Some, None, length, take, drop, decimal, refl, sym, ap, ap₂, ◌∙◌, subst, arith, append_assoc, lit≤, length-append}
use Rattle.std.proofs.lemmas.Option.{none-some}
use Rattle.std.proofs.lemmas.List.{take_at, drop_at}
use Rattle.std.proofs.lemmas.Nat.{pow_below}
use Rattle.std.specs.List.{position}
use Rattle.savi_kinds.specs.declared.address.Addr.{Addr}
use Rattle.savi_kinds.specs.declared.address.Prefix.{Prefix}
use Rattle.savi_kinds.specs.AddrText.{IsAddrText}
use Rattle.savi_kinds.specs.PrefixText.{IsPrefixText, IsLengthText}
use Rattle.savi_kinds.proofs.AddrGrammar.{no_mark, one_address}
use Rattle.savi_kinds.proofs.DecimalGrammar.{one_length}
use Rattle.savi_kinds.proofs.Signs.{sign_behind, sides_at, tail_is}

-- a prefix's text has a slash, which stands behind its address
slash_in : (text : List ℕ) (p : Prefix) (h : IsPrefixText text p) → position (λ c. c == 47) text ≡ Some (length h.address)
slash_in text p h =
    let rest = 47 ∷ decimal p.len in
    let spelled : text ≡ h.address ++ rest = h.spelled ∙ append_assoc h.address (47 ∷ []) (decimal p.len) in
    let none = no_mark 47 (lit≤ tt, λ e. omega arith) h.address p.net h.net in
    ap (position (λ c. c == 47)) spelled ∙ sign_behind 47 h.address (decimal p.len) none

pub no_slash : (text : List ℕ) (p : Prefix) → position (λ c. c == 47) text ≡ None → IsPrefixText text p → ⊥
no_slash text p none h = none-some (length h.address) (sym none ∙ slash_in text p h)

-- the two parts of a prefix's text
pub parts : (text : List ℕ) (p : Prefix) (slash : ℕ) → position (λ c. c == 47) text ≡ Some slash → IsPrefixText text p → IsAddrText (take slash text) p.net × IsLengthText (take (length text - (slash + 1)) (drop (slash + 1) text)) p.len
parts text p slash found h =
    let both : Some slash ≡ Some (length h.address) = sym found ∙ slash_in text p h in
    let same : slash ≡ length h.address = cc in
    let front : take slash text ≡ h.address = ap₂ take same (h.spelled ∙ append_assoc h.address (47 ∷ []) (decimal p.len)) ∙ take_at h.address (47 ∷ decimal p.len) (length h.address) refl in
    let front_len : length (h.address ++ (47 ∷ [])) ≡ length h.address + 1 = length-append h.address (47 ∷ []) in
    let back : drop (slash + 1) text ≡ decimal p.len = ap₂ drop (ap (λ n. n + 1) same) h.spelled ∙ drop_at (h.address ++ (47 ∷ [])) (decimal p.len) (length h.address + 1) front_len in
    (subst (λ t. IsAddrText t p.net) (sym front) h.net, (tail_is text (slash + 1) ∙ back, h.prefix.short, h.prefix.long))

-- how many addresses lie in a prefix, as a number of 128 bits
size_fits : (len : ℕ) → 1 ≤ len → 1 * 2 ^ (128 - len) % 2 ^ 128 ≡ 2 ^ (128 - len)
size_fits len some = let below : 2 ^ (128 - len) < 2 ^ 128 = pow_below (128 - len) 128 (omega arith) in omega (arith, below)

-- the two parts as a prefix's text
pub from_parts : (text : List ℕ) (slash : ℕ) (net : Addr) (len : ℕ) → position (λ c. c == 47) text ≡ Some slash → IsAddrText (take slash text) net → IsLengthText (take (length text - (slash + 1)) (drop (slash + 1) text)) len → net.0 % (1 * 2 ^ (128 - len) % 2 ^ 128) ≡ 0 → IsPrefixText text (record { net = net; len = len })
from_parts text slash net len found address length_text even =
    let back : drop (slash + 1) text ≡ decimal len = sym (tail_is text (slash + 1)) ∙ length_text.0 in
    record {
      address = take slash text;
      net = address;
      spelled = sides_at 47 text slash found ∙ ap (λ t. take slash text ++ (47 ∷ t)) back ∙ sym (append_assoc (take slash text) (47 ∷ []) (decimal len));
      prefix = record { short = length_text.1; long = length_text.2; net = ap (λ m. net.0 % m) (sym (size_fits len length_text.1)) ∙ even };
    }

-- a bit past the length
pub bits_past : (text : List ℕ) (p : Prefix) (slash : ℕ) (net : Addr) (len : ℕ) → position (λ c. c == 47) text ≡ Some slash → IsAddrText (take slash text) net → IsLengthText (take (length text - (slash + 1)) (drop (slash + 1) text)) len → net.0 % (1 * 2 ^ (128 - len) % 2 ^ 128) ≢ 0 → IsPrefixText text p → ⊥
bits_past text p slash net len found address length_text odd h =
    let two = parts text p slash found h in
    let same_net : p.net ≡ net = one_address (take slash text) p.net net two.0 address in
    let same_len : p.len ≡ len = one_length _ p.len len two.1 length_text in
    let even : net.0 % 2 ^ (128 - len) ≡ 0 = ap₂ (λ a n. a.0 % 2 ^ (128 - n)) (sym same_net) (sym same_len) ∙ h.prefix.net in
    odd (ap (λ m. net.0 % m) (size_fits len length_text.1) ∙ even)

-- a text is of one prefix at most
pub one_prefix : (text : List ℕ) (p q : Prefix) → IsPrefixText text p → IsPrefixText text q → p ≡ q
one_prefix text p q h k =
    let found = slash_in text p h in
    let one = parts text p (length h.address) found h in
    let other = parts text q (length h.address) found k in
    let same_net : p.net ≡ q.net = one_address _ p.net q.net one.0 other.0 in
    let same_len : p.len ≡ q.len = one_length _ p.len q.len one.1 other.1 in
    λ i. record { net = same_net i; len = same_len i }
