-- The texts of an address in a VLAN: no '@' in VLAN 1, and in another one an address in front of the first '@', and the number
-- of the VLAN behind it.
use Rattle.std.proofs.Common.{ℕ, ◌≡◌, ◌≢◌, ◌==◌, ◌&&◌, ◌+◌, ◌-◌, ◌^◌, ◌<◌, ◌≤◌, Bool, true, false, List, [], ◌∷◌, ◌++◌, Option, Some, None, IfSome, IfNone, MatchOption, length, map, take, drop, decimal, bytes_eq, refl, sym, ap, ap₂, ◌∙◌, subst, arith, inl, inr, append-nil, append_assoc, length-append, lit≤, lt-ltb, eq-eqb, ne_eqb, nat_lt, if◌then◌else◌}
use Rattle.std.specs.Prelude.{option_map, option_and_then}
use Rattle.std.specs.List.{position, join_with_byte}
use Rattle.std.specs.Option.{option_map_or}
use Rattle.std.specs.Str.Parse.{digits_value}
use Rattle.std.proofs.lemmas.Bool.{cases_eq, and_parts, ltb-true}
use Rattle.std.proofs.lemmas.Fmt.{decimal_is_IsNumeral, decimal_injective}
use Rattle.std.proofs.lemmas.List.{take_at, drop_at}
use Rattle.std.proofs.lemmas.Option.{none-some, some_pair_parts, MatchOption-at_some}
use Rattle.std.proofs.lemmas.Slice.Eq.{bytes_eq-Decides}
use Rattle.savi_kinds.specs.declared.address.Addr.{Addr}
use Rattle.savi_kinds.specs.declared.address.Mac.{Mac}
use Rattle.savi_kinds.specs.AddrText.{IsAddrText, addr_text}
use Rattle.savi_kinds.specs.AddrOf.{addr_of}
use Rattle.savi_kinds.specs.MacText.{HasSixOctets, IsMacText, colon, hex_pair, mac_text}
use Rattle.savi_kinds.specs.KeyText.{IsKeyText, IsVidText, key_text, mac_key_text, vlan_suffix}
use Rattle.savi_kinds.specs.KeyOf.{addr_in, key_of, vid_of}
use Rattle.savi_kinds.specs.Vlans.{IsVlan}
use Rattle.savi_kinds.proofs.AddrFound.{addr_read, read_is}
use Rattle.savi_kinds.proofs.AddrGrammar.{marks, no_mark, one_address}
use Rattle.savi_kinds.proofs.AddrWritten.{written_addr}
use Rattle.savi_kinds.proofs.MacGrammar.{one_mac, written_mac}
use Rattle.savi_kinds.proofs.Signs.{no_sign, sides_at, sign_behind, tail_is}

-- ---- what stands behind the address

suffix_one : (vlan : ℕ) → vlan ≡ 1 → vlan_suffix vlan ≡ []
suffix_one vlan same = rw (eq-eqb vlan 1 same) refl

suffix_other : (vlan : ℕ) → vlan ≢ 1 → vlan_suffix vlan ≡ 64 ∷ decimal vlan
suffix_other vlan other = rw (ne_eqb vlan 1 other) refl

-- no address has the sign
no_sign_in : (text : List ℕ) (a : Addr) → IsAddrText text a → marks 64 text ≡ 0
no_sign_in = no_mark 64 (lit≤ tt, λ e. omega arith)

key_alone : (text : List ℕ) (vlan : ℕ) (a : Addr) → IsKeyText text vlan a → vlan ≡ 1 → IsAddrText text a
key_alone text vlan a h same =
    let whole : text ≡ h.address = h.spelled ∙ ap (λ s. h.address ++ s) (suffix_one vlan same) ∙ append-nil h.address in
    subst (λ t. IsAddrText t a) (sym whole) h.written

key_tagged : (text : List ℕ) (vlan : ℕ) (a : Addr) (h : IsKeyText text vlan a) → vlan ≢ 1 → text ≡ h.address ++ (64 ∷ decimal vlan)
key_tagged text vlan a h other = h.spelled ∙ ap (λ s. h.address ++ s) (suffix_other vlan other)

-- where the first sign stands
alone_at : (text : List ℕ) (vlan : ℕ) (a : Addr) → IsKeyText text vlan a → vlan ≡ 1 → position (λ c. c == 64) text ≡ None
alone_at text vlan a h same = no_sign 64 text (no_sign_in text a (key_alone text vlan a h same))

tagged_at : (text : List ℕ) (vlan : ℕ) (a : Addr) (h : IsKeyText text vlan a) → vlan ≢ 1 → position (λ c. c == 64) text ≡ Some (length h.address)
tagged_at text vlan a h other =
    ap (position (λ c. c == 64)) (key_tagged text vlan a h other) ∙ sign_behind 64 h.address (decimal vlan) (no_sign_in h.address a h.written)

-- ---- a text with no sign, and the two sides of one

pub without_sign : (text : List ℕ) (vlan : ℕ) (a : Addr) → position (λ c. c == 64) text ≡ None → IsKeyText text vlan a → (vlan ≡ 1) × IsAddrText text a
without_sign text vlan a none h =
    elim (cases_eq vlan 1) [
      | inl same ↦ (same, key_alone text vlan a h same)
      | inr other ↦ absurd (none-some (length h.address) (sym none ∙ tagged_at text vlan a h other))
    ]

sides_of_key : (text : List ℕ) (vlan : ℕ) (a : Addr) (at : ℕ) (h : IsKeyText text vlan a) → vlan ≢ 1 → position (λ c. c == 64) text ≡ Some at → IsAddrText (take at text) a × IsVidText (drop (at + 1) text) vlan
sides_of_key text vlan a at h other found =
    let both : Some at ≡ Some (length h.address) = sym found ∙ tagged_at text vlan a h other in
    let same : at ≡ length h.address = cc in
    let spelled = key_tagged text vlan a h other in
    let front : take at text ≡ h.address = ap₂ take same spelled ∙ take_at h.address (64 ∷ decimal vlan) (length h.address) refl in
    let front_len : length (h.address ++ (64 ∷ [])) ≡ length h.address + 1 = length-append h.address (64 ∷ []) in
    let back : drop (at + 1) text ≡ decimal vlan =
    ap₂ drop (ap (λ n. n + 1) same) (spelled ∙ sym (append_assoc h.address (64 ∷ []) (decimal vlan))) ∙ drop_at (h.address ++ (64 ∷ [])) (decimal vlan) (length h.address + 1) front_len in
    (subst (λ t. IsAddrText t a) (sym front) h.written, (back, omega (arith, h.number.0, other), h.number.1))

sides : (text : List ℕ) (vlan : ℕ) (a : Addr) (at : ℕ) → position (λ c. c == 64) text ≡ Some at → IsKeyText text vlan a → IsAddrText (take at text) a × IsVidText (drop (at + 1) text) vlan
sides text vlan a at found h =
    elim (cases_eq vlan 1) [
      | inl same ↦ absurd (none-some at (sym (alone_at text vlan a h same) ∙ found))
      | inr other ↦ sides_of_key text vlan a at h other found
    ]

-- the same of the slices that the reader takes
pub read_sides : (text : List ℕ) (vlan : ℕ) (a : Addr) (at : ℕ) → position (λ c. c == 64) text ≡ Some at → IsKeyText text vlan a
    → IsAddrText (take at text) a × IsVidText (take (length text - (at + 1)) (drop (at + 1) text)) vlan
read_sides text vlan a at found h =
    let two = sides text vlan a at found h in
    (two.0, subst (λ t. IsVidText t vlan) (sym (tail_is text (at + 1))) two.1)

pub from_alone : (text : List ℕ) (a : Addr) → IsAddrText text a → IsKeyText text 1 a
from_alone text a h = record { address = text; written = h; number = (lit≤ tt, lit≤ tt); spelled = sym (append-nil text) }

from_both : (text : List ℕ) (vlan : ℕ) (a : Addr) (at : ℕ) → position (λ c. c == 64) text ≡ Some at → IsAddrText (take at text) a → IsVidText (drop (at + 1) text) vlan → IsKeyText text vlan a
from_both text vlan a at found address vid = record {
  address = take at text;
  written = address;
  number = (omega (arith, vid.1), vid.2);
  spelled = sides_at 64 text at found ∙ ap (λ t. take at text ++ (64 ∷ t)) vid.0 ∙ ap (λ s. take at text ++ s) (sym (suffix_other vlan (λ same. omega (arith, same, vid.1))));
}

pub from_sides : (text : List ℕ) (vlan : ℕ) (a : Addr) (at : ℕ) → position (λ c. c == 64) text ≡ Some at → IsAddrText (take at text) a
    → IsVidText (take (length text - (at + 1)) (drop (at + 1) text)) vlan → IsKeyText text vlan a
from_sides text vlan a at found address vid = from_both text vlan a at found address (subst (λ t. IsVidText t vlan) (tail_is text (at + 1)) vid)

-- what the parts that were read come to, and parts that weren't
pub key_of_sides : (text : List ℕ) (at : ℕ) (r : Option (ℕ × Addr)) → position (λ c. c == 64) text ≡ Some at → IfSome r (λ key. IsAddrText (take at text) key.1)
    → IfSome r (λ key. IsVidText (take (length text - (at + 1)) (drop (at + 1) text)) key.0) → IfSome r (λ key. IsKeyText text key.0 key.1)
key_of_sides text at None found address vid = tt
key_of_sides text at (Some key) found address vid = from_sides text key.0 key.1 at found address vid

pub no_key_of_sides : (text : List ℕ) (at : ℕ) (r : Option (ℕ × Addr)) → position (λ c. c == 64) text ≡ Some at
    → IfNone r ((vlan : ℕ) (a : Addr) → IsAddrText (take at text) a → ¬ IsVidText (take (length text - (at + 1)) (drop (at + 1) text)) vlan)
    → IfNone r ((vlan : ℕ) (a : Addr) → ¬ IsKeyText text vlan a)
no_key_of_sides text at None found none = λ vlan a h. let two = read_sides text vlan a at found h in none vlan a two.0 two.1
no_key_of_sides text at (Some key) found none = tt

pub key_of_alone : (text : List ℕ) (r : Option (ℕ × Addr)) → IfSome r (λ key. IsAddrText text key.1) → IfSome r (λ key. key.0 ≡ 1) → IfSome r (λ key. IsKeyText text key.0 key.1)
key_of_alone text None address one = tt
key_of_alone text (Some key) address one = subst (λ (v : ℕ). IsKeyText text v key.1) (sym one) (from_alone text key.1 address)

pub no_key_of_alone : (text : List ℕ) (r : Option (ℕ × Addr)) → position (λ c. c == 64) text ≡ None → IfNone r ((a : Addr) → ¬ IsAddrText text a) → IfNone r ((vlan : ℕ) (a : Addr) → ¬ IsKeyText text vlan a)
no_key_of_alone text None found none = λ vlan a h. none a (without_sign text vlan a found h).1
no_key_of_alone text (Some key) found none = tt

-- ---- the number of a VLAN

one_vid : (text : List ℕ) (v w : ℕ) → IsVidText text v → IsVidText text w → v ≡ w
one_vid text v w h k = decimal_injective v w (omega (arith, h.2)) (omega (arith, k.2)) (sym h.0 ∙ k.0)

-- a lower number isn't written
pub no_vid : (text : List ℕ) (m : ℕ) → text ≡ decimal m → m ≤ 4094 → m < 2 → (vlan : ℕ) → ¬ IsVidText text vlan
no_vid text m spelled within low vlan h =
    let same : m ≡ vlan = decimal_injective m vlan (omega (arith, within)) (omega (arith, h.2)) (sym spelled ∙ h.0) in
    omega (arith, same, low, h.1)

vid_again : (text : List ℕ) (vlan : ℕ) → IsVidText text vlan → vid_of text ≡ Some vlan
vid_again text vlan h =
    let value : digits_value 10 text ≡ vlan = ap (digits_value 10) h.0 ∙ (decimal_is_IsNumeral vlan (omega (arith, h.2))).1 in
    rw (value, lt-ltb 1 vlan (omega (arith, h.1)), lt-ltb vlan 4095 (omega (arith, h.2)), (bytes_eq-Decides text (decimal vlan)).1 h.0) refl

vid_found : (text : List ℕ) (vlan : ℕ) → vid_of text ≡ Some vlan → IsVidText text vlan
vid_found text vlan h = tested ((nat_lt 1 value && nat_lt value 4095) && bytes_eq text (decimal value)) refl h
  where
    value : ℕ
    value = digits_value 10 text

    tested : (b : Bool) → ((nat_lt 1 value && nat_lt value 4095) && bytes_eq text (decimal value)) ≡ b → (if b then Some value else None) ≡ Some vlan → IsVidText text vlan
    tested false is e = absurd (none-some vlan e)
    tested true is e =
        let both = and_parts (nat_lt 1 value && nat_lt value 4095) (bytes_eq text (decimal value)) is in
        let range = and_parts (nat_lt 1 value) (nat_lt value 4095) both.0 in
        let low : 1 < value = ltb-true 1 value range.0 in
        let high : value < 4095 = ltb-true value 4095 range.1 in
        let same : value ≡ vlan = cc in
        subst (λ v. IsVidText text v) same ((bytes_eq-Decides text (decimal value)).0 both.1, omega (arith, low), omega (arith, high))

-- ---- the key that a text writes

is_addr : (text : List ℕ) (a : Addr) → addr_of text ≡ Some a → IsAddrText text a
is_addr text a is = MatchOption-at_some ((b : Addr) → ¬ IsAddrText text b) (λ b. IsAddrText text b) a is (addr_read text)

key_again : (text : List ℕ) (vlan : ℕ) (a : Addr) → IsKeyText text vlan a → key_of text ≡ Some (vlan, a)
unfolding key_of
key_again text vlan a h =
    elim (cases_eq vlan 1) [
      | inl same ↦
          rw (alone_at text vlan a h same, ← read_is text a (key_alone text vlan a h same)) (ap (λ (v : ℕ). Some (v, a)) (sym same))
      | inr other ↦
          let found = tagged_at text vlan a h other in
          let two = sides_of_key text vlan a (length h.address) h other found in
          rw (found, vid_again (drop (length h.address + 1) text) vlan two.1, ← read_is (take (length h.address) text) a two.0) refl
    ]

key_found : (text : List ℕ) (vlan : ℕ) (a : Addr) → key_of text ≡ Some (vlan, a) → IsKeyText text vlan a
unfolding key_of
key_found text vlan a h = sided (position (λ c. c == 64) text) refl h
  where
    alone : (o : Option Addr) → addr_of text ≡ o → option_map {U = ℕ × Addr} (λ x. (1, x)) o ≡ Some (vlan, a) → IsKeyText text vlan a
    alone None is e = absurd (none-some (vlan, a) e)
    alone (Some x) is e =
        let same = some_pair_parts 1 vlan x a e in
        subst (λ (v : ℕ). IsKeyText text v a) same.0 (from_alone text a (subst (λ (y : Addr). IsAddrText text y) same.1 (is_addr text x is)))

    with_vid : (at v : ℕ) → position (λ c. c == 64) text ≡ Some at → IsVidText (drop (at + 1) text) v → (o : Option Addr) → addr_of (take at text) ≡ o → option_map {U = ℕ × Addr} (λ x. (v, x)) o ≡ Some (vlan, a) → IsKeyText text vlan a
    with_vid at v found vid None is e = absurd (none-some (vlan, a) e)
    with_vid at v found vid (Some x) is e =
        let same = some_pair_parts v vlan x a e in
        subst (λ (w : ℕ). IsKeyText text w a) same.0 (from_both text v a at found (subst (λ (y : Addr). IsAddrText (take at text) y) same.1 (is_addr (take at text) x is)) vid)

    tagged : (at : ℕ) → position (λ c. c == 64) text ≡ Some at → (o : Option ℕ) → vid_of (drop (at + 1) text) ≡ o → option_and_then (λ (v : ℕ). addr_in v (take at text)) o ≡ Some (vlan, a) → IsKeyText text vlan a
    tagged at found None is e = absurd (none-some (vlan, a) e)
    tagged at found (Some v) is e = with_vid at v found (vid_found (drop (at + 1) text) v is) (addr_of (take at text)) refl e

    sided : (o : Option ℕ) → position (λ c. c == 64) text ≡ o
        → option_map_or (λ (at : ℕ). option_and_then (λ (v : ℕ). addr_in v (take at text)) (vid_of (drop (at + 1) text))) o (addr_in 1 text) ≡ Some (vlan, a) → IsKeyText text vlan a
    sided None is e = alone (addr_of text) refl e
    sided (Some at) is e = tagged at is (vid_of (drop (at + 1) text)) refl e

-- what a reader answers that reads the keys of the grammar, and no others
pub key_told : (text : List ℕ) (r : Option (ℕ × Addr)) → IfSome r (λ key. IsKeyText text key.0 key.1) → IfNone r ((vlan : ℕ) (a : Addr) → ¬ IsKeyText text vlan a) → r ≡ key_of text
key_told text (Some key) read only = sym (key_again text key.0 key.1 read)
key_told text None read only = none (key_of text) refl
  where
    none : (o : Option (ℕ × Addr)) → key_of text ≡ o → None ≡ key_of text
    none None is = sym is
    none (Some key) is = absurd (only key.0 key.1 (key_found text key.0 key.1 is))

-- the key of a text is one of the grammar, and there is none where the text is of none
pub key_read : (text : List ℕ) → MatchOption (key_of text) ((vlan : ℕ) (a : Addr) → ¬ IsKeyText text vlan a) (λ key. IsKeyText text key.0 key.1)
key_read text = read (key_of text) refl
  where
    read : (o : Option (ℕ × Addr)) → key_of text ≡ o → MatchOption o ((vlan : ℕ) (a : Addr) → ¬ IsKeyText text vlan a) (λ key. IsKeyText text key.0 key.1)
    read None is = λ vlan a h. none-some (vlan, a) (sym is ∙ key_again text vlan a h)
    read (Some key) is = key_found text key.0 key.1 is

-- ---- the laws

pub one_key : (text : List ℕ) (v w : ℕ) (a b : Addr) → IsKeyText text v a → IsKeyText text w b → (v ≡ w) × (a ≡ b)
one_key text v w a b h k = at (position (λ c. c == 64) text) refl
  where
    at : (o : Option ℕ) → position (λ c. c == 64) text ≡ o → (v ≡ w) × (a ≡ b)
    at None is =
        let one = without_sign text v a is h in
        let other = without_sign text w b is k in
        (one.0 ∙ sym other.0, one_address text a b one.1 other.1)
    at (Some n) is =
        let one = sides text v a n is h in
        let other = sides text w b n is k in
        (one_vid (drop (n + 1) text) v w one.1 other.1, one_address (take n text) a b one.0 other.0)

pub written_key : (vlan : ℕ) (a : Addr) → IsVlan vlan → a.0 < 2 ^ 128 → IsKeyText (key_text vlan a) vlan a
written_key vlan a number fits = record { address = addr_text a; written = written_addr a fits; number = number; spelled = refl }

suffix_once : (v w : ℕ) → IsVlan v → IsVlan w → vlan_suffix v ≡ vlan_suffix w → v ≡ w
suffix_once v w one other same =
    elim (cases_eq v 1) [
      | inl v_one ↦ elim (cases_eq w 1) [
        | inl w_one ↦ v_one ∙ sym w_one
        | inr w_other ↦ absurd (let e : [] ≡ 64 ∷ decimal w = sym (suffix_one v v_one) ∙ same ∙ suffix_other w w_other in cc)
      ]
      | inr v_other ↦ elim (cases_eq w 1) [
        | inl w_one ↦ absurd (let e : 64 ∷ decimal v ≡ [] = sym (suffix_other v v_other) ∙ same ∙ suffix_one w w_one in cc)
        | inr w_other ↦
            let e : 64 ∷ decimal v ≡ 64 ∷ decimal w = sym (suffix_other v v_other) ∙ same ∙ suffix_other w w_other in
            let digits : decimal v ≡ decimal w = cc in
            decimal_injective v w (omega (arith, one.1)) (omega (arith, other.1)) digits
      ]
    ]

-- six pairs of digits with colons between
mac_len : (octets : List ℕ) → length octets ≡ 6 → length (join_with_byte colon (map hex_pair octets)) ≡ 17
mac_len [] six = absurd (omega arith)
mac_len (a ∷ []) six = absurd (omega arith)
mac_len (a ∷ b ∷ []) six = absurd (omega arith)
mac_len (a ∷ b ∷ c ∷ []) six = absurd (omega arith)
mac_len (a ∷ b ∷ c ∷ d ∷ []) six = absurd (omega arith)
mac_len (a ∷ b ∷ c ∷ d ∷ e ∷ []) six = absurd (omega arith)
mac_len (a ∷ b ∷ c ∷ d ∷ e ∷ f ∷ []) six = refl
mac_len (a ∷ b ∷ c ∷ d ∷ e ∷ f ∷ g ∷ octets) six = absurd (omega arith)

one_front : (a b r s : List ℕ) → length a ≡ length b → a ++ r ≡ b ++ s → (a ≡ b) × (r ≡ s)
one_front a b r s size e =
    let fronts : a ≡ b = sym (take_at a r (length a) refl) ∙ ap₂ take size e ∙ take_at b s (length b) refl in
    let rests : r ≡ s = sym (drop_at a r (length a) refl) ∙ ap₂ drop size e ∙ drop_at b s (length b) refl in
    (fronts, rests)

pub one_mac_key : (v w : ℕ) (m n : Mac) → IsVlan v → IsVlan w → HasSixOctets m → HasSixOctets n → mac_key_text v m ≡ mac_key_text w n → (v ≡ w) × (m ≡ n)
one_mac_key v w m n one other six six' same =
    let size : length (mac_text m) ≡ length (mac_text n) = mac_len m.0 six.0 ∙ sym (mac_len n.0 six'.0) in
    let parts = one_front (mac_text m) (mac_text n) (vlan_suffix v) (vlan_suffix w) size same in
    let read : IsMacText (mac_text m) n = subst (λ t. IsMacText t n) (sym parts.0) (written_mac n six'.0 six'.1) in
    (suffix_once v w one other parts.1, one_mac (mac_text m) m n (written_mac m six.0 six.1) read)
