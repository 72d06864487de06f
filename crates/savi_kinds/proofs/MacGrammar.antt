-- The texts of MAC addresses, a pair at a time.
use Rattle.std.proofs.Common.{ℕ, ◌≡◌, ◌≢◌, ◌==◌, Bool, true, false, true≢false, eq-eqb, ne_eqb, ◌-◌, ◌/◌, ◌%◌, ◌<◌, List, [], ◌∷◌, ◌++◌, All, Option, Some, None, IfNone, map, length, take, drop, refl, sym, ap, ap₂, ◌∙◌, subst, arith}
use Rattle.std.proofs.lemmas.List.{length-map, take_at, drop_at}
use Rattle.std.proofs.lemmas.List.Elements.{All-nil, All-cons, All-head, All-tail}
use Rattle.std.specs.List.{join_with_byte}
use Rattle.std.specs.Str.Parse.{AllDigits, digits_value}
use Rattle.std.specs.Char.{digit_value}
use Rattle.std.proofs.lemmas.Bool.Decides.{nat_tests}
use Rattle.std.proofs.Math.Seq.{take-length}
use Rattle.savi_kinds.specs.declared.address.Mac.{Mac}
use Rattle.savi_kinds.specs.MacText.{colon, hex_digit, hex_pair, IsPair, IsMacText, mac_text, BeginsWithPair, BeginsWithNext}
use Rattle.savi_kinds.proofs.Colons.{behind, joined-behind}

-- what stands behind a pair, and behind a colon and a pair, is determined
pub pair_rest : (text rest : List ℕ) (octet : ℕ) → BeginsWithPair text octet rest → rest ≡ drop 2 text
pair_rest text rest octet h = let (pair, is_pair, value, split) = h in sym (ap (drop 2) split ∙ drop_at pair rest 2 is_pair.1)

pub next_rest : (text rest : List ℕ) (octet : ℕ) → BeginsWithNext text octet rest → rest ≡ drop 3 text
next_rest text rest octet h = let (next, split, pair) = h in pair_rest next rest octet pair ∙ ap (drop 3) (sym split)

-- the octets of a text, each behind a colon
abbrev pub Nexts : List ℕ → List ℕ → Type 0
Nexts text [] = text ≡ []
Nexts text (o ∷ os) = (rest : List ℕ) × BeginsWithNext text o rest × Nexts rest os

-- the octets of a text, of which the first stands at the front
abbrev pub Octets : List ℕ → List ℕ → Type 0
Octets text [] = ⊥
Octets text (o ∷ os) = (rest : List ℕ) × BeginsWithPair text o rest × Nexts rest os

nexts : (ps : List (List ℕ)) → All IsPair ps → Nexts (behind ps) (map (digits_value 16) ps)
nexts [] h = refl
nexts (p ∷ ps) h = (behind ps, (p ++ behind ps, refl, (p, All-head IsPair p ps h, refl, refl)), nexts ps (All-tail IsPair p ps h))

record Pairs (text octets : List ℕ) : Type 0 where
  pairs : List (List ℕ)
  hex : All IsPair pairs
  spelled : text ≡ behind pairs
  value : octets ≡ map (digits_value 16) pairs

pairs_of : (octets text : List ℕ) → Nexts text octets → Pairs text octets
pairs_of [] text h = record { pairs = []; hex = All-nil IsPair; spelled = h; value = refl }
pairs_of (o ∷ os) text h =
    let (rest, (next, colon_first, (pair, is_pair, value, split)), more) = h in
    let later = pairs_of os rest more in
    record {
      pairs = pair ∷ later.pairs;
      hex = All-cons IsPair pair later.pairs is_pair later.hex;
      spelled = colon_first ∙ ap (λ t. 58 ∷ t) (split ∙ ap (λ t. pair ++ t) later.spelled);
      value = ap₂ ◌∷◌ value later.value;
    }

-- a text of a MAC address, and six octets that a text holds
octets_in : (ps : List (List ℕ)) (text : List ℕ) → 0 < length ps → All IsPair ps → text ≡ join_with_byte colon ps → Octets text (map (digits_value 16) ps)
octets_in [] text some h e = absurd (omega arith)
octets_in (p ∷ ps) text some h e = (behind ps, (p, All-head IsPair p ps h, refl, e ∙ joined-behind p ps), nexts ps (All-tail IsPair p ps h))

pub from_octets : (text : List ℕ) (mac : Mac) → length mac.0 ≡ 6 → Octets text mac.0 → IsMacText text mac
from_octets text mac six h = go text mac.0 mac refl six h
  where
    go : (text os : List ℕ) (mac : Mac) → mac.0 ≡ os → length mac.0 ≡ 6 → Octets text os → IsMacText text mac
    go text [] mac is six h = absurd h
    go text (o ∷ os) mac is six h =
        let (rest, (pair, is_pair, value, split), more) = h in
        let later = pairs_of os rest more in
        record {
          pairs = pair ∷ later.pairs;
          hex_digits = All-cons IsPair pair later.pairs is_pair later.hex;
          six = omega (arith, six, ap length is, ap length later.value, length-map later.pairs (digits_value 16));
          spelled = split ∙ ap (λ t. pair ++ t) later.spelled ∙ sym (joined-behind pair later.pairs);
          value = is ∙ ap₂ ◌∷◌ value later.value;
        }

-- a text of a MAC address holds six octets
pub octets_of : (text : List ℕ) (mac : Mac) → IsMacText text mac → (os : List ℕ) × Octets text os × (length os ≡ 6)
octets_of text mac h = (map (digits_value 16) h.pairs, octets_in h.pairs text (omega (arith, h.six)) h.hex_digits h.spelled, length-map h.pairs (digits_value 16) ∙ h.six)

-- one octet is read, and the others are left
pub after_first : (text os rest : List ℕ) (o : ℕ) → Octets text os → BeginsWithPair text o rest → Nexts rest (drop 1 os)
after_first text [] rest o h read = absurd h
after_first text (p ∷ os) rest o h read =
    let same : h.0 ≡ rest = pair_rest text h.0 p h.1 ∙ sym (pair_rest text rest o read) in
    subst (λ t. Nexts t os) same h.2

pub after_next : (text os rest : List ℕ) (o : ℕ) → Nexts text os → BeginsWithNext text o rest → Nexts rest (drop 1 os)
after_next text [] rest o h read = let e : [] ≡ 58 ∷ read.0 = sym h ∙ read.1 in cc
after_next text (p ∷ os) rest o h read =
    let same : h.0 ≡ rest = next_rest text h.0 p h.1 ∙ sym (next_rest text rest o read) in
    subst (λ t. Nexts t os) same h.2

-- an octet that is there is read
pub no_first : (text os : List ℕ) → Octets text os → ((o : ℕ) (rest : List ℕ) → ¬ BeginsWithPair text o rest) → ⊥
no_first text [] h none = h
no_first text (o ∷ os) h none = none o h.0 h.1

pub no_next : (text os : List ℕ) → 0 < length os → Nexts text os → ((o : ℕ) (rest : List ℕ) → ¬ BeginsWithNext text o rest) → ⊥
no_next text [] some h none = omega arith
no_next text (o ∷ os) some h none = none o h.0 h.1

pub nothing_left : (text os : List ℕ) → length os ≡ 0 → Nexts text os → text ≡ []
nothing_left text [] none h = h
nothing_left text (o ∷ os) none h = absurd (omega arith)

-- the octet of a pair is determined
pair_octet : (text rest : List ℕ) (o : ℕ) → BeginsWithPair text o rest → o ≡ digits_value 16 (take 2 text)
pair_octet text rest o h = let (pair, is_pair, value, split) = h in value ∙ ap (digits_value 16) (sym (ap (take 2) split ∙ take_at pair rest 2 is_pair.1))

next_octet : (text rest : List ℕ) (o : ℕ) → BeginsWithNext text o rest → o ≡ digits_value 16 (take 2 (drop 1 text))
next_octet text rest o h = pair_octet h.0 rest o h.2 ∙ ap (λ t. digits_value 16 (take 2 (drop 1 t))) (sym h.1)

same_nexts : (text os ps : List ℕ) → Nexts text os → Nexts text ps → os ≡ ps
same_nexts text [] [] h k = refl
same_nexts text [] (p ∷ ps) h k = let e : [] ≡ 58 ∷ k.1.0 = sym h ∙ k.1.1 in cc
same_nexts text (o ∷ os) [] h k = let e : [] ≡ 58 ∷ h.1.0 = sym k ∙ h.1.1 in cc
same_nexts text (o ∷ os) (p ∷ ps) h k =
    let rest : k.0 ≡ h.0 = next_rest text k.0 p k.1 ∙ sym (next_rest text h.0 o h.1) in
    ap₂ ◌∷◌ (next_octet text h.0 o h.1 ∙ sym (next_octet text k.0 p k.1)) (same_nexts h.0 os ps h.2 (subst (λ t. Nexts t ps) rest k.2))

same_octets : (text os ps : List ℕ) → Octets text os → Octets text ps → os ≡ ps
same_octets text [] ps h k = absurd h
same_octets text (o ∷ os) [] h k = absurd k
same_octets text (o ∷ os) (p ∷ ps) h k =
    let rest : k.0 ≡ h.0 = pair_rest text k.0 p k.1 ∙ sym (pair_rest text h.0 o h.1) in
    ap₂ ◌∷◌ (pair_octet text h.0 o h.1 ∙ sym (pair_octet text k.0 p k.1)) (same_nexts h.0 os ps h.2 (subst (λ t. Nexts t ps) rest k.2))

-- whether anything is left
pub left_none : (text : List ℕ) (is_empty : Bool) → is_empty ≡ (length text == 0) → is_empty ≡ true → text ≡ []
left_none [] b is test = refl
left_none (c ∷ text) b is test = absurd (true≢false (sym test ∙ is ∙ ne_eqb (length (c ∷ text)) 0 (omega arith)))

pub left_some : (text : List ℕ) (is_empty : Bool) → is_empty ≡ (length text == 0) → is_empty ≡ false → text ≢ []
left_some text b is test none = true≢false (sym (eq-eqb (length text) 0 (ap length none)) ∙ sym is ∙ test)

-- a text is of one MAC address at most
pub one_mac : (text : List ℕ) (m n : Mac) → IsMacText text m → IsMacText text n → m ≡ n
unfolding octets_of
one_mac text m n h k =
    let same : m.0 ≡ n.0 = h.value ∙ same_octets text _ _ (octets_of text m h).1 (octets_of text n k).1 ∙ sym k.value in
    λ i. record { 0 = same i }

digit_value-hex_digit : (d : ℕ) → d < 16 → digit_value (hex_digit d) ≡ d
digit_value-hex_digit d h = grind (arith, nat_tests)

hex_pair_is : (o : ℕ) → o < 256 → IsPair (hex_pair o) × (o ≡ digits_value 16 (hex_pair o))
hex_pair_is o small =
    let high = digit_value-hex_digit (o / 16) (omega arith) in
    let low = digit_value-hex_digit (o % 16) (omega arith) in
    let value : o ≡ digits_value 16 (hex_pair o) = rw (high, low) (omega arith) in
    let digits : AllDigits 16 (hex_pair o) = rw (high, low) (omega arith, (omega arith, tt)) in
    ((digits, refl), value)

octets_written : (os : List ℕ) → All (λ o. o < 256) os → os ≡ map (digits_value 16) (map hex_pair os)
octets_written [] small = refl
octets_written (o ∷ os) small = ap₂ ◌∷◌ (hex_pair_is o (All-head (λ x. x < 256) o os small)).1 (octets_written os (All-tail (λ x. x < 256) o os small))

pairs_written : (os : List ℕ) → All (λ o. o < 256) os → All IsPair (map hex_pair os)
pairs_written [] small = All-nil IsPair
pairs_written (o ∷ os) small = All-cons IsPair (hex_pair o) (map hex_pair os) (hex_pair_is o (All-head (λ x. x < 256) o os small)).0 (pairs_written os (All-tail (λ x. x < 256) o os small))

-- what is written is read again
pub written_mac : (m : Mac) → length m.0 ≡ 6 → All (λ o. o < 256) m.0 → IsMacText (mac_text m) m
written_mac m six small = record {
  pairs = map hex_pair m.0;
  hex_digits = pairs_written m.0 small;
  six = length-map m.0 hex_pair ∙ six;
  spelled = refl;
  value = octets_written m.0 small;
}

-- behind a colon, what has no pair is no octet
pub no_pair_behind : {X : Type 0} (text : List ℕ) (result : Option X) → IfNone result ((o : ℕ) (rest : List ℕ) → ¬ BeginsWithPair (take (length text - 1) (drop 1 text)) o rest) → IfNone result ((o : ℕ) (rest : List ℕ) → ¬ BeginsWithNext text o rest)
no_pair_behind text (Some x) h = h
no_pair_behind text None h = λ o rest (next, split, pair).
    let tail : take (length text - 1) (drop 1 text) ≡ next = ap (λ t. take (length t - 1) (drop 1 t)) split ∙ ap (λ n. take n next) (omega arith) ∙ take-length next in
    h o rest (subst (λ t. BeginsWithPair t o rest) (sym tail) pair)
