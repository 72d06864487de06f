-- The row of octets: each list of octets has one, and only one.
use Rattle.std.proofs.Common.{◌≡◌, ℕ, zero, suc, ◌+◌, ◌<◌, ◌≤◌, nat_le, List, [], ◌∷◌, ◌++◌, length, take, drop, refl, sym, ap, ◌∙◌, subst, inl, inr, ◌⊎◌, arith}
use Rattle.std.specs.List.{flat_map, All}
use Rattle.std.proofs.lemmas.Bool.{cases_lt, cond_both, both_ways, and_parts, and_from, leb-true, le-leb}
use Rattle.std.proofs.lemmas.List.{append_assoc, take_at, drop_at, drop-drop, take-append-drop, length-append, length-take-le, length-drop, get_or-take, get_or_append_left}
use Rattle.std.proofs.lemmas.List.Elements.{All-nil, All-cons, All-head, All-tail}
use Rattle.byteorder.specs.Endian.{big_number}
use Rattle.dhcp6_read.specs.Options.{DhcpOption, octets_of, IsWhole, BeginsNone, OptionsRead, IsOptionsRead, GivesRows}
use Rattle.dhcp6_read.specs.DhcpOf.{front_len, begins_whole, front_option, behind_front, with_option, no_option, row_within, option_row}
use Rattle.dhcp6_read.specs.Steps.{BeginsWith}

append_same : (p q x y : List ℕ) → length p ≡ length q → p ++ x ≡ q ++ y → (p ≡ q) × (x ≡ y)
append_same p q x y l e = (
  sym (take_at p x (length q) l) ∙ ap (take (length q)) e ∙ take_at q y (length q) refl,
  sym (drop_at p x (length q) l) ∙ ap (drop (length q)) e ∙ drop_at q y (length q) refl,
)

-- its parts one after the other
regroup : (o : DhcpOption) (x : List ℕ) → octets_of o ++ x ≡ o.code ++ (o.len ++ (o.content ++ x))
regroup o x = append_assoc o.code (o.len ++ o.content) x ∙ ap (λ (l : List ℕ). o.code ++ l) (append_assoc o.len o.content x)

same_option : (a b : DhcpOption) → a.code ≡ b.code → a.len ≡ b.len → a.content ≡ b.content → a ≡ b
same_option a b p q r =
    let made : List ℕ → List ℕ → List ℕ → DhcpOption = λ c l x. record { code = c; len = l; content = x } in
    ap (λ (c : List ℕ). made c a.len a.content) p ∙ ap (λ (l : List ℕ). made b.code l a.content) q ∙ ap (λ (x : List ℕ). made b.code b.len x) r

front_same : (a b : DhcpOption) (x y : List ℕ) → IsWhole a → IsWhole b → octets_of a ++ x ≡ octets_of b ++ y → (a ≡ b) × (x ≡ y)
front_same a b x y p q e =
    let f : a.code ++ (a.len ++ (a.content ++ x)) ≡ b.code ++ (b.len ++ (b.content ++ y)) = sym (regroup a x) ∙ e ∙ regroup b y in
    let one = append_same a.code b.code (a.len ++ (a.content ++ x)) (b.len ++ (b.content ++ y)) (p.code ∙ sym q.code) f in
    let two = append_same a.len b.len (a.content ++ x) (b.content ++ y) (p.len ∙ sym q.len) one.1 in
    let three = append_same a.content b.content x y (p.content ∙ ap (big_number 2) two.0 ∙ sym q.content) two.1 in
    (same_option a b one.0 two.0 three.0, three.1)

options_same : (os ps : List DhcpOption) (x y : List ℕ) → All IsWhole os → All IsWhole ps → BeginsNone x → BeginsNone y → flat_map octets_of os ++ x ≡ flat_map octets_of ps ++ y → (os ≡ ps) × (x ≡ y)
options_same [] [] x y p q m n e = (refl, e)
options_same [] (b ∷ ps) x y p q m n e =
    absurd (m b (flat_map octets_of ps ++ y) (All-head IsWhole b ps q) (e ∙ append_assoc (octets_of b) (flat_map octets_of ps) y))
options_same (a ∷ os) [] x y p q m n e =
    absurd (n a (flat_map octets_of os ++ x) (All-head IsWhole a os p) (sym e ∙ append_assoc (octets_of a) (flat_map octets_of os) x))
options_same (a ∷ os) (b ∷ ps) x y p q m n e =
    let f = sym (append_assoc (octets_of a) (flat_map octets_of os) x) ∙ e ∙ append_assoc (octets_of b) (flat_map octets_of ps) y in
    let first = front_same a b (flat_map octets_of os ++ x) (flat_map octets_of ps ++ y) (All-head IsWhole a os p) (All-head IsWhole b ps q) f in
    let more = options_same os ps x y (All-tail IsWhole a os p) (All-tail IsWhole b ps q) m n first.1 in
    (ap (λ (o : DhcpOption). o ∷ os) first.0 ∙ ap (λ (l : List DhcpOption). b ∷ l) more.0, more.1)

pub row_same : (octets : List ℕ) (r s : OptionsRead) → IsOptionsRead octets r → IsOptionsRead octets s → r ≡ s
row_same octets r s p q =
    let both = options_same r.options s.options r.rest s.rest p.whole q.whole p.ends q.ends (sym p.joined ∙ q.joined) in
    let made : List DhcpOption → List ℕ → OptionsRead = λ o x. record { options = o; rest = x } in
    ap (λ (o : List DhcpOption). made o r.rest) both.0 ∙ ap (λ (x : List ℕ). made s.options x) both.1

row_none : (octets : List ℕ) → BeginsNone octets → IsOptionsRead octets (record { options = []; rest = octets })
row_none octets none = record { whole = All-nil IsWhole; ends = none; joined = refl }

row_cons : (octets behind : List ℕ) (o : DhcpOption) (row : OptionsRead) → IsWhole o → octets ≡ octets_of o ++ behind → IsOptionsRead behind row → IsOptionsRead octets (record { options = o ∷ row.options; rest = row.rest })
row_cons octets behind o row whole e is = record {
  whole = All-cons IsWhole o row.options whole is.whole;
  ends = is.ends;
  joined = e ∙ ap (λ (l : List ℕ). octets_of o ++ l) is.joined ∙ sym (append_assoc (octets_of o) (flat_map octets_of row.options) row.rest);
}

-- the number of the first octets is that of a list that begins with them
number_front : (xs ys : List ℕ) → length xs ≡ 2 → big_number 2 (xs ++ ys) ≡ big_number 2 xs
number_front xs ys l =
    let e = get_or_append_left xs ys 0 0 (omega arith) in
    let f = get_or_append_left xs ys 0 1 (omega arith) in
    omega arith

-- how long octets are that begin with an option
pub begins_long : (octets : List ℕ) (o : DhcpOption) (behind : List ℕ) → IsWhole o → octets ≡ octets_of o ++ behind → (4 + big_number 2 (drop 2 octets) + length behind ≡ length octets)
begins_long octets o behind whole e =
    let f : octets ≡ o.code ++ (o.len ++ (o.content ++ behind)) = e ∙ regroup o behind in
    let len : drop 2 octets ≡ o.len ++ (o.content ++ behind) = ap (drop 2) f ∙ drop_at o.code (o.len ++ (o.content ++ behind)) 2 whole.code in
    let n : big_number 2 (drop 2 octets) ≡ big_number 2 o.len = ap (big_number 2) len ∙ number_front o.len (o.content ++ behind) whole.len in
    let total = ap length f in
    let a = length-append o.code (o.len ++ (o.content ++ behind)) in
    let b = length-append o.len (o.content ++ behind) in
    let c = length-append o.content behind in
    omega (arith, whole.code, whole.len, whole.content)

-- octets that are too few begin no option
pub begins_none : (octets : List ℕ) → (length octets < 4) ⊎ (length octets < 4 + big_number 2 (drop 2 octets)) → BeginsNone octets
begins_none octets few option behind whole e =
    let l = begins_long octets option behind whole e in
    elim few [ inl h ↦ omega arith | inr h ↦ omega arith ]

number_take : (xs : List ℕ) → big_number 2 (take 2 xs) ≡ big_number 2 xs
number_take xs =
    let e = get_or-take 2 xs 0 0 (omega arith) in
    let f = get_or-take 2 xs 1 0 (omega arith) in
    omega arith

pub first_whole : (octets : List ℕ) → 4 ≤ length octets → 4 + big_number 2 (drop 2 octets) ≤ length octets → IsWhole (front_option octets)
first_whole octets long fits =
    let a = length-drop 2 octets in
    let b = length-drop 4 octets in
    record {
      code = length-take-le 2 octets (omega arith);
      len = length-take-le 2 (drop 2 octets) (omega arith);
      content = length-take-le (big_number 2 (drop 2 octets)) (drop 4 octets) (omega arith) ∙ sym (number_take (drop 2 octets));
    }

pub first_joined : (octets : List ℕ) (n : ℕ) → octets ≡ (take 2 octets ++ (take 2 (drop 2 octets) ++ take n (drop 4 octets))) ++ drop n (drop 4 octets)
first_joined octets n =
    let a = take-append-drop 2 octets in
    let b = take-append-drop 2 (drop 2 octets) in
    let c = take-append-drop n (drop 4 octets) in
    let d : drop 2 (drop 2 octets) ≡ drop 4 octets = drop-drop 2 2 octets in
    let o : DhcpOption = record { code = take 2 octets; len = take 2 (drop 2 octets); content = take n (drop 4 octets) } in
    sym (regroup o (drop n (drop 4 octets)) ∙ ap (λ (l : List ℕ). take 2 octets ++ (take 2 (drop 2 octets) ++ l)) c ∙ ap (λ (l : List ℕ). take 2 octets ++ (take 2 (drop 2 octets) ++ l)) (sym d) ∙ ap (λ (l : List ℕ). take 2 octets ++ l) b ∙ a)

row_is : (most : ℕ) (octets : List ℕ) → length octets ≤ most → IsOptionsRead octets (row_within most octets)
row_is zero octets h = row_none octets (begins_none octets (inl (omega arith)))
row_is (suc most) octets h =
    let behind = behind_front octets in
    cond_both (begins_whole octets) (with_option (front_option octets) (row_within most behind)) (no_option octets) (IsOptionsRead octets)
    (λ whole.
    let parts = and_parts (nat_le 4 (length octets)) (nat_le (4 + front_len octets) (length octets)) whole in
    let long = leb-true 4 (length octets) parts.0 in
    let fits = leb-true (4 + front_len octets) (length octets) parts.1 in
    let more = row_is most behind (omega (arith, length-drop (front_len octets) (drop 4 octets), length-drop 4 octets)) in
    row_cons octets behind (front_option octets) (row_within most behind) (first_whole octets long fits) (first_joined octets (front_len octets)) more)
    (λ cut.
    row_none octets
    (elim (cases_lt (length octets) 4) [
      | inl few ↦ begins_none octets (inl few)
      | inr long ↦ elim (cases_lt (length octets) (4 + front_len octets)) [
        | inl few ↦ begins_none octets (inr few)
        | inr fits ↦ absurd (both_ways (begins_whole octets) cut (and_from _ _ (le-leb 4 (length octets) long) (le-leb (4 + front_len octets) (length octets) fits)))
      ]
    ]))

-- the row of octets
pub gives_rows : GivesRows option_row
unfolding option_row
gives_rows octets = row_is (length octets) octets (omega arith)

-- the row of octets that begin with an option, and of octets that don't
pub row_begins : (row_of : List ℕ → OptionsRead) → GivesRows row_of → (octets behind : List ℕ) (o : DhcpOption) → IsWhole o → octets ≡ octets_of o ++ behind → row_of octets ≡ record { options = o ∷ (row_of behind).options; rest = (row_of behind).rest }
row_begins row_of gives octets behind o whole e =
    row_same octets (row_of octets) (record { options = o ∷ (row_of behind).options; rest = (row_of behind).rest }) (gives octets) (row_cons octets behind o (row_of behind) whole e (gives behind))

pub row_ends : (row_of : List ℕ → OptionsRead) → GivesRows row_of → (octets : List ℕ) → BeginsNone octets → row_of octets ≡ record { options = []; rest = octets }
row_ends row_of gives octets none = row_same octets (row_of octets) (record { options = []; rest = octets }) (gives octets) (row_none octets none)

-- octets that are enough begin with an option
begins_at : (octets : List ℕ) → 4 ≤ length octets → 4 + big_number 2 (drop 2 octets) ≤ length octets → BeginsWith octets (big_number 2 octets) (take (big_number 2 (drop 2 octets)) (drop 4 octets)) (drop (big_number 2 (drop 2 octets)) (drop 4 octets))
begins_at octets long fits = (front_option octets, first_whole octets long fits, number_take octets, refl, first_joined octets (big_number 2 (drop 2 octets)))

pub begins_with : (octets content behind : List ℕ) (n code : ℕ) → 4 ≤ length octets → 4 + n ≤ length octets → n ≡ big_number 2 (drop 2 octets) → code ≡ big_number 2 octets → content ≡ take n (drop 4 octets) → behind ≡ drop n (drop 4 octets) → BeginsWith octets code content behind
begins_with octets content behind n code long fits en ec ex eb =
    let P : ℕ → Type 0 = λ k. 4 + k ≤ length octets in
    let known = begins_at octets long (subst P en fits) in
    let Q : ℕ → Type 0 = λ k. BeginsWith octets k (take (big_number 2 (drop 2 octets)) (drop 4 octets)) (drop (big_number 2 (drop 2 octets)) (drop 4 octets)) in
    let R : ℕ → Type 0 = λ k. BeginsWith octets code (take k (drop 4 octets)) (drop k (drop 4 octets)) in
    let S : List ℕ → Type 0 = λ l. BeginsWith octets code l (drop n (drop 4 octets)) in
    let T : List ℕ → Type 0 = λ l. BeginsWith octets code content l in
    subst T (sym eb) (subst S (sym ex) (subst R (sym en) (subst Q (sym ec) known)))

-- the octets are a header of 4, the content and what stands behind it
pub begins_room : (octets content behind : List ℕ) (code : ℕ) → BeginsWith octets code content behind → 4 + length content + length behind ≡ length octets
begins_room octets content behind code begins =
    let o = begins.0 in
    let f : octets ≡ o.code ++ (o.len ++ (o.content ++ behind)) = begins.4 ∙ regroup o behind in
    let total = ap length f in
    let same = ap length begins.3 in
    let a = length-append o.code (o.len ++ (o.content ++ behind)) in
    let b = length-append o.len (o.content ++ behind) in
    let c = length-append o.content behind in
    omega (arith, begins.1.code, begins.1.len)
