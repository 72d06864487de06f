-- The address that a text writes, found by its colons.
use Rattle.std.proofs.Common.{ℕ, ◌≡◌, ◌+◌, ◌-◌, ◌<◌, ◌==◌, ◌&&◌, Bool, true, false, List, [], ◌∷◌, ◌++◌, All, length, replicate, take, drop, refl, sym, ap, ap₂, ◌∙◌, arith, inl, inr, append-nil, append_assoc, eq-eqb, ne_eqb, le-leb, lt-ltb, Option, Some, None, MatchOption, if◌then◌else◌, nat_lt, nat_le, bytes_eq, option_map}
use Rattle.std.specs.List.{list_all, join_with_byte}
use Rattle.std.specs.Option.{option_map_or}
use Rattle.std.specs.Char.{digit_value, is_digit}
use Rattle.std.specs.Str.Parse.{AllDigits}
use Rattle.std.proofs.lemmas.Bool.{cases_eq, and_parts, and_from, ltb-true, leb-true, eqb-true, true≢false}
use Rattle.std.proofs.lemmas.Option.{none-some}
use Rattle.std.proofs.lemmas.Slice.Eq.{bytes_eq-Decides}
use Rattle.std.proofs.lemmas.List.Elements.{All-nil, All-cons, All-head, All-tail}
use Rattle.savi_kinds.specs.declared.address.Addr.{Addr}
use Rattle.savi_kinds.specs.AddrText.{IsGroup, joined_groups, group_numbers, number_of_groups, IsEightGroups, IsCompressed, IsAddrText}
use Rattle.savi_kinds.proofs.Colons.{behind, joined-behind}
use Rattle.savi_kinds.specs.AddrOf.{begun_with, between_colons, groups_in, is_hex_group, sides_of, whole_addr, compressed_addr, addr_of}

-- a group, as a test and as a fact
all_digits : (text : List ℕ) → list_all (λ c. is_digit c 16) text ≡ true → AllDigits 16 text
all_digits [] h = tt
all_digits (c ∷ text) h =
    let both = and_parts (is_digit c 16) (list_all (λ c. is_digit c 16) text) h in
    (ltb-true (digit_value c) 16 both.0, all_digits text both.1)

digits_all : (text : List ℕ) → AllDigits 16 text → list_all (λ c. is_digit c 16) text ≡ true
digits_all [] h = refl
digits_all (c ∷ text) h = and_from (is_digit c 16) (list_all (λ c. is_digit c 16) text) (lt-ltb (digit_value c) 16 h.0) (digits_all text h.1)

group_is : (text : List ℕ) → is_hex_group text ≡ true → IsGroup text
group_is text h =
    let both = and_parts (list_all (λ c. is_digit c 16) text) (nat_lt 0 (length text) && nat_le (length text) 4) h in
    let sizes = and_parts (nat_lt 0 (length text)) (nat_le (length text) 4) both.1 in
    ((ltb-true 0 (length text) sizes.0, all_digits text both.0), leb-true (length text) 4 sizes.1)

is_the_group : (text : List ℕ) → IsGroup text → is_hex_group text ≡ true
is_the_group text h =
    and_from (list_all (λ c. is_digit c 16) text) (nat_lt 0 (length text) && nat_le (length text) 4) (digits_all text h.0.1)
    (and_from (nat_lt 0 (length text)) (nat_le (length text) 4) (lt-ltb 0 (length text) h.0.0) (le-leb (length text) 4 h.1))

groups_are : (groups : List (List ℕ)) → list_all is_hex_group groups ≡ true → All IsGroup groups
groups_are [] h = All-nil IsGroup
groups_are (g ∷ groups) h =
    let both = and_parts (is_hex_group g) (list_all is_hex_group groups) h in
    All-cons IsGroup g groups (group_is g both.0) (groups_are groups both.1)

are_groups : (groups : List (List ℕ)) → All IsGroup groups → list_all is_hex_group groups ≡ true
are_groups [] h = refl
are_groups (g ∷ groups) h =
    and_from (is_hex_group g) (list_all is_hex_group groups) (is_the_group g (All-head IsGroup g groups h)) (are_groups groups (All-tail IsGroup g groups h))

-- a digit is no colon
no_colon : (c : ℕ) → digit_value c < 16 → (c == 58) ≡ false
no_colon c digit = ne_eqb c 58 (λ same. let value : digit_value c ≡ 36 = ap digit_value same in omega (arith, value, digit))

-- what stands between colons, joined again
begun_text : (c : ℕ) (parts : List (List ℕ)) → join_with_byte 58 (begun_with c parts) ≡ c ∷ join_with_byte 58 parts
begun_text c [] = refl
begun_text c (part ∷ []) = refl
begun_text c (part ∷ next ∷ parts) = refl

some_part : (text : List ℕ) → 0 < length (between_colons text)
some_part [] = omega arith
some_part (c ∷ text) = begun c (c == 58) (between_colons text)
  where
    begun : (b : ℕ) (here : Bool) (parts : List (List ℕ)) → 0 < length (if here then [] ∷ parts else begun_with b parts)
    begun b true parts = omega arith
    begun b false [] = omega arith
    begun b false (part ∷ parts) = omega arith

colon_first : (parts : List (List ℕ)) → 0 < length parts → join_with_byte 58 ([] ∷ parts) ≡ 58 ∷ join_with_byte 58 parts
colon_first [] some = absurd (omega arith)
colon_first (part ∷ parts) some = refl

parts_joined : (text : List ℕ) → join_with_byte 58 (between_colons text) ≡ text
parts_joined [] = refl
parts_joined (c ∷ text) =
    elim (cases_eq c 58) [
      | inl here ↦ rw (eq-eqb c 58 here) (colon_first (between_colons text) (some_part text) ∙ ap₂ ◌∷◌ (sym here) (parts_joined text))
      | inr other ↦ rw (ne_eqb c 58 other) (begun_text c (between_colons text) ∙ ap (λ (t : List ℕ). c ∷ t) (parts_joined text))
    ]

groups_joined : (text : List ℕ) → joined_groups (groups_in text) ≡ text
groups_joined [] = refl
groups_joined (c ∷ text) = parts_joined (c ∷ text)

-- groups with colons between, cut at their colons
begun_parts : (c : ℕ) (text : List ℕ) (part : List ℕ) (parts : List (List ℕ)) → between_colons text ≡ part ∷ parts → begun_with c (between_colons text) ≡ (c ∷ part) ∷ parts
begun_parts c text part parts e = ap (begun_with c) e

last_group : (digits : List ℕ) → AllDigits 16 digits → between_colons digits ≡ digits ∷ []
last_group [] h = refl
last_group (c ∷ digits) h = rw (no_colon c h.0) (begun_parts c digits digits [] (last_group digits h.1))

first_group : (digits rest : List ℕ) → AllDigits 16 digits → between_colons (digits ++ (58 ∷ rest)) ≡ digits ∷ between_colons rest
first_group [] rest h = refl
first_group (c ∷ digits) rest h = rw (no_colon c h.0) (begun_parts c (digits ++ (58 ∷ rest)) digits (between_colons rest) (first_group digits rest h.1))

cut_again : (g : List ℕ) (groups : List (List ℕ)) → All IsGroup (g ∷ groups) → between_colons (g ++ behind groups) ≡ g ∷ groups
cut_again g [] h = rw append-nil (last_group g (All-head IsGroup g [] h).0.1)
cut_again g (next ∷ groups) h =
    first_group g (next ++ behind groups) (All-head IsGroup g (next ∷ groups) h).0.1
    ∙ ap (λ (l : List (List ℕ)). g ∷ l) (cut_again next groups (All-tail IsGroup g (next ∷ groups) h))

not_empty : (text rest : List ℕ) → 0 < length text → groups_in (text ++ rest) ≡ between_colons (text ++ rest)
not_empty [] rest some = absurd (omega arith)
not_empty (c ∷ text) rest some = refl

groups_again : (groups : List (List ℕ)) → All IsGroup groups → groups_in (joined_groups groups) ≡ groups
groups_again [] h = refl
groups_again (g ∷ groups) h =
    ap groups_in (joined-behind g groups) ∙ not_empty g (behind groups) (All-head IsGroup g groups h).0.0 ∙ cut_again g groups h

-- the sides of the first '::', with a text in front
in_front : List ℕ → Option (List ℕ × List ℕ) → Option (List ℕ × List ℕ)
in_front text sides = option_map (λ s. (text ++ s.0, s.1)) sides

in_front_twice : (one two : List ℕ) (sides : Option (List ℕ × List ℕ)) → in_front one (in_front two sides) ≡ in_front (one ++ two) sides
unfolding in_front
in_front_twice one two None = refl
in_front_twice one two (Some s) = ap (λ (t : List ℕ). Some (t, s.1)) (sym (append_assoc one two s.0))

in_front_none : (sides : Option (List ℕ × List ℕ)) → in_front [] sides ≡ sides
unfolding in_front
in_front_none None = refl
in_front_none (Some s) = refl

digit_in_front : (c : ℕ) (text : List ℕ) → digit_value c < 16 → sides_of (c ∷ text) ≡ in_front (c ∷ []) (sides_of text)
unfolding in_front
digit_in_front c text digit = rw (no_colon c digit) refl

digits_in_front : (digits text : List ℕ) → AllDigits 16 digits → sides_of (digits ++ text) ≡ in_front digits (sides_of text)
digits_in_front [] text h = sym (in_front_none (sides_of text))
digits_in_front (c ∷ digits) text h =
    digit_in_front c (digits ++ text) h.0 ∙ ap (in_front (c ∷ [])) (digits_in_front digits text h.1) ∙ in_front_twice (c ∷ []) digits (sides_of text)

colon_in_front : (group text : List ℕ) → IsGroup group → sides_of (58 ∷ (group ++ text)) ≡ in_front (58 ∷ []) (sides_of (group ++ text))
unfolding in_front
colon_in_front [] text h = absurd (omega (arith, h.0.0))
colon_in_front (c ∷ group) text h = rw (no_colon c h.0.1.0) refl

behind_in_front : (groups : List (List ℕ)) (text : List ℕ) → All IsGroup groups → sides_of (behind groups ++ text) ≡ in_front (behind groups) (sides_of text)
behind_in_front [] text h = sym (in_front_none (sides_of text))
behind_in_front (g ∷ groups) text h =
    let group = All-head IsGroup g groups h in
    let rest = behind groups ++ text in
    ap (λ (t : List ℕ). sides_of (58 ∷ t)) (append_assoc g (behind groups) text)
    ∙ colon_in_front g rest group
    ∙ ap (in_front (58 ∷ [])) (digits_in_front g rest group.0.1 ∙ ap (in_front g) (behind_in_front groups text (All-tail IsGroup g groups h)) ∙ in_front_twice g (behind groups) (sides_of text))
    ∙ in_front_twice (58 ∷ []) (g ++ behind groups) (sides_of text)

groups_in_front : (groups : List (List ℕ)) (text : List ℕ) → All IsGroup groups → sides_of (joined_groups groups ++ text) ≡ in_front (joined_groups groups) (sides_of text)
groups_in_front [] text h = sym (in_front_none (sides_of text))
groups_in_front (g ∷ groups) text h =
    rw joined-behind (ap sides_of (append_assoc g (behind groups) text)
    ∙ digits_in_front g (behind groups ++ text) (All-head IsGroup g groups h).0.1
    ∙ ap (in_front g) (behind_in_front groups text (All-tail IsGroup g groups h))
    ∙ in_front_twice g (behind groups) (sides_of text))

-- the text is its sides with '::' between them
begins_double : (c : ℕ) (text : List ℕ) → bytes_eq (take 2 (c ∷ text)) (58 ∷ 58 ∷ []) ≡ true → c ∷ text ≡ 58 ∷ 58 ∷ drop 1 text
begins_double c [] h =
    let both = and_parts (c == 58) false h in absurd (true≢false (sym both.1))
begins_double c (d ∷ text) h =
    let same : c ∷ d ∷ [] ≡ 58 ∷ 58 ∷ [] = (bytes_eq-Decides (c ∷ d ∷ []) (58 ∷ 58 ∷ [])).0 h in
    let one : c ≡ 58 = cc in
    let two : d ≡ 58 = cc in
    ap₂ (λ (x y : ℕ). x ∷ y ∷ text) one two

sides_found : (text : List ℕ) (sides : List ℕ × List ℕ) → sides_of text ≡ Some sides → text ≡ sides.0 ++ (58 ∷ 58 ∷ sides.1)
sides_found [] sides h = absurd (none-some sides h)
sides_found (c ∷ text) sides h = at_front (bytes_eq (take 2 (c ∷ text)) (58 ∷ 58 ∷ [])) refl (λ s. sides_found text s) h
  where
    later : (o : Option (List ℕ × List ℕ)) → ((s : List ℕ × List ℕ) → sides_of text ≡ Some s → text ≡ s.0 ++ (58 ∷ 58 ∷ s.1)) → sides_of text ≡ o → option_map (λ (s : List ℕ × List ℕ). (c ∷ s.0, s.1)) o ≡ Some sides → c ∷ text ≡ sides.0 ++ (58 ∷ 58 ∷ sides.1)
    later None before is e = absurd (none-some sides e)
    later (Some s) before is e =
        let same : (c ∷ s.0, s.1) ≡ sides = cc in
        ap (λ (t : List ℕ). c ∷ t) (before s is) ∙ ap (λ (p : List ℕ × List ℕ). p.0 ++ (58 ∷ 58 ∷ p.1)) same

    at_front : (b : Bool) → bytes_eq (take 2 (c ∷ text)) (58 ∷ 58 ∷ []) ≡ b → ((s : List ℕ × List ℕ) → sides_of text ≡ Some s → text ≡ s.0 ++ (58 ∷ 58 ∷ s.1)) → (if b then Some ([], drop 1 text) else option_map (λ (s : List ℕ × List ℕ). (c ∷ s.0, s.1)) (sides_of text)) ≡ Some sides → c ∷ text ≡ sides.0 ++ (58 ∷ 58 ∷ sides.1)
    at_front true is before e =
        let same : ([], drop 1 text) ≡ sides = cc in
        begins_double c text is ∙ ap (λ (p : List ℕ × List ℕ). p.0 ++ (58 ∷ 58 ∷ p.1)) same
    at_front false is before e = later (sides_of text) before refl e

-- a text by the two forms
whole_found : (text : List ℕ) (a : Addr) → whole_addr (groups_in text) ≡ Some a → IsAddrText text a
whole_found text a h = tested (list_all is_hex_group (groups_in text) && (length (groups_in text) == 8)) refl h
  where
    tested : (b : Bool) → (list_all is_hex_group (groups_in text) && (length (groups_in text) == 8)) ≡ b → (if b then Some (record { 0 = number_of_groups (group_numbers (groups_in text)) }) else None) ≡ Some a → IsAddrText text a
    tested false is e = absurd (none-some a e)
    tested true is e =
        let both = and_parts (list_all is_hex_group (groups_in text)) (length (groups_in text) == 8) is in
        let made : Addr = record { 0 = number_of_groups (group_numbers (groups_in text)) } in
        let same : made ≡ a = cc in
        inl (record {
          groups = groups_in text;
          hex_digits = groups_are (groups_in text) both.0;
          eight = eqb-true (length (groups_in text)) 8 both.1;
          spelled = sym (groups_joined text);
          value = sym (ap (λ (x : Addr). x.0) same);
        })

compressed_found : (text front back : List ℕ) (a : Addr) → text ≡ front ++ (58 ∷ 58 ∷ back) → compressed_addr (groups_in front) (groups_in back) ≡ Some a → IsAddrText text a
compressed_found text front back a split h =
    tested (list_all is_hex_group (groups_in front) && (list_all is_hex_group (groups_in back) && nat_lt 0 zeros)) refl h
  where
    zeros : ℕ
    zeros = 8 - (length (groups_in front) + length (groups_in back))

    tested : (b : Bool) → (list_all is_hex_group (groups_in front) && (list_all is_hex_group (groups_in back) && nat_lt 0 zeros)) ≡ b → (if b then Some (record { 0 = number_of_groups (group_numbers (groups_in front) ++ replicate zeros 0 ++ group_numbers (groups_in back)) }) else None) ≡ Some a → IsAddrText text a
    tested false is e = absurd (none-some a e)
    tested true is e =
        let both = and_parts (list_all is_hex_group (groups_in front)) (list_all is_hex_group (groups_in back) && nat_lt 0 zeros) is in
        let more = and_parts (list_all is_hex_group (groups_in back)) (nat_lt 0 zeros) both.1 in
        let some : 0 < zeros = ltb-true 0 zeros more.1 in
        let made : Addr = record { 0 = number_of_groups (group_numbers (groups_in front) ++ replicate zeros 0 ++ group_numbers (groups_in back)) } in
        let same : made ≡ a = cc in
        inr (record {
          front = groups_in front;
          zeros = zeros;
          back = groups_in back;
          hex_front = groups_are (groups_in front) both.0;
          hex_back = groups_are (groups_in back) more.0;
          some = omega arith;
          eight = omega arith;
          spelled = split ∙ ap₂ (λ (x y : List ℕ). x ++ (58 ∷ 58 ∷ y)) (sym (groups_joined front)) (sym (groups_joined back)) ∙ sym (append_assoc (joined_groups (groups_in front)) (58 ∷ 58 ∷ []) (joined_groups (groups_in back)));
          value = sym (ap (λ (x : Addr). x.0) same);
        })

addr_found : (text : List ℕ) (a : Addr) → addr_of text ≡ Some a → IsAddrText text a
unfolding addr_of
addr_found text a h = sided (sides_of text) refl h
  where
    sided : (o : Option (List ℕ × List ℕ)) → sides_of text ≡ o → option_map_or (λ (s : List ℕ × List ℕ). compressed_addr (groups_in s.0) (groups_in s.1)) o (whole_addr (groups_in text)) ≡ Some a → IsAddrText text a
    sided None is e = whole_found text a e
    sided (Some s) is e = compressed_found text s.0 s.1 a (sides_found text s is) e

-- and a text of an address has one
whole_again : (text : List ℕ) (a : Addr) → IsEightGroups text a → addr_of text ≡ Some a
unfolding addr_of in_front
whole_again text a h =
    let groups : groups_in text ≡ h.groups = ap groups_in h.spelled ∙ groups_again h.groups h.hex_digits in
    let no_sides : sides_of text ≡ None = ap sides_of (h.spelled ∙ sym (append-nil (joined_groups h.groups))) ∙ groups_in_front h.groups [] h.hex_digits in
    let test : (list_all is_hex_group h.groups && (length h.groups == 8)) ≡ true = and_from (list_all is_hex_group h.groups) (length h.groups == 8) (are_groups h.groups h.hex_digits) (eq-eqb (length h.groups) 8 h.eight) in
    rw (no_sides, groups, test) (ap (λ (n : ℕ). let made : Addr = record { 0 = n } in Some made) (sym h.value))

compressed_again : (text : List ℕ) (a : Addr) → IsCompressed text a → addr_of text ≡ Some a
unfolding addr_of in_front
compressed_again text a h =
    let sides : sides_of text ≡ Some (joined_groups h.front ++ [], joined_groups h.back) = ap sides_of (h.spelled ∙ append_assoc (joined_groups h.front) (58 ∷ 58 ∷ []) (joined_groups h.back)) ∙ groups_in_front h.front (58 ∷ 58 ∷ joined_groups h.back) h.hex_front in
    let zeros : 8 - (length h.front + length h.back) ≡ h.zeros = omega (arith, h.eight) in
    let some : nat_lt 0 h.zeros ≡ true = lt-ltb 0 h.zeros (omega (arith, h.some)) in
    rw (sides, append-nil, groups_again h.front h.hex_front, groups_again h.back h.hex_back, are_groups h.front h.hex_front, are_groups h.back h.hex_back, zeros, some)
    (ap (λ (n : ℕ). let made : Addr = record { 0 = n } in Some made) (sym h.value))

addr_again : (text : List ℕ) (a : Addr) → IsAddrText text a → addr_of text ≡ Some a
addr_again text a (inl h) = whole_again text a h
addr_again text a (inr h) = compressed_again text a h

-- the address of a text, or none
pub addr_read : (text : List ℕ) → MatchOption (addr_of text) ((a : Addr) → ¬ IsAddrText text a) (λ a. IsAddrText text a)
addr_read text = read (addr_of text) refl
  where
    read : (o : Option Addr) → addr_of text ≡ o → MatchOption o ((a : Addr) → ¬ IsAddrText text a) (λ a. IsAddrText text a)
    read None is = λ a h. none-some a (sym is ∙ addr_again text a h)
    read (Some a) is = addr_found text a is

-- what a reader answers that reads the addresses of the grammar, and no others
pub read_is : (text : List ℕ) (a : Addr) → IsAddrText text a → Some a ≡ addr_of text
read_is text a is = sym (addr_again text a is)

pub none_is : (text : List ℕ) → ((a : Addr) → ¬ IsAddrText text a) → None ≡ addr_of text
none_is text never = read (addr_of text) refl
  where
    read : (o : Option Addr) → addr_of text ≡ o → None ≡ addr_of text
    read None is = sym is
    read (Some a) is = absurd (never a (addr_found text a is))
