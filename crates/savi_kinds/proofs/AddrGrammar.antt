-- The texts of addresses in the words of the library's grammar, which reads IPv4 tails too.
use Rattle.std.proofs.Common.{ℕ, ◌≡◌, ◌≢◌, ◌+◌, ◌-◌, ◌≤◌, ◌==◌, Bool, true, false, List, [], ◌∷◌, ◌++◌, All, length, replicate, decimal, refl, sym, ap, ap₂, ◌∙◌, subst, arith, inl, inr, eq-eqb, ne_eqb, length-append, true≢false, lit≤, Option, Some, None, Result, Ok, Err, if◌then◌else◌}
use Rattle.std.specs.List.{list_any}
use Rattle.std.proofs.lemmas.Bool.{cases_eq}
use Rattle.std.proofs.lemmas.List.{length-map, length-replicate}
use Rattle.std.proofs.lemmas.Option.{none-some}
use Rattle.std.specs.Result.{result_ok}
use Rattle.std.proofs.lemmas.List.Elements.{All-nil, All-cons, All-head, All-tail}
use Rattle.std.specs.Str.Parse.{AllDigits, digits_value}
use Rattle.std.specs.Char.{digit_value}
use Rattle.std.specs.Int.{w128, from_be_bytes}
use Rattle.std.specs.Net.Addr.{octets_of, ipv6_bits, ipv6_segments}
use Rattle.std.specs.Net.Grammar.{IsGroupsAfter, IsGroups, IsColonHex, IsDotted, IsIpv6Text, Parses}
use Rattle.std.specs.declared.net.ipv6_addr.Ipv6Addr.{Ipv6Addr}
use Rattle.std.proofs.NetLemmas.Arrays.{eight_items}
use Rattle.std.proofs.NetLemmas.Theorems.{IsIpv6Text_unique}
use Rattle.savi_kinds.specs.declared.address.Addr.{Addr}
use Rattle.savi_kinds.specs.AddrText.{IsGroup, group_numbers, joined_groups, number_of_groups, IsEightGroups, IsCompressed, IsAddrText}
use Rattle.savi_kinds.proofs.Colons.{behind, joined-behind}

-- how often a character stands in a text
abbrev pub marks : ℕ → List ℕ → ℕ
marks b [] = 0
marks b (c ∷ cs) = (if c == b then 1 else 0) + marks b cs

-- neither a hexadecimal digit nor a colon
abbrev pub IsMark : ℕ → Type 0
IsMark b = (16 ≤ digit_value b) × (58 ≢ b)

-- '.', which stands in IPv4 tails alone, and '/'
abbrev pub dots : List ℕ → ℕ
dots text = marks 46 text

pub marks-append : (b : ℕ) (xs ys : List ℕ) → marks b (xs ++ ys) ≡ marks b xs + marks b ys
marks-append b [] ys = omega arith
marks-append b (x ∷ xs) ys = omega (arith, marks-append b xs ys)

dots-append : (xs ys : List ℕ) → dots (xs ++ ys) ≡ dots xs + dots ys
dots-append xs ys = marks-append 46 xs ys

marks-digits : (b : ℕ) → IsMark b → (ds : List ℕ) → AllDigits 16 ds → marks b ds ≡ 0
marks-digits b mark [] h = refl
marks-digits b mark (d ∷ ds) h =
    elim (cases_eq d b) [
      | inl same ↦ let value : digit_value d ≡ digit_value b = ap digit_value same in absurd (omega (arith, h.0, mark.0))
      | inr other ↦ rw (ne_eqb d b other) (omega (arith, marks-digits b mark ds h.1))
    ]

pub dots-any : (text : List ℕ) → list_any (λ c. c == 46) text ≡ false → dots text ≡ 0
dots-any [] h = refl
dots-any (c ∷ cs) h =
    elim (cases_eq c 46) [
      | inl dot ↦ absurd (true≢false (rw (eq-eqb c 46 dot) at h))
      | inr other ↦ rw (ne_eqb c 46 other) (omega (arith, dots-any cs (rw (ne_eqb c 46 other) at h)))
    ]

pub any-dots : (text : List ℕ) → dots text ≡ 0 → list_any (λ c. c == 46) text ≡ false
any-dots [] h = refl
any-dots (c ∷ cs) h =
    elim (cases_eq c 46) [
      | inl dot ↦ let one : 1 + dots cs ≡ 0 = rw (eq-eqb c 46 dot) at h in absurd (omega arith)
      | inr other ↦ let none : 0 + dots cs ≡ 0 = rw (ne_eqb c 46 other) at h in rw (ne_eqb c 46 other) (any-dots cs (omega arith))
    ]

dots-dotted : (text octets : List ℕ) → IsDotted text octets → 1 ≤ dots text
dots-dotted text octets h =
    let dot = 46 ∷ [] in
    let three = decimal h.a ++ dot ++ decimal h.b ++ dot ++ decimal h.c in
    omega (arith, ap dots h.spelled, dots-append (three ++ dot) (decimal h.d), dots-append three dot)

marks-behind : (b : ℕ) → IsMark b → (gs : List (List ℕ)) → All IsGroup gs → marks b (behind gs) ≡ 0
marks-behind b mark [] h = refl
marks-behind b mark (g ∷ gs) h =
    rw (ne_eqb 58 b mark.1) (omega (arith, marks-append b g (behind gs), marks-digits b mark g (All-head IsGroup g gs h).0.1, marks-behind b mark gs (All-tail IsGroup g gs h)))

marks-joined : (b : ℕ) → IsMark b → (gs : List (List ℕ)) → All IsGroup gs → marks b (joined_groups gs) ≡ 0
marks-joined b mark [] h = refl
marks-joined b mark (g ∷ gs) h =
    rw joined-behind (omega (arith, marks-append b g (behind gs), marks-digits b mark g (All-head IsGroup g gs h).0.1, marks-behind b mark gs (All-tail IsGroup g gs h)))

more_groups : (ipv4 : Bool) (gs : List (List ℕ)) → All IsGroup gs → IsGroupsAfter ipv4 (58 ∷ []) (behind gs) (group_numbers gs)
more_groups ipv4 [] h = refl
more_groups ipv4 (g ∷ gs) h =
    let first = All-head IsGroup g gs h in
    inl (g, behind gs, refl, ((first.0, refl), first.1), more_groups ipv4 gs (All-tail IsGroup g gs h))

-- a row of groups is one of the grammar
groups_in_grammar : (ipv4 : Bool) (gs : List (List ℕ)) → All IsGroup gs → IsGroups ipv4 (joined_groups gs) (group_numbers gs)
groups_in_grammar ipv4 [] h = refl
groups_in_grammar ipv4 (g ∷ gs) h =
    let first = All-head IsGroup g gs h in
    inl (g, behind gs, joined-behind g gs, ((first.0, refl), first.1), more_groups ipv4 gs (All-tail IsGroup g gs h))

-- a row of the grammar is one of groups, where it has no dot
record Row (spell : List (List ℕ) → List ℕ) (text numbers : List ℕ) : Type 0 where
  groups : List (List ℕ)
  hex : All IsGroup groups
  spelled : text ≡ spell groups
  value : numbers ≡ group_numbers groups

dotted_tail : (lead last octets text : List ℕ) → dots text ≡ 0 → text ≡ lead ++ last → IsDotted last octets → ⊥
dotted_tail lead last octets text none split dotted = omega (arith, dots-dotted last octets dotted, ap dots split, dots-append lead last)

rest_none : (lead group rest text : List ℕ) → dots text ≡ 0 → text ≡ lead ++ group ++ rest → dots rest ≡ 0
rest_none lead group rest text none split = omega (arith, ap dots split, dots-append (lead ++ group) rest)

row_behind : (ipv4 : Bool) (numbers text : List ℕ) → dots text ≡ 0 → IsGroupsAfter ipv4 (58 ∷ []) text numbers → Row behind text numbers
row_behind ipv4 [] text none h = record { groups = []; hex = All-nil IsGroup; spelled = h; value = refl }
row_behind ipv4 (n ∷ numbers) text none (inr h) = absurd (dotted_tail (58 ∷ []) h.0 h.1 text none h.3 h.4)
row_behind ipv4 (n ∷ numbers) text none (inl h) =
    let (group, rest, split, is_group, more) = h in
    let later = row_behind ipv4 numbers rest (rest_none (58 ∷ []) group rest text none split) more in
    record {
      groups = group ∷ later.groups;
      hex = All-cons IsGroup group later.groups (is_group.0.0, is_group.1) later.hex;
      spelled = split ∙ ap (λ t. 58 ∷ (group ++ t)) later.spelled;
      value = ap₂ ◌∷◌ (sym is_group.0.1) later.value;
    }

row_of : (ipv4 : Bool) (numbers text : List ℕ) → dots text ≡ 0 → IsGroups ipv4 text numbers → Row joined_groups text numbers
row_of ipv4 [] text none h = record { groups = []; hex = All-nil IsGroup; spelled = h; value = refl }
row_of ipv4 (n ∷ numbers) text none (inr h) = absurd (dotted_tail [] h.0 h.1 text none h.3 h.4)
row_of ipv4 (n ∷ numbers) text none (inl h) =
    let (group, rest, split, is_group, more) = h in
    let later = row_behind ipv4 numbers rest (rest_none [] group rest text none split) more in
    record {
      groups = group ∷ later.groups;
      hex = All-cons IsGroup group later.groups (is_group.0.0, is_group.1) later.hex;
      spelled = split ∙ ap (λ t. group ++ t) later.spelled ∙ sym (joined-behind group later.groups);
      value = ap₂ ◌∷◌ (sym is_group.0.1) later.value;
    }

-- what a text of an address is in the grammar
pub record InGrammar (text : List ℕ) (a : Addr) : Type 0 where
  pub numbers : List ℕ
  pub colon_hex : IsColonHex text numbers
  pub value : a.0 ≡ number_of_groups numbers

whole_in_grammar : (text : List ℕ) (a : Addr) → IsEightGroups text a → InGrammar text a
whole_in_grammar text a h = record {
  numbers = group_numbers h.groups;
  colon_hex = inl (rw h.spelled (groups_in_grammar true h.groups h.hex_digits), length-map h.groups (digits_value 16) ∙ h.eight);
  value = h.value;
}

compressed_in_grammar : (text : List ℕ) (a : Addr) → IsCompressed text a → InGrammar text a
compressed_in_grammar text a h =
    let front_len = length-map h.front (digits_value 16) in
    let back_len = length-map h.back (digits_value 16) in
    let gap : 8 - length (group_numbers h.front) - length (group_numbers h.back) ≡ h.zeros = omega (arith, h.eight) in
    record {
      numbers = group_numbers h.front ++ replicate h.zeros 0 ++ group_numbers h.back;
      colon_hex = inr (record {
        head_text = joined_groups h.front;
        tail_text = joined_groups h.back;
        head = group_numbers h.front;
        tail = group_numbers h.back;
        spelled = h.spelled;
        head_groups = groups_in_grammar false h.front h.hex_front;
        tail_groups = groups_in_grammar true h.back h.hex_back;
        room = omega (arith, h.eight, h.some);
        value = ap (λ n. group_numbers h.front ++ replicate n 0 ++ group_numbers h.back) (sym gap);
      });
      value = h.value;
    }

pub in_grammar : (text : List ℕ) (a : Addr) → IsAddrText text a → InGrammar text a
in_grammar text a (inl h) = whole_in_grammar text a h
in_grammar text a (inr h) = compressed_in_grammar text a h

-- a mark stands in no text of an address
pub no_mark : (b : ℕ) → IsMark b → (text : List ℕ) (a : Addr) → IsAddrText text a → marks b text ≡ 0
no_mark b mark text a (inl h) = ap (marks b) h.spelled ∙ marks-joined b mark h.groups h.hex_digits
no_mark b mark text a (inr h) =
    let colons : marks b (58 ∷ 58 ∷ []) ≡ 0 = rw (ne_eqb 58 b mark.1) in
    omega (arith, ap (marks b) h.spelled, marks-append b (joined_groups h.front ++ (58 ∷ 58 ∷ [])) (joined_groups h.back), marks-append b (joined_groups h.front) (58 ∷ 58 ∷ []), marks-joined b mark h.front h.hex_front, marks-joined b mark h.back h.hex_back)

pub no_dot : (text : List ℕ) (a : Addr) → IsAddrText text a → dots text ≡ 0
no_dot = no_mark 46 (lit≤ tt, λ e. omega arith)

pub from_grammar : (text numbers : List ℕ) (a : Addr) → IsColonHex text numbers → dots text ≡ 0 → a.0 ≡ number_of_groups numbers → IsAddrText text a
from_grammar text numbers a (inl h) none value =
    let row = row_of true numbers text none h.0 in
    inl (record {
      groups = row.groups;
      hex_digits = row.hex;
      eight = sym (length-map row.groups (digits_value 16)) ∙ ap length (sym row.value) ∙ h.1;
      spelled = row.spelled;
      value = value ∙ ap number_of_groups row.value;
    })
from_grammar text numbers a (inr h) none value =
    let split = dots-append (h.head_text ++ (58 ∷ 58 ∷ [])) h.tail_text in
    let front_split = dots-append h.head_text (58 ∷ 58 ∷ []) in
    let no_dot : dots h.head_text + dots h.tail_text ≡ 0 = omega (arith, ap dots h.spelled, split, front_split) in
    let front = row_of false h.head h.head_text (omega arith) h.head_groups in
    let back = row_of true h.tail h.tail_text (omega arith) h.tail_groups in
    let front_len : length h.head ≡ length front.groups = ap length front.value ∙ length-map front.groups (digits_value 16) in
    let back_len : length h.tail ≡ length back.groups = ap length back.value ∙ length-map back.groups (digits_value 16) in
    inr (record {
      front = front.groups;
      zeros = 8 - length h.head - length h.tail;
      back = back.groups;
      hex_front = front.hex;
      hex_back = back.hex;
      some = omega (arith, h.room);
      eight = omega (arith, h.room);
      spelled = h.spelled ∙ ap₂ (λ x y. x ++ (58 ∷ 58 ∷ []) ++ y) front.spelled back.spelled;
      value = value ∙ ap number_of_groups h.value ∙ ap₂ (λ x y. number_of_groups (x ++ replicate (8 - length h.head - length h.tail) 0 ++ y)) front.value back.value;
    })

-- a text is of one address at most
pub one_address : (text : List ℕ) (a b : Addr) → IsAddrText text a → IsAddrText text b → a ≡ b
one_address text a b h k =
    let one = in_grammar text a h in
    let other = in_grammar text b k in
    let same = IsIpv6Text_unique text (record { segments = one.numbers }) (record { segments = other.numbers }) one.colon_hex other.colon_hex in
    let value : a.0 ≡ b.0 = one.value ∙ ap (λ x. number_of_groups (ipv6_segments x)) same ∙ sym other.value in
    λ i. record { 0 = value i }

-- the number of eight groups is that of their octets
number-octets : (a b c d e f g h : ℕ) → from_be_bytes w128 (octets_of (a ∷ b ∷ c ∷ d ∷ e ∷ f ∷ g ∷ h ∷ [])) ≡ number_of_groups (a ∷ b ∷ c ∷ d ∷ e ∷ f ∷ g ∷ h ∷ [])
number-octets a b c d e f g h = omega arith

pub number-bits : (a : Ipv6Addr) → length (ipv6_segments a) ≡ 8 → ipv6_bits a ≡ number_of_groups (ipv6_segments a)
unfolding ipv6_bits
number-bits a eight = rw (eight_items (ipv6_segments a) eight) (number-octets _ _ _ _ _ _ _ _)

-- the grammar's texts have eight numbers
eight-colon_hex : (text numbers : List ℕ) → IsColonHex text numbers → length numbers ≡ 8
eight-colon_hex text numbers (inl h) = h.1
eight-colon_hex text numbers (inr h) =
    omega (arith, h.room, ap length h.value, length-append (h.head ++ replicate (8 - length h.head - length h.tail) 0) h.tail, length-append h.head (replicate (8 - length h.head - length h.tail) 0), length-replicate {A = ℕ} (8 - length h.head - length h.tail) 0)

-- what the library's reader took is a text of the address
pub taken : {E : Type 0} (text : List ℕ) (r : Result Ipv6Addr E) (o : Option Ipv6Addr) (x : Ipv6Addr) → o ≡ result_ok r → o ≡ Some x → Parses IsIpv6Text text r → dots text ≡ 0 → (n : ℕ) → n ≡ ipv6_bits x → IsAddrText text (record { 0 = n })
taken text (Err e) o x from some parsed none n value = absurd (none-some x (sym from ∙ some))
taken text (Ok y) o x from some parsed none n value =
    let same : y ≡ x = cc in
    let colon_hex : IsColonHex text (ipv6_segments x) = subst (λ z. IsColonHex text (ipv6_segments z)) same parsed in
    from_grammar text (ipv6_segments x) (record { 0 = n }) colon_hex none (value ∙ number-bits x (eight-colon_hex text _ colon_hex))

-- and what it refused is a text of none
pub refused : {E : Type 0} (text : List ℕ) (r : Result Ipv6Addr E) (o : Option Ipv6Addr) → o ≡ result_ok r → o ≡ None → Parses IsIpv6Text text r → (a : Addr) → ¬ IsAddrText text a
refused text (Ok y) o from none parsed a h = absurd (none-some y (sym none ∙ from))
refused text (Err e) o from none parsed a h = let g = in_grammar text a h in parsed (record { segments = g.numbers }) g.colon_hex
