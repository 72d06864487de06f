-- What is written of an address and of a prefix is read again.
use Rattle.std.proofs.Common.{ℕ, zero, suc, ◌≡◌, ◌+◌, ◌*◌, ◌/◌, ◌%◌, ◌^◌, ◌<◌, ◌≤◌, List, [], ◌∷◌, ◌++◌, All, length, take, drop, flat_map, refl, sym, ap, ap₂, ◌∙◌, subst, arith, inl, inr, nat_lt, lt-ltb, le-ltb, ne_eqb, append-nil, length-append, length-drop, length-take-le, if◌then◌else◌}
use Rattle.std.proofs.lemmas.Bool.{cases_lt, cases_eq}
use Rattle.std.proofs.lemmas.List.Elements.{All-head, All-tail, All-weaker}
use Rattle.std.proofs.Math.Nat.{div-div-eq-div-mul}
use Rattle.std.specs.Net.Text as Std
use Rattle.std.specs.Net.Text.{hex, longest_zero_run, hex_groups_text}
use Rattle.std.specs.Net.Grammar.{IsColonHex}
use Rattle.std.proofs.NetLemmas.Texts.{AllSegments, IsZeroRun-longest_zero_run, longest_zero_run_first, IsColonHex-hex_groups_text}
use Rattle.std.proofs.NetLemmas.Alphabet.{IsHexOrColon, All-hex_groups_text}
use Rattle.savi_kinds.specs.declared.address.Addr.{Addr}
use Rattle.savi_kinds.specs.declared.address.Prefix.{Prefix}
use Rattle.savi_kinds.specs.Prefixes.{IsPrefix}
use Rattle.savi_kinds.specs.MacText.{hex_digit}
use Rattle.savi_kinds.specs.AddrText.{number_of_groups, groups_of, groups_text, spelling, addr_text, IsAddrText, IsZeroRun, IsFirstLongest, IsSpelling, IsAddrChar}
use Rattle.savi_kinds.specs.PrefixText.{IsPrefixText, prefix_text}
use Rattle.savi_kinds.proofs.AddrGrammar.{marks, from_grammar}
use Rattle.savi_kinds.proofs.AddrSpelling.{digit_from, hex_digits, length-groups_of}

-- the groups of an address fit 16 bits, and are those of its number
cons_fits : (x : ℕ) (xs : List ℕ) → x < 2 ^ 16 → AllSegments xs → AllSegments (x ∷ xs)
cons_fits x xs h later zero = h
cons_fits x xs h later (suc k) = later k

-- the same in a record, so that antt reads the lists off a goal
record Fit (xs : List ℕ) : Type 0 where
  each : AllSegments xs

fits_cons : {x : ℕ} {xs : List ℕ} → x < 2 ^ 16 → Fit xs → Fit (x ∷ xs)
fits_cons {x} {xs} h later = record { each = cons_fits x xs h later.each }

fits_nil : Fit []
fits_nil = record { each = λ k. omega arith }

fits_mod : (n : ℕ) → n % 2 ^ 16 < 2 ^ 16
fits_mod n = omega arith

all_fit : (a : Addr) → Fit (groups_of a)
unfolding groups_of
all_fit a =
    fits_cons (fits_mod (a.0 / 2 ^ 112)) (fits_cons (fits_mod (a.0 / 2 ^ 96)) (fits_cons (fits_mod (a.0 / 2 ^ 80)) (fits_cons (fits_mod (a.0 / 2 ^ 64)) (fits_cons (fits_mod (a.0 / 2 ^ 48)) (fits_cons (fits_mod (a.0 / 2 ^ 32)) (fits_cons (fits_mod (a.0 / 2 ^ 16)) (fits_cons (fits_mod a.0) fits_nil)))))))

pub groups_fit : (a : Addr) → AllSegments (groups_of a)
groups_fit a = (all_fit a).each

step : (n k : ℕ) → n / k ≡ n / (k * 2 ^ 16) * 2 ^ 16 + n / k % 2 ^ 16
step n k = let higher : n / (k * 2 ^ 16) ≡ n / k / 2 ^ 16 = sym (div-div-eq-div-mul n k (2 ^ 16)) in rw higher (omega arith)

number-groups : (a : Addr) → a.0 < 2 ^ 128 → a.0 ≡ number_of_groups (groups_of a)
unfolding groups_of
number-groups a small =
    let n = a.0 in
    let top : n / 2 ^ 112 % 2 ^ 16 ≡ n / 2 ^ 112 = omega (arith, small) in
    let last : n ≡ n / 2 ^ 16 * 2 ^ 16 + n % 2 ^ 16 = omega arith in
    omega (arith, top, step n (2 ^ 96), step n (2 ^ 80), step n (2 ^ 64), step n (2 ^ 48), step n (2 ^ 32), step n (2 ^ 16), last)

-- groups as the library writes them
same_more : (gs : List ℕ) (g : ℕ) → groups_text (g ∷ gs) ≡ hex g ++ flat_map (λ t. 58 ∷ hex t) gs
same_more [] g = sym (append-nil (hex g))
same_more (f ∷ gs) g = ap (λ t. hex g ++ (58 ∷ t)) (same_more gs f)

same_groups : (gs : List ℕ) → groups_text gs ≡ Std.groups_text gs
same_groups [] = refl
same_groups (g ∷ gs) = same_more gs g

same_spelling : (gs : List ℕ) → spelling gs ≡ hex_groups_text gs
unfolding spelling hex_groups_text
same_spelling gs =
    let run = longest_zero_run gs in
    ap₂ (λ long whole. if nat_lt 1 run.1 then long else whole) (ap₂ (λ x y. x ++ (58 ∷ 58 ∷ []) ++ y) (same_groups (take run.0 gs)) (same_groups (drop (run.0 + run.1) gs))) (same_groups gs)

-- no dot stands in it
no_dots : (text : List ℕ) → All IsHexOrColon text → marks 46 text ≡ 0
no_dots [] h = refl
no_dots (c ∷ cs) h = let here = All-head IsHexOrColon c cs h in rw (ne_eqb c 46 (λ e. omega (arith, here, e))) (omega (arith, no_dots cs (All-tail IsHexOrColon c cs h)))

pub written_addr : (a : Addr) → a.0 < 2 ^ 128 → IsAddrText (addr_text a) a
written_addr a small =
    let gs = groups_of a in
    let colon_hex = subst (λ t. IsColonHex t gs) (sym (same_spelling gs)) (IsColonHex-hex_groups_text gs (length-groups_of a) (groups_fit a)) in
    let chars = subst (All IsHexOrColon) (sym (same_spelling gs)) (All-hex_groups_text gs (groups_fit a)) in
    from_grammar (spelling gs) gs a colon_hex (no_dots (spelling gs) chars) (number-groups a small)

pub written_prefix : (p : Prefix) → p.net.0 < 2 ^ 128 → IsPrefix p → IsPrefixText (prefix_text p) p
written_prefix p small h = record { address = addr_text p.net; net = written_addr p.net small; spelled = refl; prefix = h }

-- the characters
char_of : (c : ℕ) → IsHexOrColon c → IsAddrChar c
char_of c (inl h) = elim (cases_eq c 58) [ inl colon ↦ inr (inr colon) | inr other ↦ inl (omega (arith, h, other)) ]
char_of c (inr h) = inr (inl h)

pub plain_chars : (a : Addr) → All IsAddrChar (addr_text a)
plain_chars a =
    let gs = groups_of a in
    All-weaker IsHexOrColon IsAddrChar char_of (spelling gs) (subst (All IsHexOrColon) (sym (same_spelling gs)) (All-hex_groups_text gs (groups_fit a)))

-- the run that is shortened
run_of : (gs : List ℕ) → IsFirstLongest gs (longest_zero_run gs).0 (longest_zero_run gs).1
run_of gs =
    let own = IsZeroRun-longest_zero_run gs in
    record {
      run = record { within = own.0; zeros = own.1 };
      longest = λ start len h. (longest_zero_run_first gs start len (h.within, h.zeros)).0;
      first = λ start h. (longest_zero_run_first gs start (longest_zero_run gs).1 (h.within, h.zeros)).1 refl;
    }

pub spelling_kept : (gs : List ℕ) → IsSpelling (spelling gs) gs
unfolding spelling
spelling_kept gs = record {
  start = (longest_zero_run gs).0;
  len = (longest_zero_run gs).1;
  run = run_of gs;
  shortened = λ long. rw (lt-ltb 1 (longest_zero_run gs).1 long);
  whole = λ short. rw (le-ltb 1 (longest_zero_run gs).1 short);
}

pub spelling_only : (text gs : List ℕ) → IsSpelling text gs → text ≡ spelling gs
unfolding spelling
spelling_only text gs h =
    let own = run_of gs in
    let run = longest_zero_run gs in
    let len : h.len ≡ run.1 = omega (arith, h.run.longest run.0 run.1 own.run, own.longest h.start h.len h.run.run) in
    let before : h.start ≤ run.0 = h.run.first run.0 (subst (λ n. IsZeroRun gs run.0 n) (sym len) own.run) in
    let behind : run.0 ≤ h.start = own.first h.start (subst (λ n. IsZeroRun gs h.start n) len h.run.run) in
    let start : h.start ≡ run.0 = omega (arith, before, behind) in
    elim (cases_lt 1 run.1) [
      | inl long ↦ rw (lt-ltb 1 run.1 long) (h.shortened (omega arith) ∙ ap₂ (λ s n. groups_text (take s gs) ++ (58 ∷ 58 ∷ []) ++ groups_text (drop (s + n) gs)) start len)
      | inr short ↦ rw (le-ltb 1 run.1 short) (h.whole (omega arith))
    ]

-- how long it is
hex_most : (n : ℕ) → length (hex n) ≤ 4
unfolding hex
hex_most n = omega (arith, length-drop {A = ℕ})

hex_least : (n : ℕ) → 1 ≤ length (hex n)
hex_least n =
    let front = digit_from 0x1000 n (n / 0x1000) ++ digit_from 0x100 n (n / 0x100 % 16) ++ digit_from 0x10 n (n / 0x10 % 16) in
    omega (arith, ap length (hex_digits n), length-append front (hex_digit (n % 16) ∷ []))

row_most : (g : ℕ) (gs : List ℕ) → length (groups_text (g ∷ gs)) + 1 ≤ 5 * (length gs + 1)
row_most g [] = omega (arith, hex_most g)
row_most g (f ∷ gs) = omega (arith, hex_most g, length-append (hex g) (58 ∷ groups_text (f ∷ gs)), row_most f gs)

text_most : (gs : List ℕ) → length (groups_text gs) ≤ 5 * length gs
text_most [] = omega arith
text_most (g ∷ gs) = omega (arith, row_most g gs)

eight_most : (gs : List ℕ) → length gs ≡ 8 → length (groups_text gs) ≤ 39
eight_most [] eight = omega arith
eight_most (g ∷ gs) eight = omega (arith, row_most g gs, eight)

eight_least : (gs : List ℕ) → length gs ≡ 8 → 2 ≤ length (groups_text gs)
eight_least [] eight = absurd (omega (arith, eight))
eight_least (g ∷ []) eight = absurd (omega (arith, eight))
eight_least (g ∷ f ∷ gs) eight = omega (arith, hex_least g, length-append (hex g) (58 ∷ groups_text (f ∷ gs)))

long_len : (gs : List ℕ) (start len : ℕ) → length (groups_text (take start gs) ++ (58 ∷ 58 ∷ []) ++ groups_text (drop (start + len) gs)) ≡ length (groups_text (take start gs)) + 2 + length (groups_text (drop (start + len) gs))
long_len gs start len = omega (arith, length-append (groups_text (take start gs) ++ (58 ∷ 58 ∷ [])) (groups_text (drop (start + len) gs)), length-append (groups_text (take start gs)) (58 ∷ 58 ∷ []))

long_most : (gs : List ℕ) (start len : ℕ) → length gs ≡ 8 → start + len ≤ 8 → 1 < len → length (groups_text (take start gs)) + 2 + length (groups_text (drop (start + len) gs)) ≤ 39
long_most gs start len eight within long =
    omega (arith, text_most (take start gs), text_most (drop (start + len) gs), length-take-le start gs (omega arith), length-drop (start + len) gs)

pub least_len : (a : Addr) → 2 ≤ length (addr_text a)
least_len a =
    let gs = groups_of a in
    let h = spelling_kept gs in
    elim (cases_lt 1 h.len) [
      | inl long ↦ omega (arith, ap length (h.shortened long), long_len gs h.start h.len)
      | inr short ↦ omega (arith, ap length (h.whole short), eight_least gs (length-groups_of a))
    ]

pub most_len : (a : Addr) → length (addr_text a) ≤ 39
most_len a =
    let gs = groups_of a in
    let h = spelling_kept gs in
    elim (cases_lt 1 h.len) [
      | inl long ↦ omega (arith, ap length (h.shortened long), long_len gs h.start h.len, long_most gs h.start h.len (length-groups_of a) (omega (arith, h.run.run.within, length-groups_of a)) long)
      | inr short ↦ omega (arith, ap length (h.whole short), eight_most gs (length-groups_of a))
    ]
