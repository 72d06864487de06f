-- The fields that are computed are short, and two entries of one event with different ones have a first one that differs.
use Rattle.std.proofs.Common.{◌≡◌, ◌≢◌, ◌%◌, ◌/◌, ◌^◌, ◌<◌, ◌==◌, ◌⊎◌, ℕ, zero, suc, nat_lt, Bool, true, false, true≢false, ◌&&◌, if◌then◌else◌, List, [], ◌∷◌, ◌++◌, map, decimal, codes, Option, Some, None, refl, ap, ap₂, sym, ◌∙◌, inl, inr, subst, arith, All}
use Rattle.std.proofs.lemmas.Bool.{and_parts}
use Rattle.std.proofs.lemmas.Bool.Decides.{nat_tests}
use Rattle.std.proofs.lemmas.List.Elements.{All-nil, All-cons}
use Rattle.std.specs.List.{join_with_byte}
use Rattle.std.specs.Fmt.{digits, digits_onto, digit_glyph}
use Rattle.std.specs.Str.{bytes_eq}
use Rattle.std.specs.Cmp.Lexicographic.{bytes_decides}
use Rattle.savi_kinds.specs.declared.port.PortSet.{PortSet}
use Rattle.savi_kinds.specs.declared.verdict.Rule.{Rule}
use Rattle.savi_kinds.specs.declared.verdict.Rule.TheVariants as rules
use Rattle.savi_kinds.specs.declared.verdict.Scope.{Scope}
use Rattle.savi_kinds.specs.declared.verdict.Scope.TheVariants as scopes
use Rattle.savi_kinds.specs.declared.verdict.Verdict.{Verdict}
use Rattle.savi_kinds.specs.declared.verdict.Verdict.TheVariants.{Pass, Drop}
use Rattle.savi_kinds.specs.declared.entry.Entry.{Entry}
use Rattle.savi_kinds.specs.declared.entry.Act.{Act}
use Rattle.savi_kinds.specs.declared.entry.Act.TheVariants as acts
use Rattle.savi_kinds.specs.Ports.{number_of}
use Rattle.hist_store.specs.TextOfLines.{joined, or_dash}
use Rattle.hist_store.specs.Rows.{Row}
use Rattle.hist_store.specs.PortTexts.{members, members_text}
use Rattle.hist_store.specs.VerdictTexts.{rule_name, scope_text, entry_verdict_text}
use Rattle.hist_store.specs.EndTexts.{how_fields}
use Rattle.hist_store.specs.LineTexts.{act_fields, line_fields, line_text, FitsLine}
use Rattle.hist_store.specs.EntryLines.{IsInRange, SaysEntry, act_said, entry_said}
use Rattle.hist_store.proofs.OneEntry.{one_entry, written_says}
use Rattle.journal_check.specs.Differing.{first_apart, IsField, IsSameComputed}
use Rattle.journal_check.proofs.ShortLines.{number_size, verdict_size, ports_size}
use Rattle.journal_check.proofs.SaidFields.{fields_said}

-- octets below 128

abbrev ArePlain : List ℕ → Type 0
ArePlain [] = Unit {0}
ArePlain (x ∷ xs) = (x < 128) × ArePlain xs

-- the same as a test, which computes
abbrev plain_test : List ℕ → Bool
plain_test [] = true
plain_test (x ∷ xs) = nat_lt x 128 && plain_test xs

plain_of : (t : List ℕ) → plain_test t ≡ true → ArePlain t
plain_of [] is = tt
plain_of (x ∷ xs) is = let parts = and_parts (nat_lt x 128) (plain_test xs) is in (grind (arith, nat_tests, parts.0), plain_of xs parts.1)

plain_append : (s t : List ℕ) → ArePlain s → ArePlain t → ArePlain (s ++ t)
plain_append [] t a b = b
plain_append (x ∷ s) t a b = (a.0, plain_append s t a.1 b)

all_plain : (t : List ℕ) → ArePlain t → All (λ octet. octet < 128) t
all_plain [] is = All-nil (λ octet. octet < 128)
all_plain (x ∷ xs) is = All-cons (λ octet. octet < 128) x xs is.0 (all_plain xs is.1)

-- numbers

plain_glyph : (d : ℕ) → d < 10 → digit_glyph false d < 128
plain_glyph d low = grind (arith, nat_tests)

plain_onto_at : (k n : ℕ) (acc : List ℕ) (b : Bool) → ArePlain (digits_onto k 10 false (n / 10) (digit_glyph false (n % 10) ∷ acc)) → ArePlain acc
    → ArePlain (if b then digit_glyph false (n % 10) ∷ acc else digits_onto k 10 false (n / 10) (digit_glyph false (n % 10) ∷ acc))
plain_onto_at k n acc true more is = (plain_glyph (n % 10) (omega arith), is)
plain_onto_at k n acc false more is = more

plain_onto : (k n : ℕ) (acc : List ℕ) → ArePlain acc → ArePlain (digits_onto k 10 false n acc)
plain_onto zero n acc is = is
plain_onto (suc k) n acc is =
    plain_onto_at k n acc (n / 10 == 0) (plain_onto k (n / 10) (digit_glyph false (n % 10) ∷ acc) (plain_glyph (n % 10) (omega arith), is)) is

plain_decimal : (n : ℕ) → ArePlain (decimal n)
unfolding digits
plain_decimal n = plain_onto 64 n [] tt

pub number_field : (n : ℕ) → n < 2 ^ 64 → IsField (decimal n)
number_field n fits = record { short = let few = number_size n fits in omega (arith, few); plain = all_plain (decimal n) (plain_decimal n) }

pub count_field : (n : ℕ) → n < 2 ^ 32 → IsField (decimal n)
count_field n fits = number_field n (omega (arith, fits))

-- verdicts

plain_rule : (rule : Rule) → plain_test (rule_name rule) ≡ true
plain_rule rules.PortDown = refl
plain_rule rules.Malformed = refl
plain_rule rules.ReservedGroup = refl
plain_rule rules.SourceMac = refl
plain_rule rules.Tagged = refl
plain_rule rules.BadIpv6 = refl
plain_rule rules.HiddenUpper = refl
plain_rule rules.UnknownNextHeader = refl
plain_rule rules.RouterAdvert = refl
plain_rule rules.FragmentedNd = refl
plain_rule rules.BadNd = refl
plain_rule rules.Redirect = refl
plain_rule rules.DhcpServer = refl
plain_rule rules.UnspecifiedSource = refl
plain_rule rules.OffLink = refl
plain_rule rules.NotAssigned = refl
plain_rule rules.PortFull = refl
plain_rule rules.WrongPort = refl
plain_rule rules.Unverified = refl
plain_rule rules.Contested = refl
plain_rule rules.NaTarget = refl
plain_rule rules.PendingFull = refl
plain_rule rules.DhcpContested = refl

plain_scope : (scope : Scope) → ArePlain (scope_text scope)
plain_scope scopes.All = plain_of (codes "all") refl
plain_scope scopes.TrustedOnly = plain_of (codes "trusted") refl
plain_scope (scopes.TrustedAnd port) = plain_append (codes "trusted+") (decimal (number_of port)) (plain_of (codes "trusted+") refl) (plain_decimal (number_of port))

plain_verdict : (verdict : Option Verdict) → ArePlain (entry_verdict_text verdict)
plain_verdict None = tt
plain_verdict (Some (Pass scope)) = plain_append (codes "pass-") (scope_text scope) (plain_of (codes "pass-") refl) (plain_scope scope)
plain_verdict (Some (Drop rule)) = plain_append (codes "drop-") (rule_name rule) (plain_of (codes "drop-") refl) (plain_of (rule_name rule) (plain_rule rule))

pub verdict_field : (verdict : Option Verdict) → IsField (entry_verdict_text verdict)
verdict_field verdict =
    record { short = let few = verdict_size verdict in omega (arith, few); plain = all_plain (entry_verdict_text verdict) (plain_verdict verdict) }

-- sets of ports

plain_dash : (t : List ℕ) → ArePlain t → ArePlain (or_dash t)
plain_dash [] is = plain_of (codes "-") refl
plain_dash (x ∷ xs) is = is

plain_commas : (ns : List ℕ) → ArePlain (join_with_byte 44 (map decimal ns))
plain_commas [] = tt
plain_commas (n ∷ []) = plain_decimal n
plain_commas (n ∷ m ∷ ns) =
    plain_append (decimal n) (44 ∷ join_with_byte 44 (map decimal (m ∷ ns))) (plain_decimal n) (omega arith, plain_commas (m ∷ ns))

plain_ports : (set : PortSet) → ArePlain (members_text set)
plain_ports set = plain_dash (join_with_byte 44 (map decimal (members set))) (plain_commas (members set))

pub ports_field : (set : PortSet) → IsField (members_text set)
ports_field set = record { short = let few = ports_size set in omega (arith, few); plain = all_plain (members_text set) (plain_ports set) }

-- lists of fields that are the same, or short where they differ

abbrev AreNear : List (List ℕ) → List (List ℕ) → Type 0
AreNear [] [] = Unit {0}
AreNear [] (b ∷ vs) = ⊥
AreNear (a ∷ ws) [] = ⊥
AreNear (a ∷ ws) (b ∷ vs) = ((a ≡ b) ⊎ (IsField a × IsField b)) × AreNear ws vs

abbrev Both : Type 0
Both = List ℕ × List ℕ

some_none : (p : Both) → Some p ≡ None → ⊥
some_none p e = cc

abbrev picked : Both → Option Both → Both
picked both None = both
picked both (Some other) = other

some_same : (p q : Both) → Some p ≡ Some q → p ≡ q
some_same p q e = ap (picked p) e

-- the first fields that differ are short
near_at : (t : Bool) (a b : List ℕ) (rest : Option Both) (both : Both) → bytes_eq a b ≡ t → (a ≡ b) ⊎ (IsField a × IsField b) → (rest ≡ Some both → IsField both.0 × IsField both.1)
    → (if t then rest else Some (a, b)) ≡ Some both → IsField both.0 × IsField both.1
near_at true a b rest both test near more is = more is
near_at false a b rest both test (inl same) more is = absurd (true≢false (sym ((bytes_decides a b).1 same) ∙ test))
near_at false a b rest both test (inr fields) more is =
    let pair = some_same (a, b) both is in
    (subst IsField (ap (λ (p : Both). p.0) pair) fields.0, subst IsField (ap (λ (p : Both). p.1) pair) fields.1)

near_fields : (ws vs : List (List ℕ)) (both : Both) → AreNear ws vs → first_apart ws vs ≡ Some both → IsField both.0 × IsField both.1
near_fields [] [] both near is = absurd (some_none both (sym is))
near_fields [] (b ∷ vs) both near is = absurd near
near_fields (a ∷ ws) [] both near is = absurd near
near_fields (a ∷ ws) (b ∷ vs) both near is =
    near_at (bytes_eq a b) a b (first_apart ws vs) both refl near.0 (λ more. near_fields ws vs both near.1 more) is

-- where none differs they are the same
none_at : (t : Bool) (a b : List ℕ) (ws vs : List (List ℕ)) (rest : Option Both) → bytes_eq a b ≡ t → (rest ≡ None → ws ≡ vs) → (if t then rest else Some (a, b)) ≡ None → a ∷ ws ≡ b ∷ vs
none_at true a b ws vs rest test more is = ap₂ (λ (x : List ℕ) (xs : List (List ℕ)). x ∷ xs) ((bytes_decides a b).0 test) (more is)
none_at false a b ws vs rest test more is = absurd (some_none (a, b) is)

none_apart : (ws vs : List (List ℕ)) → AreNear ws vs → first_apart ws vs ≡ None → ws ≡ vs
none_apart [] [] near is = refl
none_apart [] (b ∷ vs) near is = absurd near
none_apart (a ∷ ws) [] near is = absurd near
none_apart (a ∷ ws) (b ∷ vs) near is = none_at (bytes_eq a b) a b ws vs (first_apart ws vs) refl (λ more. none_apart ws vs near.1 more) is

near_same : (fields : List (List ℕ)) → AreNear fields fields
near_same [] = tt
near_same (field ∷ fields) = (inl refl, near_same fields)

-- two entries of one act

near_act : (a b : Entry) (octets : List ℕ) (act : Act) → IsInRange a → IsInRange b → AreNear (act_fields a octets act) (act_fields b octets act)
near_act a b octets (acts.Frame port stamp at len) x y = (
  inl refl,
  (
    inl refl,
    (
      inl refl,
      (
        inl refl,
        (
          inr (verdict_field a.verdict, verdict_field b.verdict),
          (
            inr (ports_field a.outs, ports_field b.outs),
            (
              inr (ports_field a.cuts, ports_field b.cuts),
              (inr (count_field a.probes x.probes, count_field b.probes y.probes), (inr (count_field a.lost x.lost, count_field b.lost y.lost), tt)),
            ),
          ),
        ),
      ),
    ),
  ),
)
near_act a b octets (acts.Long port stamp len) x y = (
  inl refl,
  (
    inl refl,
    (
      inl refl,
      (
        inl refl,
        (
          inr (verdict_field a.verdict, verdict_field b.verdict),
          (inr (count_field a.probes x.probes, count_field b.probes y.probes), (inr (count_field a.lost x.lost, count_field b.lost y.lost), tt)),
        ),
      ),
    ),
  ),
)
near_act a b octets (acts.Tick stamp) x y =
    (inl refl, (inl refl, (inr (count_field a.probes x.probes, count_field b.probes y.probes), (inr (count_field a.lost x.lost, count_field b.lost y.lost), tt))))
near_act a b octets (acts.Command stamp at len) x y =
    (inl refl, (inl refl, (inl refl, (inr (count_field a.probes x.probes, count_field b.probes y.probes), (inr (count_field a.lost x.lost, count_field b.lost y.lost), tt)))))
near_act a b octets (acts.Drain port count) x y = (inl refl, (inl refl, (inl refl, tt)))
near_act a b octets (acts.End who how) x y = (inl refl, (inl refl, near_same (how_fields how)))

-- an entry with octets
abbrev pub the_row : Entry → List ℕ → Row
the_row entry octets = record { entry = entry; octets = octets }

near_lines : (n : ℕ) (a b : Entry) (octets : List ℕ) → IsInRange a → IsInRange b → a.act ≡ b.act → AreNear (line_fields n (the_row a octets)) (line_fields n (the_row b octets))
near_lines n a b octets x y same = (
  inl refl,
  (
    inr (count_field a.by x.by, count_field b.by y.by),
    (
      inr (number_field a.moment x.moment, number_field b.moment y.moment),
      subst (λ (act : Act). AreNear (act_fields a octets a.act) (act_fields b octets act)) same (near_act a b octets a.act x y),
    ),
  ),
)

pub both_same : (a b a' b' : List ℕ) → a ≡ a' → b ≡ b' → ◌≡◌ {A = Option Both} (Some (a, b)) (Some (a', b'))
both_same a b a' b' first second = ap₂ (λ (x y : List ℕ). Some (x, y)) first second

-- the first fields that differ, and that they can be told
pub record IsTold (wants haves : List (List ℕ)) : Type 0 where
  pub field : List ℕ
  pub other : List ℕ
  pub apart : first_apart wants haves ≡ Some (field, other)
  pub field_is : IsField field
  pub other_is : IsField other

told_at : (o : Option Both) (wants haves : List (List ℕ)) → first_apart wants haves ≡ o → AreNear wants haves → wants ≢ haves → IsTold wants haves
told_at None wants haves is near other = absurd (other (none_apart wants haves near is))
told_at (Some both) wants haves is near other =
    let fields = near_fields wants haves both near is in
    record { field = both.0; other = both.1; apart = is; field_is = fields.0; other_is = fields.1 }

-- the lines of two entries of one event of which something else is computed
pub lines_told : (n : ℕ) (line : List ℕ) (want have : Entry) (octets : List ℕ) → SaysEntry line n (the_row have octets) → FitsLine (the_row want octets) → IsInRange (entry_said want) → act_said want.act ≡ have.act
    → ¬ IsSameComputed want have → IsTold (line_fields n (the_row want octets)) (line_fields n (the_row have octets))
lines_told n line want have octets says fits range act differs =
    let wants = line_fields n (the_row want octets) in
    let haves = line_fields n (the_row have octets) in
    let said = fields_said n (the_row want octets) in
    let near = subst (λ (fields : List (List ℕ)). AreNear fields haves) (sym said) (near_lines n (entry_said want) have octets range says.numbers act) in
    told_at (first_apart wants haves) wants haves refl near (λ same.
    let text : line ≡ line_text n (the_row want octets) = says.text ∙ ap joined (sym same) in
    let again = subst (λ (l : List ℕ). SaysEntry l n (the_row (entry_said want) octets)) (sym text) (written_says n (the_row want octets) says.number range says.octets fits) in
    let rows : the_row (entry_said want) octets ≡ the_row have octets = (one_entry line n n (the_row (entry_said want) octets) (the_row have octets) again says).1 in
    differs (record {
      by = ap (λ (r : Row). r.entry.by) rows;
      moment = ap (λ (r : Row). r.entry.moment) rows;
      verdict = ap (λ (r : Row). r.entry.verdict) rows;
      queued = record {
        outs = ap (λ (r : Row). r.entry.outs) rows;
        cuts = ap (λ (r : Row). r.entry.cuts) rows;
        probes = ap (λ (r : Row). r.entry.probes) rows;
        lost = ap (λ (r : Row). r.entry.lost) rows;
      };
    }))
