-- A text has one header, or one first line that is bad in it.
use Rattle.std.proofs.Common.{◌≡◌, ◌+◌, ℕ, List, [], ◌∷◌, ◌++◌, length, get_or, refl, ap, sym, ◌∙◌, inl, inr, subst, arith, append_assoc}
use Rattle.savi_kinds.specs.declared.plan.Plan.{Plan}
use Rattle.hist_store.specs.TextOfLines.{lines_text}
use Rattle.hist_store.specs.declared.version.Version.{Version}
use Rattle.hist_store.specs.declared.version.Version.TheVariants.{One, Two}
use Rattle.hist_store.specs.JournalTexts.{address_text, begin_line, header_lines, version_line}
use Rattle.hist_store.proofs.Words.{IsLines, lines_append}
use Rattle.savi_history.proofs.AddressTexts.{written-IsAddressText}
use Rattle.savi_history.proofs.Fields.{lines_begin, lines_header}
use Rattle.savi_history.proofs.Headers.{header_by_lines}
use Rattle.journal_check.specs.Headers.{LineFields, IsPlan, ComesNext, HasBadHeader, plan_lines}
use Rattle.journal_check.proofs.LineFronts.{front_lines, AreFronts, fronts}

pub head_is : (version : Version) (plan : Plan) → IsLines (plan_lines version plan)
head_is version plan = lines_append (header_lines version address_text plan) (begin_line ∷ []) (lines_header address_text written-IsAddressText version plan) lines_begin

before_is : (lines : List LineFields) (next : LineFields) → ComesNext lines next → IsLines lines
before_is lines next comes = front_lines lines (next ∷ comes.more) (subst IsLines comes.header (head_is comes.version comes.plan))

some_line : (l : LineFields) (more : List LineFields) → l ∷ more ≡ [] → ⊥
some_line l more e = cc

-- a header doesn't go on behind a whole one
not_longer : (version version' : Version) (plan plan' : Plan) (l : LineFields) (more : List LineFields) → IsPlan plan → IsPlan plan' → plan_lines version' plan' ≡ plan_lines version plan ++ l ∷ more → ⊥
not_longer version version' plan plan' l more is is' e =
    let parts = header_by_lines address_text written-IsAddressText version version' plan plan' (l ∷ more) [] is.valid is'.valid is.addresses is'.addresses
    (sym (append_assoc (header_lines version address_text plan) (begin_line ∷ []) (l ∷ more)) ∙ sym e) in
    some_line l more parts.1

-- what comes next behind a front
comes_earlier : (ls ms : List LineFields) (l m : LineFields) (more : List LineFields) → ms ≡ ls ++ l ∷ more → ComesNext ms m → ComesNext ls l
comes_earlier ls ms l m more e comes = record {
  version = comes.version;
  plan = comes.plan;
  is_plan = comes.is_plan;
  more = more ++ m ∷ comes.more;
  header = comes.header ∙ ap (λ (xs : List LineFields). xs ++ m ∷ comes.more) e ∙ append_assoc ls (l ∷ more) (m ∷ comes.more);
}

bad_at : (octets : List ℕ) (m n : ℕ) (a : HasBadHeader octets m) (b : HasBadHeader octets n) → AreFronts a.lines a.rest b.lines b.rest → m ≡ n
bad_at octets m n a b (inl same) = a.number ∙ ap (λ (xs : List LineFields). length xs + 1) same.lines ∙ sym b.number
bad_at octets m n a b (inr (inl on)) =
    absurd (a.none on.next (lines_text on.more ++ b.rest) (comes_earlier a.lines b.lines on.next b.next on.more on.lines b.begins) on.rest)
bad_at octets m n a b (inr (inr on)) =
    absurd (b.none on.next (lines_text on.more ++ a.rest) (comes_earlier b.lines a.lines on.next a.next on.more on.lines a.begins) on.rest)

pub bad_once : (octets : List ℕ) (m n : ℕ) → HasBadHeader octets m → HasBadHeader octets n → m ≡ n
bad_once octets m n a b =
    bad_at octets m n a b (fronts a.lines b.lines a.rest b.rest (before_is a.lines a.next a.begins) (before_is b.lines b.next b.begins) (sym a.text ∙ b.text))

not_bad_at : (octets : List ℕ) (n : ℕ) (version : Version) (plan : Plan) (rest : List ℕ) (a : HasBadHeader octets n) → IsPlan plan → AreFronts a.lines a.rest (plan_lines version plan) rest → ⊥
not_bad_at octets n version plan rest a is (inl same) =
    not_longer version a.begins.version plan a.begins.plan a.next a.begins.more is a.begins.is_plan (a.begins.header ∙ ap (λ (xs : List LineFields). xs ++ a.next ∷ a.begins.more) same.lines)
not_bad_at octets n version plan rest a is (inr (inl on)) =
    a.none on.next (lines_text on.more ++ rest) (record { version = version; plan = plan; is_plan = is; more = on.more; header = on.lines }) on.rest
not_bad_at octets n version plan rest a is (inr (inr on)) =
    let comes = comes_earlier (plan_lines version plan) a.lines on.next a.next on.more on.lines a.begins in
    not_longer version comes.version plan comes.plan on.next comes.more is comes.is_plan comes.header

-- a text with a whole header has no bad line in it
pub not_bad : (octets : List ℕ) (n : ℕ) (version : Version) (plan : Plan) (rest : List ℕ) → HasBadHeader octets n → IsPlan plan → octets ≡ lines_text (plan_lines version plan) ++ rest → ⊥
not_bad octets n version plan rest a is text =
    not_bad_at octets n version plan rest a is (fronts a.lines (plan_lines version plan) a.rest rest (before_is a.lines a.next a.begins) (head_is version plan) (sym a.text ∙ text))

version_same : (version version' : Version) → version_line version ≡ version_line version' → version ≡ version'
version_same One One e = refl
version_same Two Two e = refl
version_same One Two e = let number : 49 ≡ 50 = ap (λ (line : LineFields). get_or (get_or line 1 []) 0 0) e in absurd (omega (arith, number))
version_same Two One e = let number : 50 ≡ 49 = ap (λ (line : LineFields). get_or (get_or line 1 []) 0 0) e in absurd (omega (arith, number))

-- what two headers of one text are
pub record IsOneHeader (version version' : Version) (plan plan' : Plan) (rest rest' : List ℕ) : Type 0 where
  pub versions : version ≡ version'
  pub plans : plan ≡ plan'
  pub rests : rest ≡ rest'

one_plan_at : (version version' : Version) (plan plan' : Plan) (rest rest' : List ℕ) → IsPlan plan → IsPlan plan' → AreFronts (plan_lines version plan) rest (plan_lines version' plan') rest' → IsOneHeader version version' plan plan' rest rest'
one_plan_at version version' plan plan' rest rest' is is' (inl same) =
    let parts = header_by_lines address_text written-IsAddressText version version' plan plan' [] [] is.valid is'.valid is.addresses is'.addresses same.lines in
    record {
      versions = version_same version version' (ap (λ (lines : List LineFields). get_or lines 0 []) same.lines);
      plans = sym is.nameless ∙ parts.0 ∙ is'.nameless;
      rests = same.rest;
    }
one_plan_at version version' plan plan' rest rest' is is' (inr (inl on)) = absurd (not_longer version version' plan plan' on.next on.more is is' on.lines)
one_plan_at version version' plan plan' rest rest' is is' (inr (inr on)) = absurd (not_longer version' version plan' plan on.next on.more is' is on.lines)

-- two headers of one text are those of one version and one plan
pub one_plan : (version version' : Version) (plan plan' : Plan) (rest rest' : List ℕ) → IsPlan plan → IsPlan plan' → lines_text (plan_lines version plan) ++ rest ≡ lines_text (plan_lines version' plan') ++ rest'
    → IsOneHeader version version' plan plan' rest rest'
one_plan version version' plan plan' rest rest' is is' text =
    one_plan_at version version' plan plan' rest rest' is is' (fronts (plan_lines version plan) (plan_lines version' plan') rest rest' (head_is version plan) (head_is version' plan') text)
