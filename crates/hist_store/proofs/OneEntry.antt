-- A line says one entry, and the line that is written of an entry says it.
use Rattle.std.proofs.Common.{ℕ, ◌≡◌, ◌^◌, ◌<◌, List, [], ◌∷◌, length, decimal, codes, Option, Some, None, IsSome, IsNone, refl, sym, ap, ap₂, ◌∙◌, arith, true≢false}
use Rattle.std.proofs.lemmas.Fmt.{decimal_injective}
use Rattle.hex.specs.Hex.{IsBytes}
use Rattle.savi_kinds.specs.declared.verdict.Scope.{Scope}
use Rattle.savi_kinds.specs.declared.verdict.Scope.TheVariants as scopes
use Rattle.savi_kinds.specs.declared.verdict.Verdict.{Verdict}
use Rattle.savi_kinds.specs.declared.verdict.Verdict.TheVariants as verdicts
use Rattle.savi_kinds.specs.declared.entry.Entry.{Entry}
use Rattle.savi_kinds.specs.declared.entry.Act.{Act}
use Rattle.savi_kinds.specs.declared.entry.Act.TheVariants.{Frame, Long, Tick, Command, Drain, End}
use Rattle.savi_kinds.specs.declared.entry.How.{How}
use Rattle.savi_kinds.specs.declared.entry.How.TheVariants as hows
use Rattle.hist_store.specs.Rows.{Row}
use Rattle.hist_store.specs.PortTexts.{port_text}
use Rattle.hist_store.specs.VerdictTexts.{scope_text, verdict_text, entry_verdict_text}
use Rattle.hist_store.specs.EndTexts.{how_fields}
use Rattle.hist_store.specs.LineTexts.{hex_text, act_fields, line_fields, line_text, FitsAct, FitsLine}
use Rattle.hist_store.specs.TextOfLines.{joined}
use Rattle.hist_store.specs.EntryLines.{IsHowInRange, IsActInRange, IsInRange, SaysEntry, act_said, entry_said, row_said}
use Rattle.hist_store.proofs.Words.{joined_same}
use Rattle.hist_store.proofs.FieldWords.{line_row}
use Rattle.hist_store.proofs.OnePort.{first_apart, port_by_text, who_by_text}
use Rattle.hist_store.proofs.VerdictRead.{rule_by_name, scope_all, scope_trusted, behind_same}
use Rattle.hist_store.proofs.HexRead.{hex_text-none, dash_none, digits_of_text, octets_same}
use Rattle.hist_store.proofs.PortsRead.{ports_by_text}
use Rattle.hist_store.proofs.EntryRead.{no_verdict, entry_same}

-- the fields of a line, one by one

head : {s t : List ℕ} {l m : List (List ℕ)} → s ∷ l ≡ t ∷ m → s ≡ t
head e = cc

rest : {s t : List ℕ} {l m : List (List ℕ)} → s ∷ l ≡ t ∷ m → l ≡ m
rest e = cc

-- what has the same text is the same

some_scope : (a b : Scope) → (let o : Option Scope = Some a in o) ≡ Some b → a ≡ b
some_scope a b e = cc

scope_by_text : (a b : Scope) → scope_text a ≡ scope_text b → a ≡ b
scope_by_text scopes.All b e = some_scope scopes.All b (scope_all b e)
scope_by_text scopes.TrustedOnly b e = some_scope scopes.TrustedOnly b (scope_trusted b e)
scope_by_text (scopes.TrustedAnd p) scopes.All e = absurd (first_apart e refl)
scope_by_text (scopes.TrustedAnd p) scopes.TrustedOnly e = cc
scope_by_text (scopes.TrustedAnd p) (scopes.TrustedAnd q) e = ap scopes.TrustedAnd (port_by_text p q (behind_same (codes "trusted+") (port_text p) (port_text q) e))

verdict_by_text : (a b : Verdict) → verdict_text a ≡ verdict_text b → a ≡ b
verdict_by_text (verdicts.Pass s) (verdicts.Pass t) e = ap verdicts.Pass (scope_by_text s t (behind_same (codes "pass-") (scope_text s) (scope_text t) e))
verdict_by_text (verdicts.Drop r) (verdicts.Drop q) e = ap verdicts.Drop (rule_by_name r q (behind_same (codes "drop-") _ _ e))
verdict_by_text (verdicts.Pass s) (verdicts.Drop q) e = absurd (first_apart e refl)
verdict_by_text (verdicts.Drop r) (verdicts.Pass t) e = absurd (first_apart e refl)

same_verdicts : (o p : Option Verdict) → IsSome o → IsSome p → entry_verdict_text o ≡ entry_verdict_text p → o ≡ p
same_verdicts None p some some' e = absurd (true≢false (sym some))
same_verdicts (Some a) None some some' e = absurd (true≢false (sym some'))
same_verdicts (Some a) (Some b) some some' e = ap Some (verdict_by_text a b e)

no_verdicts : (o p : Option Verdict) → IsNone o → IsNone p → o ≡ p
no_verdicts o p none none' = no_verdict o none ∙ sym (no_verdict p none')

octets_by_text : (xs ys : List ℕ) → IsBytes xs → IsBytes ys → hex_text xs ≡ hex_text ys → xs ≡ ys
octets_by_text [] ys p q e = sym (dash_none ys (sym hex_text-none ∙ e))
octets_by_text (x ∷ xs) ys p q e =
    let other : hex_text (x ∷ xs) ≡ codes "-" → ⊥ = λ dash. let empty : x ∷ xs ≡ [] = dash_none (x ∷ xs) (sym dash) in absurd (cc empty) in
    let one = digits_of_text (hex_text (x ∷ xs)) (x ∷ xs) refl other in
    let two = digits_of_text (hex_text (x ∷ xs)) ys e other in
    octets_same (x ∷ xs) ys p q (sym one.0 ∙ two.0)

how_by_text : (a b : How) → IsHowInRange a → IsHowInRange b → how_fields a ≡ how_fields b → a ≡ b
how_by_text hows.End hows.End p q e = refl
how_by_text hows.Quit hows.Quit p q e = refl
how_by_text hows.Failed hows.Failed p q e = refl
how_by_text hows.Unwritten hows.Unwritten p q e = refl
how_by_text hows.Paused hows.Paused p q e = refl
how_by_text hows.Failed hows.Paused p q e = absurd (first_apart (head e) refl)
how_by_text hows.Paused hows.Failed p q e = absurd (first_apart (head e) refl)
how_by_text (hows.Malformed m) (hows.Malformed n) p q e = let text : decimal m ≡ decimal n = cc in ap hows.Malformed (decimal_injective m n p q text)
how_by_text (hows.Overlong m) (hows.Overlong n) p q e = let text : decimal m ≡ decimal n = cc in ap hows.Overlong (decimal_injective m n p q text)
how_by_text a b p q e = cc

-- a number of 32 bits by its text
count_by_text : (m n : ℕ) → m < 2 ^ 32 → n < 2 ^ 32 → decimal m ≡ decimal n → m ≡ n
count_by_text m n p q e = decimal_injective m n (omega (arith, p)) (omega (arith, q)) e

-- the parts of two entries that their lines tell behind number, pass and moment
record IsSame (e f : Entry) (os ps : List ℕ) (a b : Act) : Type 0 where
  act : a ≡ b
  verdict : e.verdict ≡ f.verdict
  outs : e.outs ≡ f.outs
  cuts : e.cuts ≡ f.cuts
  probes : e.probes ≡ f.probes
  lost : e.lost ≡ f.lost
  octets : os ≡ ps

acts_same : (e f : Entry) (os ps : List ℕ) (a b : Act) → IsInRange e → IsInRange f → IsActInRange a → IsActInRange b → IsBytes os → IsBytes ps → FitsAct e os a → FitsAct f ps b → act_fields e os a ≡ act_fields f ps b
    → IsSame e f os ps a b
acts_same e f os ps (Frame p s at len) (Frame q t at' len') one two range range' bytes bytes' fits fits' fields =
    let octets = octets_by_text os ps bytes bytes' (head (rest (rest (rest fields)))) in
    let port = port_by_text p q (head (rest fields)) in
    let stamp = decimal_injective s t range.0 range'.0 (head (rest (rest fields))) in
    let size : len ≡ len' = sym fits.1 ∙ ap length octets ∙ fits'.1 in
    let place : at ≡ at' = range.1 ∙ sym range'.1 in
    record {
      act = cc (port, stamp, size, place);
      verdict = same_verdicts e.verdict f.verdict fits.0 fits'.0 (head (rest (rest (rest (rest fields)))));
      outs = ports_by_text e.outs f.outs one.outs two.outs (head (rest (rest (rest (rest (rest fields))))));
      cuts = ports_by_text e.cuts f.cuts one.cuts two.cuts (head (rest (rest (rest (rest (rest (rest fields)))))));
      probes = count_by_text e.probes f.probes one.probes two.probes (head (rest (rest (rest (rest (rest (rest (rest fields))))))));
      lost = count_by_text e.lost f.lost one.lost two.lost (head (rest (rest (rest (rest (rest (rest (rest (rest fields)))))))));
      octets = octets;
    }
acts_same e f os ps (Long p s len) (Long q t len') one two range range' bytes bytes' fits fits' fields =
    let port = port_by_text p q (head (rest fields)) in
    let stamp = decimal_injective s t range.0 range'.0 (head (rest (rest fields))) in
    let size = count_by_text len len' range.1 range'.1 (head (rest (rest (rest fields)))) in
    record {
      act = cc (port, stamp, size);
      verdict = same_verdicts e.verdict f.verdict fits.0 fits'.0 (head (rest (rest (rest (rest fields)))));
      outs = fits.1.0 ∙ sym fits'.1.0;
      cuts = fits.1.1 ∙ sym fits'.1.1;
      probes = count_by_text e.probes f.probes one.probes two.probes (head (rest (rest (rest (rest (rest fields))))));
      lost = count_by_text e.lost f.lost one.lost two.lost (head (rest (rest (rest (rest (rest (rest fields)))))));
      octets = fits.2 ∙ sym fits'.2;
    }
acts_same e f os ps (Tick s) (Tick t) one two range range' bytes bytes' fits fits' fields = record {
  act = ap Tick (decimal_injective s t range range' (head (rest fields)));
  verdict = no_verdicts e.verdict f.verdict fits.0 fits'.0;
  outs = fits.1.0 ∙ sym fits'.1.0;
  cuts = fits.1.1 ∙ sym fits'.1.1;
  probes = count_by_text e.probes f.probes one.probes two.probes (head (rest (rest fields)));
  lost = count_by_text e.lost f.lost one.lost two.lost (head (rest (rest (rest fields))));
  octets = fits.2 ∙ sym fits'.2;
}
acts_same e f os ps (Command s at len) (Command t at' len') one two range range' bytes bytes' fits fits' fields =
    let octets = octets_by_text os ps bytes bytes' (head (rest (rest fields))) in
    let stamp = decimal_injective s t range.0 range'.0 (head (rest fields)) in
    let size : len ≡ len' = sym fits.2 ∙ ap length octets ∙ fits'.2 in
    let place : at ≡ at' = range.1 ∙ sym range'.1 in
    record {
      act = cc (stamp, size, place);
      verdict = no_verdicts e.verdict f.verdict fits.0 fits'.0;
      outs = fits.1.0 ∙ sym fits'.1.0;
      cuts = fits.1.1 ∙ sym fits'.1.1;
      probes = count_by_text e.probes f.probes one.probes two.probes (head (rest (rest (rest fields))));
      lost = count_by_text e.lost f.lost one.lost two.lost (head (rest (rest (rest (rest fields)))));
      octets = octets;
    }
acts_same e f os ps (Drain p m) (Drain q n) one two range range' bytes bytes' fits fits' fields =
    let port = port_by_text p q (head (rest fields)) in
    let count = count_by_text m n range range' (head (rest (rest fields))) in
    record {
      act = cc (port, count);
      verdict = no_verdicts e.verdict f.verdict fits.0 fits'.0;
      outs = fits.1.0 ∙ sym fits'.1.0;
      cuts = fits.1.1 ∙ sym fits'.1.1;
      probes = fits.2.0 ∙ sym fits'.2.0;
      lost = fits.2.1 ∙ sym fits'.2.1;
      octets = fits.3 ∙ sym fits'.3;
    }
acts_same e f os ps (End who how) (End who' how') one two range range' bytes bytes' fits fits' fields =
    let pass = who_by_text who who' (head (rest fields)) in
    let reason = how_by_text how how' range range' (rest (rest fields)) in
    record {
      act = cc (pass, reason);
      verdict = no_verdicts e.verdict f.verdict fits.0 fits'.0;
      outs = fits.1.0 ∙ sym fits'.1.0;
      cuts = fits.1.1 ∙ sym fits'.1.1;
      probes = fits.2.0 ∙ sym fits'.2.0;
      lost = fits.2.1 ∙ sym fits'.2.1;
      octets = fits.3 ∙ sym fits'.3;
    }
acts_same e f os ps a b one two range range' bytes bytes' fits fits' fields = absurd (first_apart (head fields) refl)

the_row : Entry → List ℕ → Row
the_row entry octets = record { entry = entry; octets = octets }

row_same : (row other : Row) → row.entry ≡ other.entry → row.octets ≡ other.octets → row ≡ other
unfolding the_row
row_same row other entry octets = ap₂ the_row entry octets

pub one_entry : (line : List ℕ) (n m : ℕ) (row other : Row) → SaysEntry line n row → SaysEntry line m other → (n ≡ m) × (row ≡ other)
one_entry line n m row other one two =
    let fields : line_fields n row ≡ line_fields m other =
    joined_same (line_fields n row) (line_fields m other) (line_row n row one.octets) (line_row m other two.octets) (sym one.text ∙ two.text) in
    let by = count_by_text row.entry.by other.entry.by one.numbers.by two.numbers.by (head (rest fields)) in
    let moment = decimal_injective row.entry.moment other.entry.moment one.numbers.moment two.numbers.moment (head (rest (rest fields))) in
    let parts = acts_same row.entry other.entry row.octets other.octets row.entry.act other.entry.act one.numbers two.numbers one.numbers.act two.numbers.act one.octets two.octets one.fits two.fits (rest (rest (rest fields))) in
    let entry = entry_same row.entry other.entry by moment parts.act parts.verdict parts.outs parts.cuts parts.probes parts.lost in
    (decimal_injective n m one.number two.number (head fields), row_same row other entry parts.octets)

-- an entry as a line says it has the same line

fits_said : (entry : Entry) (octets : List ℕ) (act : Act) → FitsAct entry octets act → FitsAct (entry_said entry) octets (act_said act)
fits_said entry octets (Frame port stamp at len) fits = fits
fits_said entry octets (Long port stamp len) fits = fits
fits_said entry octets (Tick stamp) fits = fits
fits_said entry octets (Command stamp at len) fits = fits
fits_said entry octets (Drain port count) fits = fits
fits_said entry octets (End who how) fits = fits

pub act_fields_said : (entry : Entry) (octets : List ℕ) (act : Act) → act_fields entry octets act ≡ act_fields (entry_said entry) octets (act_said act)
act_fields_said entry octets (Frame port stamp at len) = refl
act_fields_said entry octets (Long port stamp len) = refl
act_fields_said entry octets (Tick stamp) = refl
act_fields_said entry octets (Command stamp at len) = refl
act_fields_said entry octets (Drain port count) = refl
act_fields_said entry octets (End who how) = refl

pub written_says : (n : ℕ) (row : Row) → n < 2 ^ 64 → IsInRange (entry_said row.entry) → IsBytes row.octets → FitsLine row → SaysEntry (line_text n row) n (row_said row)
written_says n row small numbers bytes fits = record {
  number = small;
  numbers = numbers;
  octets = bytes;
  fits = fits_said row.entry row.octets row.entry.act fits;
  text = ap (λ (fields : List (List ℕ)). joined (decimal n ∷ decimal row.entry.by ∷ decimal row.entry.moment ∷ fields)) (act_fields_said row.entry row.octets row.entry.act);
}
