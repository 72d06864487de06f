-- The lines in front of the entries of a segment, one by one.
use Rattle.std.proofs.Common.{◌≡◌, ◌≢◌, ◌+◌, ◌≤◌, ◌<◌, ℕ, zero, suc, List, [], ◌∷◌, ◌++◌, map, length, take, codes, slice_get, Option, Some, None, Result, Ok, Err, IfSome, unwrap_or, refl, ap, sym, ◌∙◌, arith, append_assoc, length-take-le}
use Rattle.std.proofs.lemmas.List.{length-map, take_all}
use Rattle.std.proofs.lemmas.Option.{slice_get_within}
use Rattle.savi_ends.specs.Octets.{in_front}
use Rattle.savi_ends.proofs.Octets.{in_front_again}
use Rattle.hist_store.specs.TextOfLines.{joined, lines_text}
use Rattle.hist_store.specs.JournalTexts.{begin_line}
use Rattle.hist_store.proofs.LineLemmas.{lines_text-append}
use Rattle.hist_store.proofs.Words.{parted}
use Rattle.journal_check.specs.declared.answer.Checked.{Checked}
use Rattle.journal_check.specs.declared.answer.Checked.TheVariants.{Good, Wrong, BadLine, Failed, NoMemory}
use Rattle.journal_check.specs.Feeds.{HasNoFeed, BeginsWithNoLine}
use Rattle.journal_check.specs.Headers.{LineFields}
use Rattle.journal_check.specs.Fronts.{DepartsAfter}
use Rattle.journal_check.specs.Openings.{BreaksAt}
use Rattle.journal_check.specs.Answers.{IfRead}
use Rattle.journal_check.proofs.LineFronts.{avoids_plain}

pub some_same : (s t : List ℕ) → Some s ≡ Some t → s ≡ t
some_same s t e = ap (λ (o : Option (List ℕ)). unwrap_or o s) e

-- lines, cut in front of one
record IsCut (lines : List LineFields) (i : ℕ) (line : List ℕ) : Type 0 where
  next : LineFields
  more : List LineFields
  is : lines ≡ take i lines ++ next ∷ more
  text : line ≡ joined next

cut_line : (lines : List LineFields) (i : ℕ) (line : List ℕ) → slice_get (map joined lines) i ≡ Some line → IsCut lines i line
cut_line [] i line here = let e : None ≡ Some line = here in cc
cut_line (first ∷ lines) zero line here = record { next = first; more = lines; is = refl; text = sym (some_same (joined first) line here) }
cut_line (first ∷ lines) (suc i) line here =
    let cut = cut_line lines i line here in
    record { next = cut.next; more = cut.more; is = ap (λ (ls : List LineFields). first ∷ ls) cut.is; text = cut.text }

line_more : (lines : List LineFields) (i : ℕ) (line : List ℕ) → slice_get (map joined lines) i ≡ Some line → lines_text (take (suc i) lines) ≡ lines_text (take i lines) ++ (line ++ 10 ∷ [])
line_more [] i line here = let e : None ≡ Some line = here in cc
line_more (first ∷ lines) zero line here = ap (λ (t : List ℕ). t ++ 10 ∷ []) (some_same (joined first) line here)
line_more (first ∷ lines) (suc i) line here =
    ap (λ (t : List ℕ). joined first ++ 10 ∷ t) (line_more lines i line here)
    ∙ sym (append_assoc (joined first) (10 ∷ lines_text (take i lines)) (line ++ 10 ∷ []))

pub line_within : (lines : List LineFields) (i : ℕ) (line : List ℕ) → slice_get (map joined lines) i ≡ Some line → i < length lines
line_within lines i line here =
    let within = slice_get_within (map joined lines) i line here in
    let size = length-map lines joined in
    omega (arith, within, size)

-- one more line was read
pub one_more : (lines : List LineFields) (i : ℕ) (line : List ℕ) (whole mid after : Option (List ℕ)) → slice_get (map joined lines) i ≡ Some line → whole ≡ in_front (lines_text (take i lines)) mid
    → mid ≡ in_front (line ++ 10 ∷ []) after → whole ≡ in_front (lines_text (take (i + 1) lines)) after
one_more lines i line whole mid after here told taken =
    let one : suc i ≡ i + 1 = omega arith in
    let front = lines_text (take i lines) in
    told ∙ ap (in_front front) taken ∙ in_front_again front (line ++ 10 ∷ []) after
    ∙ ap (λ (t : List ℕ). in_front t after) (sym (line_more lines i line here) ∙ ap (λ (k : ℕ). lines_text (take k lines)) one)

-- all of them were, and `begin`
pub all_more : (lines : List LineFields) (i : ℕ) (whole mid after : Option (List ℕ)) → length lines ≤ i → whole ≡ in_front (lines_text (take i lines)) mid → mid ≡ in_front (codes "begin" ++ 10 ∷ []) after
    → whole ≡ in_front (lines_text (lines ++ begin_line ∷ [])) after
all_more lines i whole mid after past told taken =
    let front = lines_text lines in
    told ∙ ap (λ (ls : List LineFields). in_front (lines_text ls) mid) (take_all i lines past)
    ∙ ap (in_front front) taken ∙ in_front_again front (codes "begin" ++ 10 ∷ []) after
    ∙ ap (λ (t : List ℕ). in_front t after) (sym (lines_text-append lines (begin_line ∷ [])))

-- a line that isn't the one that should come

abbrev pub ComesNot : List ℕ → List ℕ → Type 0
ComesNot line octets = (more : List ℕ) → octets ≢ line ++ 10 ∷ more

pub broken_not : (line : List ℕ) (ahead : Option (List ℕ)) → HasNoFeed line → length line ≤ 3400 → IfSome ahead BeginsWithNoLine → IfSome ahead (ComesNot line)
broken_not line None plain short none = tt
broken_not line (Some rest) plain short none = λ more. none line more plain short

pub other_not : (line other : List ℕ) (ahead after : Option (List ℕ)) → HasNoFeed line → HasNoFeed other → (other ≡ line → ⊥) → ahead ≡ in_front (other ++ 10 ∷ []) after → IfSome ahead (ComesNot line)
other_not line other ahead None plain plain' apart taken = rw taken tt
other_not line other ahead (Some rest) plain plain' apart taken = rw taken (λ more e.
    let parts = parted 10 other line rest more (avoids_plain other plain') (avoids_plain line plain) (sym (append_assoc other (10 ∷ []) rest) ∙ e) in
    apart parts.0)

-- where they break off

off_line : (lines : List LineFields) (i : ℕ) (line rest : List ℕ) → slice_get (map joined lines) i ≡ Some line → ComesNot line rest → DepartsAfter (lines ++ begin_line ∷ []) (lines_text (take i lines) ++ rest) i
off_line lines i line rest here not =
    let cut = cut_line lines i line here in
    let within = line_within lines i line here in
    record {
      lines = take i lines;
      next = cut.next;
      later = cut.more ++ begin_line ∷ [];
      all = ap (λ (ls : List LineFields). ls ++ begin_line ∷ []) cut.is ∙ append_assoc (take i lines) (cut.next ∷ cut.more) (begin_line ∷ []);
      behind = rest;
      text = refl;
      none = λ more e. not more (e ∙ ap (λ (t : List ℕ). t ++ 10 ∷ more) (sym cut.text));
      count_is = sym (length-take-le i lines (omega (arith, within)));
    }

off_begin : (lines : List LineFields) (rest : List ℕ) → ComesNot (codes "begin") rest → DepartsAfter (lines ++ begin_line ∷ []) (lines_text lines ++ rest) (length lines)
off_begin lines rest not = record { lines = lines; next = begin_line; later = []; all = refl; behind = rest; text = refl; none = not; count_is = refl }

-- the answer there, of the whole text

module _ (lines : List LineFields) (before : ℕ) where
  abbrev AtBreak : Checked → List ℕ → Type 0
  AtBreak a octets = BreaksAt (lines ++ begin_line ∷ []) before octets a

  line_at : (i : ℕ) (line : List ℕ) (a : Checked) (whole mid : Option (List ℕ)) → slice_get (map joined lines) i ≡ Some line → whole ≡ in_front (lines_text (take i lines)) mid → a ≡ BadLine (before + i + 1)
      → IfSome mid (ComesNot line) → IfSome whole (AtBreak a)
  line_at i line a whole None here told is not = rw told tt
  line_at i line a whole (Some rest) here told is not =
      let number : before + i + 1 ≡ before + 1 + i = omega arith in
      rw told (i, off_line lines i line rest here not, is ∙ ap BadLine number)

  begin_at : (i : ℕ) (a : Checked) (whole mid : Option (List ℕ)) → i ≤ length lines → length lines ≤ i → whole ≡ in_front (lines_text (take i lines)) mid → a ≡ BadLine (before + i + 1)
      → IfSome mid (ComesNot (codes "begin")) → IfSome whole (AtBreak a)
  begin_at i a whole None low past told is not = rw told tt
  begin_at i a whole (Some rest) low past told is not =
      let number : before + i + 1 ≡ before + 1 + length lines = omega (arith, low, past) in
      let all : whole ≡ Some (lines_text lines ++ rest) = told ∙ ap (λ (ls : List LineFields). in_front (lines_text ls) (Some rest)) (take_all i lines past) in
      rw all (length lines, off_begin lines rest not, is ∙ ap BadLine number)

  pub line_off : (i : ℕ) (line : List ℕ) (a : Checked) (whole mid : Option (List ℕ)) → slice_get (map joined lines) i ≡ Some line → whole ≡ in_front (lines_text (take i lines)) mid
      → IfRead a ((a ≡ BadLine (before + i + 1)) × IfSome mid (ComesNot line)) → IfRead a (IfSome whole (AtBreak a))
  line_off i line (Good n) whole mid here told bad = line_at i line (Good n) whole mid here told bad.0 bad.1
  line_off i line (Wrong n want have) whole mid here told bad = line_at i line (Wrong n want have) whole mid here told bad.0 bad.1
  line_off i line (BadLine n) whole mid here told bad = line_at i line (BadLine n) whole mid here told bad.0 bad.1
  line_off i line Failed whole mid here told bad = tt
  line_off i line NoMemory whole mid here told bad = tt

  pub begin_off : (i : ℕ) (a : Checked) (whole mid : Option (List ℕ)) → i ≤ length lines → length lines ≤ i → whole ≡ in_front (lines_text (take i lines)) mid
      → IfRead a ((a ≡ BadLine (before + i + 1)) × IfSome mid (ComesNot (codes "begin"))) → IfRead a (IfSome whole (AtBreak a))
  begin_off i (Good n) whole mid low past told bad = begin_at i (Good n) whole mid low past told bad.0 bad.1
  begin_off i (Wrong n want have) whole mid low past told bad = begin_at i (Wrong n want have) whole mid low past told bad.0 bad.1
  begin_off i (BadLine n) whole mid low past told bad = begin_at i (BadLine n) whole mid low past told bad.0 bad.1
  begin_off i Failed whole mid low past told bad = tt
  begin_off i NoMemory whole mid low past told bad = tt

ok_err : {T E : Type 0} (x : T) (y : E) → ◌≡◌ {A = Result T E} (Ok x) (Err y) → ⊥
ok_err x y e = cc

-- what came out well isn't a failed read
pub ok_not_err : {T E : Type 0} {r : Result T E} {x : T} {y : E} → r ≡ Ok x → r ≡ Err y → ⊥
ok_not_err {T} {E} {r} {x} {y} is fault = absurd (ok_err x y (sym is ∙ fault))
