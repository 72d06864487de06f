-- The fields of two lines, cut one by one.
use Rattle.std.proofs.Common.{◌≡◌, ◌≢◌, ℕ, Bool, true, false, true≢false, not, if◌then◌else◌, List, [], ◌∷◌, drop, length, Option, Some, None, refl, ap, sym, ◌∙◌, arith, length-append}
use Rattle.std.specs.Str.{bytes_eq}
use Rattle.std.specs.Cmp.Lexicographic.{bytes_decides}
use Rattle.hist_store.specs.TextOfLines.{HasNoSpace, joined, spaced}
use Rattle.hist_store.proofs.LineLemmas.{joined-spaced}
use Rattle.hist_store.proofs.FieldsRead.{spaceless}
use Rattle.hist_store.proofs.Words.{IsLine, IsWords}
use Rattle.journal_check.specs.Differing.{AreSpaceless, first_apart}

-- the fields of a line have no space

words_spaceless : (ws : List (List ℕ)) → IsWords ws → AreSpaceless ws
words_spaceless [] are = tt
words_spaceless (w ∷ ws) are = (spaceless w are.0, words_spaceless ws are.1)

pub line_spaceless : (ws : List (List ℕ)) → IsLine ws → AreSpaceless ws
line_spaceless [] is = absurd is
line_spaceless (w ∷ ws) is = (spaceless w is.0, words_spaceless ws is.1)

-- behind the space
pub behind_space : (fields : List (List ℕ)) → drop 1 (spaced fields) ≡ joined fields
behind_space [] = refl
behind_space (field ∷ fields) = sym (joined-spaced field fields)

-- a text, cut at its first space
abbrev pub IsCut : List ℕ → List ℕ → List ℕ → Type 0
IsCut text field rest = (x : List ℕ) (xs : List (List ℕ)) → HasNoSpace x → text ≡ joined (x ∷ xs) → (field ≡ x) × (rest ≡ joined xs)

-- the answer of a test

pub apart_by : (a b : List ℕ) (r : Bool) → r ≡ not (bytes_eq a b) → r ≡ true → a ≢ b
apart_by a b r is holds = λ same. true≢false (sym holds ∙ is ∙ ap not ((bytes_decides a b).1 same))

same_at : (a b : List ℕ) (t : Bool) → bytes_eq a b ≡ t → not t ≡ false → a ≡ b
same_at a b true test holds = (bytes_decides a b).0 test
same_at a b false test holds = absurd (true≢false holds)

pub same_by : (a b : List ℕ) (r : Bool) → r ≡ not (bytes_eq a b) → r ≡ false → a ≡ b
same_by a b r is holds = same_at a b (bytes_eq a b) refl (sym is ∙ holds)

abbrev Both : Type 0
Both = List ℕ × List ℕ

abbrev picked : Both → Option Both → Both
picked both None = both
picked both (Some other) = other

none_some : (p : Both) → None ≡ Some p → ⊥
none_some p e = cc

-- two lines of which some field differs, both cut at their first spaces
module _ (f o want have field other rest behind : List ℕ) (cut : IsCut want field rest) (cut' : IsCut have other behind) where
  here_at : (t : Bool) (w h : List ℕ) (more : Option Both) → bytes_eq w h ≡ t → field ≡ w → other ≡ h → field ≢ other → (if t then more else Some (w, h)) ≡ Some (f, o) → (field ≡ f) × (other ≡ o)
  here_at true w h more test a b differ is = absurd (differ (a ∙ (bytes_decides w h).0 test ∙ sym b))
  here_at false w h more test a b differ is = (a ∙ ap (λ (p : Option Both). (picked (w, h) p).0) is, b ∙ ap (λ (p : Option Both). (picked (w, h) p).1) is)

  -- the first ones differ
  pub here : (wants haves : List (List ℕ)) → AreSpaceless wants → AreSpaceless haves → want ≡ joined wants → have ≡ joined haves → first_apart wants haves ≡ Some (f, o) → field ≢ other → (field ≡ f) × (other ≡ o)
  here [] haves s s' text text' is differ = absurd (none_some (f, o) is)
  here (w ∷ ws) [] s s' text text' is differ = absurd (none_some (f, o) is)
  here (w ∷ ws) (h ∷ hs) s s' text text' is differ = here_at (bytes_eq w h) w h (first_apart ws hs) refl (cut w ws s.0 text).0 (cut' h hs s'.0 text').0 differ is

  -- they are the same, and others differ
  pub record GoesOn : Type 0 where
    pub wants : List (List ℕ)
    pub haves : List (List ℕ)
    pub spaceless : AreSpaceless wants
    pub spaceless' : AreSpaceless haves
    pub text : rest ≡ joined wants
    pub text' : behind ≡ joined haves
    pub apart : first_apart wants haves ≡ Some (f, o)

  on_at : (t : Bool) (w h : List ℕ) (more : Option Both) → bytes_eq w h ≡ t → w ≡ h → (if t then more else Some (w, h)) ≡ Some (f, o) → more ≡ Some (f, o)
  on_at true w h more test same is = is
  on_at false w h more test same is = absurd (true≢false (sym ((bytes_decides w h).1 same) ∙ test))

  pub on : (wants haves : List (List ℕ)) → AreSpaceless wants → AreSpaceless haves → want ≡ joined wants → have ≡ joined haves → first_apart wants haves ≡ Some (f, o) → field ≡ other → GoesOn
  on [] haves s s' text text' is same = absurd (none_some (f, o) is)
  on (w ∷ ws) [] s s' text text' is same = absurd (none_some (f, o) is)
  on (w ∷ ws) (h ∷ hs) s s' text text' is same =
      let a = cut w ws s.0 text in
      let b = cut' h hs s'.0 text' in
      record {
        wants = ws;
        haves = hs;
        spaceless = s.1;
        spaceless' = s'.1;
        text = a.1;
        text' = b.1;
        apart = on_at (bytes_eq w h) w h (first_apart ws hs) refl (sym a.0 ∙ same ∙ b.0) is;
      }

  -- a line of one empty field that is the same in both
  pub not_empty : (wants haves : List (List ℕ)) → AreSpaceless wants → AreSpaceless haves → want ≡ joined wants → have ≡ joined haves → first_apart wants haves ≡ Some (f, o) → field ≡ other → want ≡ [] → ⊥
  not_empty [] haves s s' text text' is same none = none_some (f, o) is
  not_empty (w ∷ ws) [] s s' text text' is same none = none_some (f, o) is
  not_empty (w ∷ []) (h ∷ hs) s s' text text' is same none =
      none_some (f, o) (on_at (bytes_eq w h) w h None refl (sym (cut w [] s.0 text).0 ∙ same ∙ (cut' h hs s'.0 text').0) is)
  not_empty (w ∷ v ∷ ws) (h ∷ hs) s s' text text' is same none =
      let whole = length-append w (32 ∷ joined (v ∷ ws)) in
      let size = ap length (sym none ∙ text) in
      omega (arith, whole, size)
