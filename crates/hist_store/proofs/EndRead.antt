-- What has the text of a reason.
use Rattle.std.proofs.Common.{ℕ, ◌≡◌, ◌==◌, ◌^◌, ◌<◌, Bool, true, false, List, [], ◌∷◌, length, decimal, codes, Some, refl, ap, sym, ◌∙◌, arith, inl, inr, ◌⊎◌}
use Rattle.std.proofs.lemmas.Bool.{eqb-true}
use Rattle.std.proofs.lemmas.Fmt.{decimal_injective}
use Rattle.savi_kinds.specs.declared.entry.How.{How}
use Rattle.savi_kinds.specs.declared.entry.How.TheVariants as hows
use Rattle.hist_store.specs.TextOfLines.{spaced}
use Rattle.hist_store.specs.EndTexts.{how_fields}
use Rattle.hist_store.specs.EntryLines.{IsHowInRange}
use Rattle.hist_store.proofs.Words.{IsWord, word_of}

pub malformed_is : (how : How) (value : ℕ) → IsHowInRange how → value < 2 ^ 64 → how_fields how ≡ codes "malformed" ∷ decimal value ∷ [] → Some (hows.Malformed value) ≡ Some how
malformed_is (hows.Malformed at) value range small e = let text : decimal value ≡ decimal at = cc in ap (λ n. Some (hows.Malformed n)) (decimal_injective value at small range text)
malformed_is how value range small e = cc

pub overlong_is : (how : How) (value : ℕ) → IsHowInRange how → value < 2 ^ 64 → how_fields how ≡ codes "overlong" ∷ decimal value ∷ [] → Some (hows.Overlong value) ≡ Some how
overlong_is (hows.Overlong at) value range small e = let text : decimal value ≡ decimal at = cc in ap (λ n. Some (hows.Overlong n)) (decimal_injective value at small range text)
overlong_is how value range small e = cc

-- a reason is a word, or a word and a number
pub record IsSpelled (how : How) : Type 0 where
  pub word : List ℕ
  pub rest : List (List ℕ)
  pub is_word : IsWord word
  pub fields : how_fields how ≡ word ∷ rest
  pub either : (rest ≡ []) ⊎ ((n : ℕ) × (n < 2 ^ 64) × (rest ≡ decimal n ∷ []))

pub spelled : (how : How) → IsHowInRange how → IsSpelled how
spelled hows.End range = record { word = codes "end"; rest = []; is_word = word_of (codes "end") refl; fields = refl; either = inl refl }
spelled hows.Quit range = record { word = codes "quit"; rest = []; is_word = word_of (codes "quit") refl; fields = refl; either = inl refl }
spelled (hows.Malformed at) range = record { word = codes "malformed"; rest = decimal at ∷ []; is_word = word_of (codes "malformed") refl; fields = refl; either = inr (at, range, refl) }
spelled (hows.Overlong at) range = record { word = codes "overlong"; rest = decimal at ∷ []; is_word = word_of (codes "overlong") refl; fields = refl; either = inr (at, range, refl) }
spelled hows.Failed range = record { word = codes "failed"; rest = []; is_word = word_of (codes "failed") refl; fields = refl; either = inl refl }
spelled hows.Unwritten range = record { word = codes "unwritten"; rest = []; is_word = word_of (codes "unwritten") refl; fields = refl; either = inl refl }
spelled hows.Paused range = record { word = codes "paused"; rest = []; is_word = word_of (codes "paused") refl; fields = refl; either = inl refl }

-- a text of fields is empty exactly where there is none
pub some_left : (text : List ℕ) (b : Bool) (field : List ℕ) (fields : List (List ℕ)) → text ≡ spaced (field ∷ fields) → b ≡ (length text == 0) → b ≡ true → ⊥
some_left text b field fields is empty holds =
    let none : length text ≡ 0 = eqb-true (length text) 0 (sym empty ∙ holds) in
    let size = ap length is in
    omega arith

pub none_left : (text : List ℕ) (b : Bool) → text ≡ [] → b ≡ (length text == 0) → b ≡ false → ⊥
none_left text b is empty fails = let bad : true ≡ false = rw is at (sym empty ∙ fails) in cc
