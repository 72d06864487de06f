-- One line more behind the first ones.
use Rattle.std.proofs.Common.{◌≡◌, ℕ, zero, suc, ◌+◌, List, [], ◌∷◌, ◌++◌, map, take, sym, ap, ◌∙◌, arith, Option, Some, None, unwrap_or, slice_get}
use Rattle.std.proofs.lemmas.List.{append_assoc}
use Rattle.savi_kinds.specs.Characters.{line_feed}
use Rattle.hist_store.specs.TextOfLines.{joined, lines_text}

some_same : {X : Type 0} (x y : X) → Some x ≡ Some y → x ≡ y
some_same {X} x y e = ap (λ (o : Option X). unwrap_or o x) e

line_more : (lines : List (List (List ℕ))) (n : ℕ) (line : List ℕ) → slice_get (map joined lines) n ≡ Some line → lines_text (take (suc n) lines) ≡ lines_text (take n lines) ++ (line ++ line_feed ∷ [])
line_more [] n line here = let e : None ≡ Some line = here in cc
line_more (first ∷ lines) zero line here = ap (λ (t : List ℕ). t ++ line_feed ∷ []) (some_same (joined first) line here)
line_more (first ∷ lines) (suc n) line here =
    ap (λ (t : List ℕ). joined first ++ line_feed ∷ t) (line_more lines n line here)
    ∙ sym (append_assoc (joined first) (line_feed ∷ lines_text (take n lines)) (line ++ line_feed ∷ []))

-- a text with the lines up to this one, which is put in two pieces
pub text_more : (text : List ℕ) (lines : List (List (List ℕ))) (n : ℕ) (line piece : List ℕ) → piece ≡ line → slice_get (map joined lines) n ≡ Some line
    → ((text ++ lines_text (take n lines)) ++ piece) ++ line_feed ∷ [] ≡ text ++ lines_text (take (n + 1) lines)
text_more text lines n line piece is here =
    let one : suc n ≡ n + 1 = omega arith in
    ap (λ (p : List ℕ). ((text ++ lines_text (take n lines)) ++ p) ++ line_feed ∷ []) is
    ∙ append_assoc (text ++ lines_text (take n lines)) line (line_feed ∷ [])
    ∙ append_assoc text (lines_text (take n lines)) (line ++ line_feed ∷ [])
    ∙ ap (λ (t : List ℕ). text ++ t) (sym (line_more lines n line here))
    ∙ ap (λ (k : ℕ). text ++ lines_text (take k lines)) one
