use Rattle.std.proofs.Common.{◌≡◌, map, length, arith, ◌∙◌, sym, List, ℕ, [], ◌∷◌, Decides, refl, ap, true, false, rules}
use Rattle.std.specs.String.{string_bytes}
use Rattle.std.proofs.lemmas.Bool.Decides.{Decides-eqb}
use Rattle.std.proofs.lemmas.Slice.Eq.{slice_eq-Decides}
use Rattle.std.proofs.lemmas.List.{length-map}
use Rattle.run_config.proofs.WordLists.{map-two}
use Rattle.run_config.proofs.asked.file_behind.Goals as goal
use Rattle.run_config.proofs.asked.file_behind.Goals.{in_default-via-then-words-lt2, in_default-via-in-len2+else-eq, in_default-via-else-words-lt2+else-words-lt3}

pub returns-in-len2-clause-some : goal.returns-in-len2-clause-some
returns-in-len2-clause-some c =
    let words : List (List ℕ) = map string_bytes c.args.words.now in
    let first : List ℕ = string_bytes c.first-item.result in
    let file : List ℕ = string_bytes c.file-item.result in
    let two : length c.args.words.now ≡ 2 = omega (arith, c.in-len2.len_at_least, c.in-len2.len_below) in
    let is : words ≡ first ∷ file ∷ [] = map-two string_bytes c.args.words.now c.first-item.result c.file-item.result two c.first-item.is c.file-item.is in
    let decides : Decides c.eq.result (c.as_str.result.now ≡ c.args.form.now) = slice_eq-Decides Decides-eqb _ _ _ c.eq.ensures in
    let same : first ≡ c.args.form.now = sym c.as_str.ensures.value ∙ decides.0 c.if-eq.true in
    is ∙ rw (same, c.as_str-in-len2.ensures.value) refl

other_word : (words : List (List ℕ)) (first form file file' : List ℕ) → words ≡ first ∷ file ∷ [] → words ≡ form ∷ file' ∷ [] → first ≡ form
other_word words first form file file' one other =
    let both : first ∷ file ∷ [] ≡ form ∷ file' ∷ [] = sym one ∙ other in
    cc

pub returns-in_default-clause-none : goal.returns-in_default-clause-none
returns-in_default-clause-none c = λ file is.
    let two : length c.args.words.now ≡ 2 = sym (length-map c.args.words.now string_bytes) ∙ ap length is in
    elim c.in_default.branch [
      | in_default-via-then-words-lt2 w ↦ search (rules, two)
      | in_default-via-in-len2+else-eq w ↦
          let pair : length c.args.words.now ≡ 2 = omega (arith, w.in-len2.len_at_least, w.in-len2.len_below) in
          let words : map string_bytes c.args.words.now ≡ string_bytes w.first-item.result ∷ string_bytes w.file-item.result ∷ [] = map-two string_bytes c.args.words.now w.first-item.result w.file-item.result pair w.first-item.is w.file-item.is in
          let same : string_bytes w.first-item.result ≡ c.args.form.now = other_word _ _ _ _ _ words is in
          let decides : Decides w.eq.result (w.as_str.result.now ≡ c.args.form.now) = slice_eq-Decides Decides-eqb _ _ _ w.eq.ensures in
          let yes : w.eq.result ≡ true = decides.1 (w.as_str.ensures.value ∙ same) in
          let no : w.eq.result ≡ false = w.if-eq.false in
          cc
      | in_default-via-else-words-lt2+else-words-lt3 w ↦ search (rules, two)
    ]
