use Rattle.std.proofs.Common.{◌≡◌, map, length, arith, ◌∙◌, sym, List, ℕ, [], ◌∷◌, codes, decimal, Decides, refl}
use Rattle.std.specs.String.{string_bytes}
use Rattle.std.proofs.lemmas.Bool.Decides.{Decides-eqb}
use Rattle.std.proofs.lemmas.Slice.Eq.{slice_eq-Decides}
use Rattle.run_config.proofs.WordLists.{map-three}
use Rattle.run_config.proofs.asked.learning_of.Goals as goal

pub returns-in_ok-window-in-len3-clause-some : goal.returns-in_ok-window-in-len3-clause-some
returns-in_ok-window-in-len3-clause-some c =
    let words : List (List ℕ) = map string_bytes c.args.words.now in
    let form : List ℕ = string_bytes c.form-item.result in
    let first : List ℕ = string_bytes c.file-item.result in
    let second : List ℕ = string_bytes c.window-item.result in
    let three : length c.args.words.now ≡ 3 = omega (arith, c.in-len3.len_at_least, c.in-len3.len_below) in
    let is : words ≡ form ∷ first ∷ second ∷ [] =
    map-three string_bytes c.args.words.now c.form-item.result c.file-item.result c.window-item.result three c.form-item.is c.file-item.is c.window-item.is in
    let decides : Decides c.eq.result (c.as_str.result.now ≡ codes "learn") = slice_eq-Decides Decides-eqb _ _ _ c.eq.ensures in
    let learn : form ≡ codes "learn" = sym c.as_str.ensures.value ∙ decides.0 c.if-eq.true in
    let window_is : second ≡ decimal c.in_ok-window-in-len3.window = sym c.as_bytes.ensures.value ∙ c.in_ok-window-in-len3.ensures.read.0 in
    record {
      spelled = is ∙ rw (learn, c.as_str-in-len3.ensures.value, window_is) refl;
      within = c.in_ok-window-in-len3.ensures.read.1;
    }
